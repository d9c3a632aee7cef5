-- Fronts of chains, and of accepted ones.
use Rattle.std.proofs.Common.{◌≡◌, ℕ, ◌+◌, ◌<◌, ◌⊎◌, List, [], ◌∷◌, length, refl, sym, ap, subst, inl, inr, arith}
use Rattle.rpki_rules.specs.World.{World}
use Rattle.rpki_rules.specs.Points.{Link}
use Rattle.rpki_rules.specs.Chains.{keys, IsFront, Accepted}

pub front_itself : (cs : List Link) → IsFront cs cs
front_itself [] = refl
front_itself (c ∷ cs) = inl refl

pub front_up : (c : Link) (cs ds : List Link) → IsFront (c ∷ cs) ds → IsFront cs ds
front_up c cs [] f = absurd (cc f)
front_up c cs (d ∷ ds) (inl e) = let t : cs ≡ ds = cc in inr (subst (λ xs. IsFront cs xs) t (front_itself cs))
front_up c cs (d ∷ ds) (inr f) = inr (front_up c cs ds f)

pub front_cases : (cs ds : List Link) → IsFront cs ds → (ds ≡ cs) ⊎ ((c : Link) × IsFront (c ∷ cs) ds)
front_cases cs [] f = inl (sym f)
front_cases cs (d ∷ ds) (inl e) = inl (sym e)
front_cases cs (d ∷ ds) (inr f) = inr (elim (front_cases cs ds f) [ inl e ↦ (d, inl (ap (λ xs. d ∷ xs) (sym e))) | inr g ↦ (g.0, inr g.1) ])

pub accepted_up : (w : World) (name : List ℕ) (a c : Link) (cs : List Link) → Accepted w name a (c ∷ cs) → Accepted w name a cs
accepted_up w name a c cs h = record { descends = h.descends.0; once = h.once.1; short = let s : length (c ∷ cs) < w.depth = h.short in omega arith }

pub accepted_front : (w : World) (name : List ℕ) (a : Link) (cs ds : List Link) → IsFront cs ds → Accepted w name a ds → Accepted w name a cs
accepted_front w name a cs [] f h = subst (λ xs. Accepted w name a xs) (sym f) h
accepted_front w name a cs (d ∷ ds) (inl e) h = subst (λ xs. Accepted w name a xs) (sym e) h
accepted_front w name a cs (d ∷ ds) (inr f) h = accepted_front w name a cs ds f (accepted_up w name a d ds h)

pub keys_count : (a : Link) (cs : List Link) → length (keys a cs) ≡ length cs + 1
keys_count a [] = refl
keys_count a (c ∷ cs) = let h = keys_count a cs in omega arith
