-- A witness has one number of points that are read.
use Rattle.std.proofs.Common.{◌≡◌, ℕ, ◌+◌, ◌⊎◌, List, [], ◌∷◌, ◌++◌, inl, inr, sym, ap, subst, ◌∙◌}
use Rattle.rpki_rules.specs.Objects.{Object}
use Rattle.rpki_rules.specs.Kinds.{Kind}
use Rattle.rpki_rules.specs.World.{World}
use Rattle.rpki_rules.specs.Points.{Link, Point}
use Rattle.rpki_rules.specs.Chains.{last_of}
use Rattle.rpki_rules.specs.Attests.{Payload, IsSigned}
use Rattle.rpki_rules.specs.Judge.{KeepsNeed, NeedAt, Needs}
use Rattle.rpki_rules.proofs.Readings.{one_point, one_signed}
use Rattle.rpki_judge.specs.Evidence.{IsBelow}
use Rattle.rpki_judge.specs.Counted.{NoneIsKept, ReadsAbove, ReadsFrom, OneCount}
use Rattle.rpki_judge.proofs.Links.{one_way, same_ends, places_are}

-- Above the last certificate.
one_above : (w : World) (a : Link) (cs : List Link) (need : Kind → ℕ → Type 0) (m n : ℕ) → ReadsAbove w a cs need m → ReadsAbove w a cs need n → m ≡ n
one_above w a [] need m n h k = h ∙ sym k
one_above w a (c ∷ cs) need m n (inl h) (inl k) = h.0 ∙ sym k.0
one_above w a (c ∷ cs) need m n (inl h) (inr k) = absurd (h.1 k.0 k.1 k.2)
one_above w a (c ∷ cs) need m n (inr h) (inl k) = absurd (k.1 h.0 h.1 h.2)
one_above w a (c ∷ cs) need m n (inr h) (inr k) =
    same (one_above w a cs (NeedAt c.cert h.1 need)) h.3 (subst (λ (p : Point). Read p n) (one_point w (last_of a cs).cert k.1 h.1 k.2 h.2) k.3)
  where
    Read : Point → ℕ → Type 0
    Read p count =
        ((count ≡ 1) × ¬ (IsBelow w (last_of a cs).cert p c.uri c.cert))
        ⊎ (IsBelow w (last_of a cs).cert p c.uri c.cert × (above : ℕ) × (count ≡ above + 1) × ReadsAbove w a cs (NeedAt c.cert p need) above)

    Above : Type 0
    Above = (i j : ℕ) → ReadsAbove w a cs (NeedAt c.cert h.1 need) i → ReadsAbove w a cs (NeedAt c.cert h.1 need) j → i ≡ j

    same : Above → Read h.1 m → Read h.1 n → m ≡ n
    same above (inl x) (inl y) = x.0 ∙ sym y.0
    same above (inl x) (inr y) = absurd (x.1 y.0)
    same above (inr x) (inl y) = absurd (y.1 x.0)
    same above (inr x) (inr y) = x.2 ∙ (ap (λ (i : ℕ). i + 1) (above x.1 y.1 x.3 y.3) ∙ sym y.2)

-- From the object's point up.
one_from : (w : World) (a : Link) (cs : List Link) (uri : List ℕ) (m n : ℕ) → ReadsFrom w a cs uri m → ReadsFrom w a cs uri n → m ≡ n
one_from w a cs uri m n (inl h) (inl k) = h.0 ∙ sym k.0
one_from w a cs uri m n (inl h) (inr k) = absurd (h.1 k.0 k.1)
one_from w a cs uri m n (inr h) (inl k) = absurd (k.1 h.0 h.1)
one_from w a cs uri m n (inr h) (inr k) = same h.2 (subst (λ (p : Point). Read p n) (one_point w (last_of a cs).cert k.0 h.0 k.1 h.1) k.2)
  where
    Read : Point → ℕ → Type 0
    Read p count =
        ((count ≡ 1) × NoneIsKept w (last_of a cs).cert p uri)
        ⊎ ((o : Object) × (x : Payload) × IsSigned w (last_of a cs).cert p uri o x × KeepsNeed o.cert (Needs x)
        × (above : ℕ) × (count ≡ above + 1) × ReadsAbove w a cs (NeedAt o.cert p (Needs x)) above)

    same : Read h.0 m → Read h.0 n → m ≡ n
    same (inl x) (inl y) = x.0 ∙ sym y.0
    same (inl x) (inr y) = absurd (x.1 y.0 y.1 y.2 y.3)
    same (inr x) (inl y) = absurd (y.1 x.0 x.1 x.2 x.3)
    same (inr x) (inr y) =
        let e = one_signed w (last_of a cs).cert h.0 uri y.0 x.0 y.1 x.1 y.2 x.2 in
        let r : ReadsAbove w a cs (NeedAt x.0.cert h.0 (Needs x.1)) y.4 =
        subst (λ (z : Payload). ReadsAbove w a cs (NeedAt x.0.cert h.0 (Needs z)) y.4) e.1
        (subst (λ (o : Object). ReadsAbove w a cs (NeedAt o.cert h.0 (Needs y.1)) y.4) e.0 y.6) in
        x.5 ∙ (ap (λ (i : ℕ). i + 1) (one_above w a cs (NeedAt x.0.cert h.0 (Needs x.1)) x.4 y.4 x.6 r) ∙ sym y.5)

pub one_count : OneCount
one_count w t m n (inl h) (inl k) = h.0 ∙ sym k.0
one_count w t m n (inl h) (inr k) = absurd (h.1 k.0 k.1 k.2)
one_count w t m n (inr h) (inl k) = absurd (k.1 h.0 h.1 h.2)
one_count w t m n (inr h) (inr k) =
    let a = h.0 in let cs = h.1 in let b = k.0 in let ds = k.1 in
    let q : ds ++ b ∷ [] ≡ cs ++ a ∷ [] = one_way w (ds ++ b ∷ []) (cs ++ a ∷ []) (places_are b ds ∙ (sym k.2.places_are ∙ (h.2.places_are ∙ sym (places_are a cs)))) k.2.at h.2.at in
    let s = same_ends ds cs b a q in
    one_from w a cs t.object m n h.3
    (subst (λ (l : Link). ReadsFrom w l cs t.object n) s.last (subst (λ (ls : List Link). ReadsFrom w b ls t.object n) s.front k.3))
