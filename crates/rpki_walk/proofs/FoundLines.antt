-- What a walk for lines gains by what is refused and what is shown.
use Rattle.std.proofs.Common.{◌≡◌, ℕ, ◌⊎◌, ◌↔◌, List, [], ◌∷◌, ◌++◌, map, Vec, Global, sym, subst, ◌∙◌, inl, inr}
use Rattle.rpki_rules.specs.Words.{Mem}
use Rattle.rpki_rules.specs.Attests.{Payload, WitnessValue, origins, provisions}
use Rattle.rpki_rules.specs.Views.{origin_of, provision_of, refusal_of}
use Rattle.rpki_rules.specs.declared.cause.Cause.{Cause}
use Rattle.rpki_rules.specs.declared.refusal.Refusal.{Refusal}
use Rattle.rpki_rules.specs.declared.origin.Origin.{Origin}
use Rattle.rpki_rules.specs.declared.customer.Provision.{Provision}
use Rattle.rpki_rules.proofs.Orders.{mem_append}
use Rattle.rpki_walk.specs.Facts.{Refuses, Shows, Originates, Provides, Reaches, Chains, Diagnoses, Unheld, ShownBy, Gains}
use Rattle.rpki_walk.specs.Alike.{IsPrinted}
use Rattle.rpki_walk.specs.Walked.{has_lines}
use Rattle.rpki_walk.specs.declared.lines.found.LinesFound.{LinesFound}
use Rattle.rpki_walk.proofs.Chained.{seen_more}

more : {Y : Type 0} (old new zs : List Y) → new ≡ old ++ zs → (y : Y) → Mem new y ↔ (Mem old y ⊎ Mem zs y)
more {Y = Y} old new zs e y = subst (λ (ys : List Y). Mem ys y ↔ (Mem old y ⊎ Mem zs y)) (sym e) (mem_append old zs y)

-- One refusal more.
pub refuse_gains : (f g : LinesFound) (name : List ℕ) (why : Cause) (r : Refusal) → refusal_of r ≡ record { name = name; cause = why } → g.origins ≡ f.origins → g.provisions ≡ f.provisions → g.refusals.items ≡ f.refusals.items ++ r ∷ [] → Gains IsPrinted (has_lines f) (λ x. Refuses name why ≡ x) (has_lines g)
refuse_gains f g name why r er eo ep e (Refuses n y) t = let h = seen_more refusal_of f.refusals.items g.refusals.items r e (record { name = n; cause = y }) in (
  λ m. elim (h.0 m) [ inl a ↦ inl a | inr q ↦ let k : record { name = name; cause = why } ≡ refusal_of r = sym er in let p = k ∙ q in inr (λ i. Refuses (p i).name (p i).cause) ],
  λ m. h.1 (elim m [ inl a ↦ inl a | inr q ↦ let a : name ≡ n = cc in let b : why ≡ y = cc in inr (er ∙ λ i. record { name = a i; cause = b i }) ]),
)
refuse_gains f g name why r er eo ep e (Shows s) t = absurd t
refuse_gains f g name why r er eo ep e (Originates s) t = (λ m. inl (subst (λ (v : Vec Origin Global). Mem (map origin_of v.items) s) eo m), λ m. elim m [ inl a ↦ subst (λ (v : Vec Origin Global). Mem (map origin_of v.items) s) (sym eo) a | inr q ↦ absurd (let p = q in cc) ])
refuse_gains f g name why r er eo ep e (Provides s) t = (λ m. inl (subst (λ (v : Vec Provision Global). Mem (map provision_of v.items) s) ep m), λ m. elim m [ inl a ↦ subst (λ (v : Vec Provision Global). Mem (map provision_of v.items) s) (sym ep) a | inr q ↦ absurd (let p = q in cc) ])
refuse_gains f g name why r er eo ep e (Reaches k n) t = absurd t
refuse_gains f g name why r er eo ep e (Chains v) t = absurd t
refuse_gains f g name why r er eo ep e (Diagnoses told) t = absurd t
refuse_gains f g name why r er eo ep e (Unheld told numbers) t = absurd t

-- One good object more, by whichever chain.
pub show_gains : (f g : LinesFound) (x : Payload) → g.refusals ≡ f.refusals → map origin_of g.origins.items ≡ map origin_of f.origins.items ++ origins x → map provision_of g.provisions.items ≡ map provision_of f.provisions.items ++ provisions x → (t : WitnessValue) → Gains IsPrinted (has_lines f) (ShownBy t x) (has_lines g)
show_gains f g x er eo ep t (Refuses n y) k = (λ m. inl (subst (λ (v : Vec Refusal Global). Mem (map refusal_of v.items) (record { name = n; cause = y })) er m), λ m. elim m [ inl a ↦ subst (λ (v : Vec Refusal Global). Mem (map refusal_of v.items) (record { name = n; cause = y })) (sym er) a | inr q ↦ absurd q ])
show_gains f g x er eo ep t (Shows s) k = absurd k
show_gains f g x er eo ep t (Originates s) k = more (map origin_of f.origins.items) (map origin_of g.origins.items) (origins x) eo s
show_gains f g x er eo ep t (Provides s) k = more (map provision_of f.provisions.items) (map provision_of g.provisions.items) (provisions x) ep s
show_gains f g x er eo ep t (Reaches i n) k = absurd k
show_gains f g x er eo ep t (Chains v) k = absurd k
show_gains f g x er eo ep t (Diagnoses told) k = absurd k
show_gains f g x er eo ep t (Unheld told numbers) k = absurd k
