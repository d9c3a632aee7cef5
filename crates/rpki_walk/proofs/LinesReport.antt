-- The lines that were found make the report of a world's lines.
use Rattle.std.proofs.Common.{◌≡◌, ◌↔◌, List, [], ◌∷◌, map, refl, subst, inl, inr}
use Rattle.rpki_rules.specs.Words.{Mem}
use Rattle.rpki_rules.specs.World.{World}
use Rattle.rpki_rules.specs.Attests.{Origin, Provision, AttestsOrigin, AttestsProvision}
use Rattle.rpki_rules.specs.Refused.{IsRefused}
use Rattle.rpki_rules.specs.Lines.{Refusal}
use Rattle.rpki_rules.specs.Report.{ReportValue, IsReportOf}
use Rattle.rpki_rules.specs.Views.{origin_of, provision_of, refusal_of}
use Rattle.rpki_rules.proofs.Groups.{customers_to}
use Rattle.rpki_walk.specs.Facts.{Finding, Refuses, Shows, Originates, Provides, Reaches, Chains, Diagnoses, Unheld, IsFinding, Gains}
use Rattle.rpki_walk.specs.Alike.{IsPrinted}
use Rattle.rpki_walk.specs.Walked.{has_lines}
use Rattle.rpki_walk.specs.Printed.{AreLines}
use Rattle.rpki_walk.specs.declared.lines.found.LinesFound.{LinesFound}
use Rattle.rpki_walk.proofs.Reports.{told_origin, told_provision, told_refusal, customers_of}

nothing : {X : Type 0} (xs : List X) → ((x : X) → ¬ (Mem xs x)) → xs ≡ []
nothing [] n = refl
nothing (x ∷ xs) n = absurd (n x (inl refl))

none : {X Y : Type 0} (f : X → Y) (xs : List X) (y : Y) → xs ≡ [] → ¬ (Mem (map f xs) y)
none {X = X} f xs y e m = subst (λ (zs : List X). Mem (map f zs) y) e m

-- At first nothing was found.
pub nothing_found : (f : LinesFound) → f.origins.items ≡ [] → f.provisions.items ≡ [] → f.refusals.items ≡ [] → (x : Finding) → ¬ (has_lines f x)
nothing_found f eo ep er (Refuses n why) h = none refusal_of f.refusals.items (record { name = n; cause = why }) er h
nothing_found f eo ep er (Shows t) h = h
nothing_found f eo ep er (Originates o) h = none origin_of f.origins.items o eo h
nothing_found f eo ep er (Provides o) h = none provision_of f.provisions.items o ep h
nothing_found f eo ep er (Reaches k n) h = h
nothing_found f eo ep er (Chains v) h = h
nothing_found f eo ep er (Diagnoses told) h = h
nothing_found f eo ep er (Unheld told numbers) h = h

pub lines_are : (w : World) (f : LinesFound) → Gains IsPrinted (λ x. ⊥) (IsFinding [] w) (has_lines f) → (r : ReportValue) → IsReportOf (map origin_of f.origins.items) (map provision_of f.provisions.items) (map refusal_of f.refusals.items) [] r → AreLines w r
lines_are w f gained r h =
    let at : (x : Finding) → IsPrinted x → has_lines f x ↔ IsFinding [] w x = λ x i. let k = gained x i in (λ m. elim (k.0 m) [ inl o ↦ absurd o | inr t ↦ t ], λ t. k.1 (inr t)) in
    let os : (o : Origin) → Mem (map origin_of f.origins.items) o ↔ AttestsOrigin w o = λ o. let a = at (Originates o) tt in let b = told_origin w o in (λ m. b.0 (a.0 m), λ m. a.1 (b.1 m)) in
    let ps : (o : Provision) → Mem (map provision_of f.provisions.items) o ↔ AttestsProvision w o = λ o. let a = at (Provides o) tt in let b = told_provision w o in (λ m. b.0 (a.0 m), λ m. a.1 (b.1 m)) in
    let rs : (x : Refusal) → Mem (map refusal_of f.refusals.items) x ↔ IsRefused w x.name x.cause = λ x. let a = at (Refuses x.name x.cause) tt in let b = told_refusal w x.name x.cause in (λ m. b.0 (a.0 m), λ m. a.1 (b.1 m)) in
    record {
      origins_are = record { ascend = h.origins_are.ascend; exact = λ o. (λ m. (os o).0 ((h.origins_are.exact o).0 m), λ m. (h.origins_are.exact o).1 ((os o).1 m)) };
      customers_are = customers_of w r.customers (customers_to (Mem (map provision_of f.provisions.items)) (AttestsProvision w) ps r.customers h.customers_are);
      refusals_are = record { ascend = h.refusals_are.ascend; exact = λ x. (λ m. (rs x).0 ((h.refusals_are.exact x).0 m), λ m. (h.refusals_are.exact x).1 ((rs x).1 m)) };
      witnesses_are = nothing r.witnesses (λ t m. (h.witnesses_are.exact t).0 m);
    }
