-- In a bundle each locator's name is its own.
use Rattle.std.proofs.Common.{◌≡◌, ℕ, List, [], ◌∷◌, map, inl, inr, sym, ap, subst, ◌∙◌}
use Rattle.std.specs.Ordering.{nat_cmp, ordering_reverse}
use Rattle.std.specs.Cmp.Lexicographic.{slice_cmp, nat_list_cmp_total}
use Rattle.std.specs.declared.cmp.Ordering.{Ordering}
use Rattle.std.specs.declared.cmp.Ordering.TheVariants.{Less, Greater}
use Rattle.rpki_rules.specs.rpki_bundle.declared.parts.Locator.{Locator}
use Rattle.rpki_rules.specs.rpki_bundle.Orders.{Ascends}
use Rattle.rpki_rules.specs.Words.{Mem}
use Rattle.rpki_rules.specs.ReasonLaws.{NamesAreAlone, OneUnheld}
use Rattle.rpki_rules.proofs.of_rpki_bundle.Texts.{text_lawful}
use Rattle.resources.proofs.of_resources_chain.SetLemmas.{one_list_of}
use Rattle.rpki_rules.proofs.Lists.{map_mem}
use Rattle.rpki_rules.proofs.Orders.{sorted_head, sorted_tail}

abbrev rows_cmp : List ℕ → List ℕ → Ordering
rows_cmp = slice_cmp nat_cmp

-- No row stands before itself.
not_itself : (row : List ℕ) → ¬ (rows_cmp row row ≡ Less)
not_itself row h = let z : Less ≡ Greater = sym h ∙ (nat_list_cmp_total.antisymm row row ∙ ap ordering_reverse h) in absurd cc

-- Of a list that ascends two with one row are one.
same_row : {X : Type 0} (row : X → List ℕ) (xs : List X) → Ascends row xs → (x y : X) → Mem xs x → Mem xs y → row x ≡ row y → x ≡ y
same_row row [] s x y m n e = absurd m
same_row row (z ∷ zs) s x y (inl p) (inl q) e = sym p ∙ q
same_row row (z ∷ zs) s x y (inl p) (inr n) e =
    let h = sorted_head rows_cmp (row z) (map row zs) s (row y) (map_mem row zs y n) in
    absurd (not_itself (row y) (subst (λ (r : List ℕ). rows_cmp r (row y) ≡ Less) (ap row p ∙ e) h))
same_row row (z ∷ zs) s x y (inr m) (inl q) e =
    let h = sorted_head rows_cmp (row z) (map row zs) s (row x) (map_mem row zs x m) in
    absurd (not_itself (row x) (subst (λ (r : List ℕ). rows_cmp r (row x) ≡ Less) (ap row q ∙ sym e) h))
same_row row (z ∷ zs) s x y (inr m) (inr n) e = same_row row zs (sorted_tail rows_cmp (row z) (map row zs) s) x y m n e

pub names_are_alone : NamesAreAlone
names_are_alone d v octets b text l m =
    record { in_list = m; alone = λ other n e. same_row (λ (x : Locator). x.name) b.locators (text_lawful text).locators.ascend other l n m e }

pub one_unheld : OneUnheld
one_unheld a cs c k runs h = (h.refused, λ other j. one_list_of j.outside h.outside)
