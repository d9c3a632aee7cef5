-- Octets spell one list of files at most, so that they tell it.
use Rattle.std.proofs.Common.{◌≡◌, ℕ, List, refl, ap, subst}
use Rattle.std.proofs.Math.Logic.{∥∥₁_elim, ∥∥₁_prop}
use Rattle.std.specs.Coded.{Coded, Coded-set, code_by, coded_list, coded×, coded_ℕ}
use Rattle.objects_cms.specs.bcder_tree.declared.mode.Mode.TheVariants.{Der}
use Rattle.objects_cms.specs.bcder_tree.Tags.{ia5_string_tag}
use Rattle.objects_cms.specs.bcder_tree.Tree.{Trees}
use Rattle.objects_cms.specs.bcder_content.Grammar.{Many, One}
use Rattle.objects_cms.specs.bcder_content.Kept.{CapturedValue}
use Rattle.objects_cms.specs.bcder_content.Texts.{InOrder}
use Rattle.objects_payload.specs.Manifests.{File, IsFile}
use Rattle.certs_key.proofs.of_bcder_octets.BitReadings.{bit_string_one}
use Rattle.certs_key.proofs.of_bcder_content.Unique.{as_one, end_one, inside_one, many_one, octets_one, such_one, then_one}
use Rattle.certs_key.proofs.of_bcder_tree.Trees.{one_fields}
use Rattle.certs_key.proofs.of_certs_basics.Values.{string_one}

-- A value is one file at most.
pub file_one : One IsFile
file_one = as_one (inside_one (then_one (such_one (such_one (string_one Der ia5_string_tag)))
    (then_one (such_one (octets_one bit_string_one)) end_one)))

-- A file is stored as the pair of its fields.
abbrev pub file_code : Coded File
file_code = code_by (List ℕ × List ℕ) (coded× (coded_list coded_ℕ) (coded_list coded_ℕ))
    (λ f. (f.name, f.hash)) (λ p. record { name = p.0; hash = p.1 }) (λ _. refl)

-- The octets spell these files, one after the other.
abbrev pub SpellsFiles : CapturedValue → List File → Type 0
SpellsFiles c = InOrder c.mode (Many IsFile) c.octets

-- Two lists of files that the octets spell are one.
pub one_list : (c : CapturedValue) (xs ys : List File) → SpellsFiles c xs → SpellsFiles c ys
    → xs ≡ ys
one_list c xs ys p q =
    let same : p.trees ≡ q.trees =
    one_fields (record { spelled = p.spelled }) (record { spelled = q.spelled }) in
    (many_one file_one).one q.trees xs ys (subst (λ (ts : Trees). Many IsFile ts xs) same p.is) q.is

-- The list of files that the octets spell.
abbrev pub Listing : CapturedValue → Type 0
Listing c = (files : List File) × ∥ SpellsFiles c files ∥₁

pub same_lists : (c : CapturedValue) (x y : Listing c) → x.0 ≡ y.0
same_lists c x y = ∥∥₁_elim x.1 (Coded-set (coded_list file_code) _ _)
    (λ p. ∥∥₁_elim y.1 (Coded-set (coded_list file_code) _ _) (λ q. one_list c x.0 y.0 p q))

pub one_listing : (c : CapturedValue) (x y : Listing c) → x ≡ y
one_listing c x y =
    subst (λ (l : List File). (h : ∥ SpellsFiles c l ∥₁) → x ≡ (l, h)) (same_lists c x y)
    (λ h. ap (λ k. (x.0, k)) (∥∥₁_prop x.1 h)) y.1
