-- Octets spell one list of AS numbers at most, so that they tell it.
use Rattle.std.proofs.Common.{◌≡◌, ℕ, List, ap, subst}
use Rattle.std.proofs.Math.Logic.{∥∥₁_elim, ∥∥₁_prop}
use Rattle.std.specs.Coded.{Coded-set, coded_list, coded_ℕ}
use Rattle.objects_payload.specs.bcder_tree.Tree.{Trees}
use Rattle.objects_payload.specs.bcder_content.Grammar.{Many, One}
use Rattle.objects_payload.specs.bcder_content.Kept.{CapturedValue}
use Rattle.objects_payload.specs.resources_asn.Encodings.{IsAsId}
use Rattle.objects_payload.specs.Spelled.{SpellsAsIds}
use Rattle.certs_extension.proofs.of_bcder_content.Unique.{many_one, octets_one, unsigned_one}
use Rattle.resources_asn.proofs.of_bcder_tree.Trees.{one_fields}

-- A value is one AS number at most.
pub as_id_one : One IsAsId
as_id_one = octets_one unsigned_one

-- Two lists that the octets spell are one.
pub one_list : (c : CapturedValue) (xs ys : List ℕ) → SpellsAsIds c xs → SpellsAsIds c ys → xs ≡ ys
one_list c xs ys p q =
    let same : p.trees ≡ q.trees =
    one_fields (record { spelled = p.spelled }) (record { spelled = q.spelled }) in
    (many_one as_id_one).one q.trees xs ys (subst
    (λ (ts : Trees). Many IsAsId ts xs) same p.is) q.is

-- The list of AS numbers that the octets spell.
abbrev pub Listing : CapturedValue → Type 0
Listing c = (numbers : List ℕ) × ∥ SpellsAsIds c numbers ∥₁

pub same_lists : (c : CapturedValue) (x y : Listing c) → x.0 ≡ y.0
same_lists c x y = ∥∥₁_elim x.1 (Coded-set (coded_list coded_ℕ) _ _)
    (λ p. ∥∥₁_elim y.1 (Coded-set (coded_list coded_ℕ) _ _) (λ q. one_list c x.0 y.0 p q))

pub one_listing : (c : CapturedValue) (x y : Listing c) → x ≡ y
one_listing c x y =
    subst (λ (l : List ℕ). (h : ∥ SpellsAsIds c l ∥₁) → x ≡ (l, h)) (same_lists c x y)
    (λ h. ap (λ k. (x.0, k)) (∥∥₁_prop x.1 h)) y.1
