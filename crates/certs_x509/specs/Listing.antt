-- Octets spell one list of entries at most, so that they tell it.
use Rattle.std.proofs.Common.{◌≡◌, ℕ, List, refl, ap, subst}
use Rattle.std.proofs.Math.Logic.{∥∥₁_elim, ∥∥₁_prop}
use Rattle.std.specs.Coded.{Coded, Coded-set, code_by, coded_list, coded×, coded_ℕ}
use Rattle.certs_x509.specs.bcder_tree.Tree.{Trees}
use Rattle.certs_x509.specs.bcder_content.Grammar.{Many, One}
use Rattle.certs_x509.specs.bcder_content.Kept.{CapturedValue}
use Rattle.certs_extension.specs.CrlText.{IsRevoked, RevokedValue}
use Rattle.certs_x509.specs.Listed.{SpellsEntries}
use Rattle.certs_basics.proofs.of_bcder_content.Unique.{as_one, end_one, inside_one, many_one, then_one}
use Rattle.certs_basics.proofs.of_bcder_tree.Trees.{one_fields}
use Rattle.certs_basics.proofs.Values.{serial_one}
use Rattle.certs_basics.proofs.Meanings.{time_one}

-- A value is one entry at most.
pub entry_one : One IsRevoked
entry_one = as_one (inside_one (then_one serial_one (then_one time_one end_one)))

-- An entry is stored as the pair of its fields.
abbrev pub revoked_code : Coded RevokedValue
revoked_code = code_by (ℕ × ℕ) (coded× coded_ℕ coded_ℕ) (λ e. (e.serial, e.time))
    (λ p. record { serial = p.0; time = p.1 }) (λ _. refl)

-- Two lists of entries that the octets spell are one.
pub one_list : (c : CapturedValue) (xs ys : List RevokedValue) → SpellsEntries c xs
    → SpellsEntries c ys → xs ≡ ys
one_list c xs ys p q =
    let same : p.trees ≡ q.trees =
    one_fields (record { spelled = p.spelled }) (record { spelled = q.spelled }) in
    (many_one entry_one).one q.trees xs ys (subst
    (λ (ts : Trees). Many IsRevoked ts xs) same p.is) q.is

-- The list of entries that the octets spell.
abbrev pub Listing : CapturedValue → Type 0
Listing c = (entries : List RevokedValue) × ∥ SpellsEntries c entries ∥₁

pub same_lists : (c : CapturedValue) (x y : Listing c) → x.0 ≡ y.0
same_lists c x y = ∥∥₁_elim x.1 (Coded-set (coded_list revoked_code) _ _)
    (λ p. ∥∥₁_elim y.1 (Coded-set (coded_list revoked_code) _ _) (λ q. one_list c x.0 y.0 p q))

pub one_listing : (c : CapturedValue) (x y : Listing c) → x ≡ y
one_listing c x y =
    subst (λ (l : List RevokedValue). (h : ∥ SpellsEntries c l ∥₁) → x ≡ (l, h)) (same_lists c x y)
    (λ h. ap (λ k. (x.0, k)) (∥∥₁_prop x.1 h)) y.1
