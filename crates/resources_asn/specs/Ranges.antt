-- Ranges of AS numbers (RFC 3779 section 3.2.3.8).
use Rattle.std.specs.Prelude.{◌≡◌, ◌≤◌, max}
use Rattle.std.specs.Coded.{Coded, code_by, coded×}
use Rattle.std.proofs.Common.{ap, arith, subst}
use Rattle.std.proofs.Math.Bridge.{le_prop}
use Rattle.resources_asn.specs.resources_chain.Sets.{Run}
use Rattle.resources_asn.specs.resources_chain.Items.{made_alike}
use Rattle.resources_asn.specs.Numbers.{Number, last_number, number_at, number_code}

-- The numbers from the first to the last, both included.
pub record Range : Type 0 where
  pub first : Number
  pub last : Number
  pub ordered : first.value ≤ last.value

abbrev pub range_run : Range → Run
range_run r = record { first = r.first.value; last = r.last.value }

-- How the check keeps a range: as its two ends.
pub larger_in_range : (a b : Number) → max a.value b.value ≤ last_number
larger_in_range a b = let l = a.in_range in let r = b.in_range in omega arith

abbrev pub larger : Number → Number → Number
larger a b = number_at (max a.value b.value) (larger_in_range a b)

pub larger_above : (a b : Number) → a.value ≤ (larger a b).value
larger_above a b = omega arith

abbrev pub range_of : Number × Number → Range
range_of p = record { first = p.0; last = larger p.0 p.1; ordered = larger_above p.0 p.1 }

larger_is : (r : Range) → larger r.first r.last ≡ r.last
larger_is r = made_alike number_at (max r.first.value r.last.value) r.last.value (larger_in_range r.first r.last) r.last.in_range (let h = r.ordered in omega arith)

abbrev pub range_at : (first last : Number) → first.value ≤ last.value → Range
range_at first last h = record { first = first; last = last; ordered = h }

range_alike : (first a b : Number) (p : first.value ≤ a.value) (q : first.value ≤ b.value) → a ≡ b
    → range_at first a p ≡ range_at first b q
range_alike first a b p q e =
    subst (λ (z : Number). (h : first.value ≤ z.value) → range_at first a p ≡ range_at first z h) e
    (λ h. ap (λ (t : first.value ≤ a.value). range_at first a t) (le_prop p h)) q

pub range_of_ends : (r : Range) → range_of (r.first, r.last) ≡ r
range_of_ends r = range_alike r.first (larger r.first r.last) r.last
    (larger_above r.first r.last) r.ordered (larger_is r)

abbrev pub range_code : Coded Range
range_code = code_by (Number × Number) (coded× number_code number_code)
    (λ r. (r.first, r.last)) range_of range_of_ends
