-- A test of whether two sets are equal, for `==`.
use Rattle.std.specs.Prelude.{◌≡◌, ◌&&◌, ◌↔◌, Bool, true, false, IsTrue, List, refl}
use Rattle.std.proofs.Common.{sym, ◌∙◌, ap}
use Rattle.std.specs.Cmp.{IsEquivalence}
use Rattle.resources.specs.resources_chain.Sets.{Run}
use Rattle.resources.specs.resources_chain.Same.{runs_eq, runs_eq_tells, one_answer}
use Rattle.resources.specs.Resources.{Resources}

abbrev pub sets_eq : Resources → Resources → Bool
sets_eq a b = runs_eq a.asn b.asn && runs_eq a.ipv4 b.ipv4 && runs_eq a.ipv6 b.ipv6

pub all_three : (a b c : Bool) → IsTrue (a && b && c) ↔ (IsTrue a × IsTrue b × IsTrue c)
all_three true true true = (λ t. (refl, refl, refl), λ t. refl)
all_three true true false = (λ t. absurd cc, λ t. absurd (let h : false ≡ true = t.2 in cc))
all_three true false c = (λ t. absurd cc, λ t. absurd (let h : false ≡ true = t.1 in cc))
all_three false b c = (λ t. absurd cc, λ t. absurd (let h : false ≡ true = t.0 in cc))

-- Sets of the same kinds are one.
pub set_is : {a b : Resources} → a.asn ≡ b.asn → a.ipv4 ≡ b.ipv4 → a.ipv6 ≡ b.ipv6 → a ≡ b
set_is {a} {b} e f g =
    let one : a ≡ record { asn = b.asn; ipv4 = a.ipv4; ipv6 = a.ipv6 } = ap (λ (x : List Run). let t : Resources = record { asn = x; ipv4 = a.ipv4; ipv6 = a.ipv6 } in t) e in
    let two : record { asn = b.asn; ipv4 = a.ipv4; ipv6 = a.ipv6 } ≡ record { asn = b.asn; ipv4 = b.ipv4; ipv6 = a.ipv6 } = ap (λ (x : List Run). let t : Resources = record { asn = b.asn; ipv4 = x; ipv6 = a.ipv6 } in t) f in
    let three : record { asn = b.asn; ipv4 = b.ipv4; ipv6 = a.ipv6 } ≡ b = ap (λ (x : List Run). let t : Resources = record { asn = b.asn; ipv4 = b.ipv4; ipv6 = x } in t) g in
    one ∙ two ∙ three

-- The test decides equality.
pub sets_eq_tells : (a b : Resources) → IsTrue (sets_eq a b) ↔ (a ≡ b)
sets_eq_tells a b =
    let three = all_three (runs_eq a.asn b.asn) (runs_eq a.ipv4 b.ipv4) (runs_eq a.ipv6 b.ipv6) in (
      λ t. let parts = three.0 t in set_is ((runs_eq_tells a.asn b.asn).0 parts.0) ((runs_eq_tells a.ipv4 b.ipv4).0 parts.1) ((runs_eq_tells a.ipv6 b.ipv6).0 parts.2),
      λ e. three.1 (
        (runs_eq_tells a.asn b.asn).1 (ap (λ (x : Resources). x.asn) e),
        (runs_eq_tells a.ipv4 b.ipv4).1 (ap (λ (x : Resources). x.ipv4) e),
        (runs_eq_tells a.ipv6 b.ipv6).1 (ap (λ (x : Resources). x.ipv6) e),
      ),
    )

pub sets_eq_equiv : IsEquivalence sets_eq
sets_eq_equiv = record {
  refl = λ x. (sets_eq_tells x x).1 refl;
  symm = λ x y. one_answer {P = x ≡ y} (sets_eq x y) (sets_eq y x) (sets_eq_tells x y)
      (λ t. sym ((sets_eq_tells y x).0 t), λ e. (sets_eq_tells y x).1 (sym e));
  congr = λ x y z t.
      let e : x ≡ y = (sets_eq_tells x y).0 t in
      one_answer {P = x ≡ z} (sets_eq x z) (sets_eq y z) (sets_eq_tells x z)
      (λ h. e ∙ (sets_eq_tells y z).0 h, λ h. (sets_eq_tells y z).1 (sym e ∙ h));
}
