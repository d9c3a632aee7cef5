-- What is left of a list that is sorted without repeats.
use Rattle.std.proofs.Common.{◌≡◌, ℕ, List, [], ◌∷◌, map, refl, sym, ap, ◌∙◌, cond, eqb, true}
use Rattle.std.specs.declared.cmp.Ordering.{Ordering}
use Rattle.std.specs.declared.cmp.Ordering.TheVariants.{Less, Equal, Greater}
use Rattle.std.specs.Ordering.{nat_cmp, ordering_then, is_eq}
use Rattle.std.specs.Cmp.Lexicographic.{slice_cmp}
use Rattle.std.specs.List.Sorted.{IsStrictlySortedBy}
use Rattle.std.proofs.lemmas.Cmp.{ranked}
use Rattle.rpki_rules.specs.declared.cause.Cause.{Cause}
use Rattle.rpki_rules.specs.declared.cause.Cause.TheVariants as cause
use Rattle.rpki_rules.specs.Words.{Mem}
use Rattle.rpki_rules.specs.Kinds.{Kind, Ipv4, Ipv6, As}
use Rattle.rpki_rules.specs.Attests.{Origin, Provision, WitnessValue}
use Rattle.rpki_rules.specs.Lines.{Refusal, family_place, origin_cmp, cause_text, refusal_cmp}
use Rattle.rpki_rules.specs.resources_ip_prefix.declared.addr.AddressFamily.{AddressFamily}
use Rattle.rpki_rules.specs.resources_ip_prefix.declared.addr.AddressFamily.TheVariants as family
use Rattle.rpki_rules.specs.declared.origin.Origin.{Origin as CodeOrigin}
use Rattle.rpki_rules.specs.Views.{origin_of, provision_cmp, witness_cmp}
use Rattle.rpki_rules.specs.Report.{IsSetOf}
use Rattle.rpki_rules.proofs.Orders.{mem_map, sorted_map}

-- By an order of what is seen of values, in which equal is identical.
pub set_of : {T X : Type 0} (f : T → X) (R : X → X → Ordering) → ((a b : X) → R a b ≡ Equal → a ≡ b) → (C : T → T → Ordering) (old new : List T) → IsStrictlySortedBy C new → ((x : T) → Mem new x → Mem old x) → ((x : T) → Mem old x → (y : T) × Mem new y × (C x y ≡ Equal)) → ((x y : T) → C x y ≡ R (f x) (f y)) → IsSetOf R (map f old) (map f new)
set_of f R one C old new s from kept agrees = record {
  ascend = sorted_map f C R agrees new s;
  exact = λ x. (
    λ m. let h = (mem_map f new x).0 m in (mem_map f old x).1 (h.0, from h.0 h.1, h.2),
    λ m. let h = (mem_map f old x).0 m in let k = kept h.0 h.1 in (mem_map f new x).1 (k.0, k.1, sym (one (f h.0) (f k.0) (sym (agrees h.0 k.0) ∙ k.2)) ∙ h.2),
  );
}

-- Where two orders in a row say equal, both do.
pub then_equal : (o p : Ordering) → ordering_then o p ≡ Equal → (o ≡ Equal) × (p ≡ Equal)
then_equal Less p e = absurd cc
then_equal Equal p e = (refl, e)
then_equal Greater p e = absurd cc

pub nat_equal : (m n : ℕ) → nat_cmp m n ≡ Equal → m ≡ n
nat_equal m n e = ranked m n Equal (sym e)

pub list_equal : {X : Type 0} (R : X → X → Ordering) → ((x y : X) → R x y ≡ Equal → x ≡ y) → (xs ys : List X) → slice_cmp R xs ys ≡ Equal → xs ≡ ys
list_equal R one [] [] e = refl
list_equal R one [] (y ∷ ys) e = absurd cc
list_equal R one (x ∷ xs) [] e = absurd cc
list_equal R one (x ∷ xs) (y ∷ ys) e =
    let h = then_equal (R x y) (slice_cmp R xs ys) e in
    let p : x ≡ y = one x y h.0 in
    let q : xs ≡ ys = list_equal R one xs ys h.1 in
    λ i. p i ∷ q i

pub octets_equal : (xs ys : List ℕ) → slice_cmp nat_cmp xs ys ≡ Equal → xs ≡ ys
octets_equal = list_equal nat_cmp nat_equal

place_one : (j k : Kind) → family_place j ≡ family_place k → j ≡ k
place_one Ipv4 Ipv4 e = refl
place_one Ipv6 Ipv6 e = refl
place_one As As e = refl
place_one Ipv4 Ipv6 e = absurd cc
place_one Ipv4 As e = absurd cc
place_one Ipv6 Ipv4 e = absurd cc
place_one Ipv6 As e = absurd cc
place_one As Ipv4 e = absurd cc
place_one As Ipv6 e = absurd cc

pub one_origin : (x y : Origin) → origin_cmp x y ≡ Equal → x ≡ y
one_origin x y e =
    let a = then_equal _ _ e in let b = then_equal _ _ a.1 in let c = then_equal _ _ b.1 in let d = then_equal _ _ c.1 in
    let k = place_one x.kind y.kind (nat_equal (family_place x.kind) (family_place y.kind) a.0) in
    let p = nat_equal x.addr y.addr b.0 in let q = nat_equal x.len y.len c.0 in let r = nat_equal x.max_len y.max_len d.0 in let s = nat_equal x.asn y.asn d.1 in
    λ i. record { kind = k i; addr = p i; len = q i; max_len = r i; asn = s i }

pub one_provision : (x y : Provision) → provision_cmp x y ≡ Equal → x ≡ y
one_provision x y e =
    let a = then_equal _ _ e in
    let p = nat_equal x.customer y.customer a.0 in let q = nat_equal x.provider y.provider a.1 in
    λ i. record { customer = p i; provider = q i }

first : List ℕ → ℕ
first [] = 0
first (c ∷ cs) = c

-- The first letter of a cause's text decides the cause.
abbrev letter : Cause → ℕ
letter cause.Tal = 116
letter cause.Anchor = 97
letter cause.Point = 112
letter cause.Object = 111
letter cause.Loop = 108
letter cause.Depth = 100

abbrev cause_of : ℕ → Cause
cause_of n = cond (eqb n 116) cause.Tal (cond (eqb n 97) cause.Anchor (cond (eqb n 112) cause.Point (cond (eqb n 111) cause.Object (cond (eqb n 108) cause.Loop cause.Depth))))

letter_is : (c : Cause) → first (cause_text c) ≡ letter c
unfolding first
letter_is cause.Tal = refl
letter_is cause.Anchor = refl
letter_is cause.Point = refl
letter_is cause.Object = refl
letter_is cause.Loop = refl
letter_is cause.Depth = refl

letter_tells : (c : Cause) → cause_of (letter c) ≡ c
letter_tells cause.Tal = refl
letter_tells cause.Anchor = refl
letter_tells cause.Point = refl
letter_tells cause.Object = refl
letter_tells cause.Loop = refl
letter_tells cause.Depth = refl

-- No two causes have one text.
pub one_cause : (a b : Cause) → cause_text a ≡ cause_text b → a ≡ b
one_cause a b e = sym (letter_tells a) ∙ (ap cause_of (sym (letter_is a) ∙ (ap first e ∙ letter_is b)) ∙ letter_tells b)

pub one_refusal : (r s : Refusal) → refusal_cmp r s ≡ Equal → r ≡ s
one_refusal r s e =
    let a = then_equal _ _ e in
    let p = octets_equal r.name s.name a.0 in let q = one_cause r.cause s.cause (octets_equal (cause_text r.cause) (cause_text s.cause) a.1) in
    λ i. record { name = p i; cause = q i }

pub one_witness : (s t : WitnessValue) → witness_cmp s t ≡ Equal → s ≡ t
one_witness s t e =
    let a = then_equal _ _ e in let b = then_equal _ _ a.1 in
    let o = octets_equal s.object t.object a.0 in let l = octets_equal s.locator t.locator b.0 in let c = list_equal (slice_cmp nat_cmp) octets_equal s.chain t.chain b.1 in
    λ i. record { locator = l i; chain = c i; object = o i }

pub is_equal : (o : Ordering) → is_eq o ≡ true → o ≡ Equal
is_equal Less e = absurd cc
is_equal Equal e = refl
is_equal Greater e = absurd cc

-- Of origins, by an order that is known by their families.
pub set_of_origins : (C : CodeOrigin → CodeOrigin → Ordering) (old new : List CodeOrigin) → IsStrictlySortedBy C new → ((x : CodeOrigin) → Mem new x → Mem old x) → ((x : CodeOrigin) → Mem old x → (y : CodeOrigin) × Mem new y × (C x y ≡ Equal)) → ((x y : CodeOrigin) → C (record x { family = family.Ipv4 }) (record y { family = family.Ipv4 }) ≡ origin_cmp (origin_of (record x { family = family.Ipv4 })) (origin_of (record y { family = family.Ipv4 }))) → ((x y : CodeOrigin) → C (record x { family = family.Ipv4 }) (record y { family = family.Ipv6 }) ≡ origin_cmp (origin_of (record x { family = family.Ipv4 })) (origin_of (record y { family = family.Ipv6 }))) → ((x y : CodeOrigin) → C (record x { family = family.Ipv6 }) (record y { family = family.Ipv4 }) ≡ origin_cmp (origin_of (record x { family = family.Ipv6 })) (origin_of (record y { family = family.Ipv4 }))) → ((x y : CodeOrigin) → C (record x { family = family.Ipv6 }) (record y { family = family.Ipv6 }) ≡ origin_cmp (origin_of (record x { family = family.Ipv6 })) (origin_of (record y { family = family.Ipv6 }))) → IsSetOf origin_cmp (map origin_of old) (map origin_of new)
set_of_origins C old new s from kept a b c d = set_of origin_of origin_cmp one_origin C old new s from kept (λ x y. go x y x.family y.family)
  where
    go : (x y : CodeOrigin) (f h : AddressFamily) → C (record x { family = f }) (record y { family = h }) ≡ origin_cmp (origin_of (record x { family = f })) (origin_of (record y { family = h }))
    go x y family.Ipv4 family.Ipv4 = a x y
    go x y family.Ipv4 family.Ipv6 = b x y
    go x y family.Ipv6 family.Ipv4 = c x y
    go x y family.Ipv6 family.Ipv6 = d x y
