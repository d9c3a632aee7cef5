-- Attributes that were seen, one by one and together.
use Rattle.std.proofs.Common.{◌≡◌, ℕ, ◌+◌, ◌≤◌, ◌⊎◌, inl, inr, Bool, true, false, List, [], ◌∷◌, ◌++◌, refl, sym, ap, ◌∙◌, arith}
use Rattle.certs_name.specs.bcder_tree.Tags.{sequence_tag, set_tag}
use Rattle.certs_name.specs.bcder_content.Grammar.{One, OneOctets, Tagged}
use Rattle.certs_name.proofs.of_bcder_content.Unique.{as_one, as_tagged, octets_one, inside_one, inside_tagged, then_one, end_one}
use Rattle.certs_basics.proofs.Values.{gathers_one}
use Rattle.certs_name.specs.declared.seen.Seen.{Seen}
use Rattle.certs_name.specs.Inspected.{IsKind, IsTextValue, IsSeenAttribute, IsSeenRelativeName, IsSeenName, Together, common_names, serial_numbers, times}

pub at_most_once : (b : Bool) → times b ≤ 1
at_most_once true = omega arith
at_most_once false = omega arith

same_times : (a b : Bool) → times a ≡ times b → a ≡ b
same_times true true e = refl
same_times false false e = refl
same_times true false e = absurd (omega arith)
same_times false true e = absurd (omega arith)

pub commons : (xs ys : List Seen) → common_names (xs ++ ys) ≡ common_names xs + common_names ys
commons [] ys = omega arith
commons (x ∷ xs) ys = omega (arith, commons xs ys)

pub serials : (xs ys : List Seen) → serial_numbers (xs ++ ys) ≡ serial_numbers xs + serial_numbers ys
serials [] ys = omega arith
serials (x ∷ xs) ys = omega (arith, serials xs ys)

-- One more.
pub together_next : (xs : List Seen) (s x t : Seen) → Together xs s
    → (times s.common_name + times x.common_name ≡ times t.common_name) × (times s.serial_number + times x.serial_number ≡ times t.serial_number)
    → Together (xs ++ (x ∷ [])) t
together_next xs s x t p q = record { common = omega (arith, commons xs (x ∷ []), p.common, q.0); serial = omega (arith, serials xs (x ∷ []), p.serial, q.1) }

-- Where one is there twice, no list that goes on is together.
pub together_never : (xs ys : List Seen) (s x t : Seen) → Together xs s
    → (2 ≤ times s.common_name + times x.common_name) ⊎ (2 ≤ times s.serial_number + times x.serial_number)
    → Together (xs ++ (x ∷ ys)) t → ⊥
together_never xs ys s x t p (inl twice) q = omega (arith, commons xs (x ∷ ys), p.common, q.common, at_most_once t.common_name)
together_never xs ys s x t p (inr twice) q = omega (arith, serials xs (x ∷ ys), p.serial, q.serial, at_most_once t.serial_number)

together_one : (xs : List Seen) (y z : Seen) → Together xs y → Together xs z → y ≡ z
together_one xs y z p q =
    let first = same_times y.common_name z.common_name (sym p.common ∙ q.common) in
    let second = same_times y.serial_number z.serial_number (sym p.serial ∙ q.serial) in
    let made = λ (a b : Bool). let s : Seen = record { common_name = a; serial_number = b } in s in
    ap (λ (a : Bool). made a y.serial_number) first ∙ ap (λ (b : Bool). made z.common_name b) second

kind_one : OneOctets IsKind
kind_one = record { one = at }
  where
    at : (content : List ℕ) (x y : Seen) → IsKind content x → IsKind content y → x ≡ y
    at content x y (inl p) (inl q) = p.1 ∙ sym q.1
    at content x y (inr p) (inr q) = p.1 ∙ sym q.1
    at content x y (inl p) (inr q) = let e = sym p.0 ∙ q.0 in absurd cc
    at content x y (inr p) (inl q) = let e = sym p.0 ∙ q.0 in absurd cc

text_one : (strict : Bool) → One (IsTextValue strict)
text_one strict = record { one = λ t x y p q. refl }

pub seen_one : (strict : Bool) → One (IsSeenAttribute strict)
seen_one strict = as_one (inside_one (then_one (octets_one kind_one) (then_one (text_one strict) end_one)))

pub seen_tagged : (strict : Bool) → Tagged sequence_tag (IsSeenAttribute strict)
seen_tagged strict = as_tagged (inside_tagged _ _)

pub relative_one : (strict : Bool) → One (IsSeenRelativeName strict)
relative_one strict = inside_one (gathers_one (seen_one strict) together_one)

pub relative_tagged : (strict : Bool) → Tagged set_tag (IsSeenRelativeName strict)
relative_tagged strict = inside_tagged _ _

pub name_one : (strict : Bool) → One (IsSeenName strict)
name_one strict = inside_one (gathers_one (relative_one strict) together_one)
