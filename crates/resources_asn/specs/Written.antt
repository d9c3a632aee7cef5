-- What is written of blocks of AS numbers (RFC 3779 3.2.3.5 to 3.2.3.10).
use Rattle.std.specs.Prelude.{◌≡◌, ℕ, ◌^◌, ◌==◌, Bool, true, false, List}
use Rattle.resources_asn.specs.bcder_tree.declared.mode.Mode.{Mode}
use Rattle.resources_asn.specs.bcder_tree.Tags.{integer_tag, sequence_tag}
use Rattle.resources_asn.specs.bcder_tree.Tree.{Trees}
use Rattle.resources_asn.specs.bcder_primitive.Encoded.{IsPlain, WritesPlain, IsWrapped, WritesWrapped, AreBoth, WritesBoth, SpellsSome}
use Rattle.resources_asn.specs.bcder_primitive.Integers.{WritesUnsigned, one_unsigned}
use Rattle.resources_asn.specs.bcder_values.Laws.{both_spelled, both_one}
use Rattle.resources_asn.specs.bcder_values.Plains.{plain_spelled, plain_one}
use Rattle.resources_asn.specs.bcder_values.Wraps.{wrapped_spelled, wrapped_one}
use Rattle.resources_asn.specs.resources_chain.Sets.{Run}

-- id ASId.
abbrev pub AreAsId : ℕ → Trees → Type 0
AreAsId n = IsPlain integer_tag (WritesUnsigned (2 ^ 32) n)

abbrev pub WritesAsId : Mode → ℕ → List ℕ → Type 0
WritesAsId m n = WritesPlain m integer_tag (WritesUnsigned (2 ^ 32) n)

-- range ASRange.
abbrev pub AreAsRange : Run → Trees → Type 0
AreAsRange r = IsWrapped sequence_tag (AreBoth (AreAsId r.first) (AreAsId r.last))

abbrev pub WritesAsRange : Mode → Run → List ℕ → Type 0
WritesAsRange m r =
    WritesWrapped m sequence_tag (WritesBoth (WritesAsId m r.first) (WritesAsId m r.last))

-- ASIdOrRange: `id` for one number alone, else `range` (3.2.3.5).
abbrev pub AreIdOrRange : (is_one : Bool) → Run → Trees → Type 0
AreIdOrRange true r = AreAsId r.first
AreIdOrRange false r = AreAsRange r

abbrev pub AreAsBlock : Run → Trees → Type 0
AreAsBlock r = AreIdOrRange (r.first == r.last) r

abbrev pub WritesIdOrRange : (is_one : Bool) → Mode → Run → List ℕ → Type 0
WritesIdOrRange true m r = WritesAsId m r.first
WritesIdOrRange false m r = WritesAsRange m r

abbrev pub WritesAsBlock : Mode → Run → List ℕ → Type 0
WritesAsBlock m r = WritesIdOrRange (r.first == r.last) m r

-- What is written spells these values, and is always the same.
pub range_spelled : (m : Mode) (r : Run) (text : List ℕ) → WritesAsRange m r text
    → SpellsSome m (AreAsRange r) text
range_spelled m r = wrapped_spelled m (both_spelled m (plain_spelled m) (plain_spelled m))

pub range_one : (m : Mode) (r : Run) (a b : List ℕ) → WritesAsRange m r a → WritesAsRange m r b
    → a ≡ b
range_one m r = wrapped_one m (both_one (plain_one m (one_unsigned r.first))
    (plain_one m (one_unsigned r.last)))

either_spelled : (is_one : Bool) (m : Mode) (r : Run) (text : List ℕ)
    → WritesIdOrRange is_one m r text → SpellsSome m (AreIdOrRange is_one r) text
either_spelled true m r = plain_spelled m
either_spelled false m r = range_spelled m r

either_one : (is_one : Bool) (m : Mode) (r : Run) (a b : List ℕ) → WritesIdOrRange is_one m r a
    → WritesIdOrRange is_one m r b → a ≡ b
either_one true m r = plain_one m (one_unsigned r.first)
either_one false m r = range_one m r

pub block_spelled : (m : Mode) (r : Run) (text : List ℕ) → WritesAsBlock m r text
    → SpellsSome m (AreAsBlock r) text
block_spelled m r = either_spelled (r.first == r.last) m r

pub block_one : (m : Mode) (r : Run) (a b : List ℕ) → WritesAsBlock m r a → WritesAsBlock m r b
    → a ≡ b
block_one m r = either_one (r.first == r.last) m r
