-- AS numbers in an encoding (RFC 3779 3.2.3.10).
use Rattle.std.specs.Prelude.{ℕ, ◌^◌}
use Rattle.resources_asn.specs.bcder_tree.Tags.{integer_tag}
use Rattle.resources_asn.specs.bcder_tree.Tree.{Tree}
use Rattle.resources_asn.specs.bcder_primitive.Values.{IsUnsigned}
use Rattle.resources_asn.specs.bcder_content.Grammar.{OctetsOf, As}

-- ASId ::= INTEGER, of 32 bits (3.2.3.10).
abbrev pub IsAsId : Tree → ℕ → Type 0
IsAsId = OctetsOf integer_tag (IsUnsigned (2 ^ 32))

-- Whichever it is.
abbrev pub whichever : {A : Type 0} → A → Unit {0}
whichever x = tt

abbrev pub IsAnyAsId : Tree → Unit {0} → Type 0
IsAnyAsId = As IsAsId whichever
