-- Blocks of AS numbers in an encoding (RFC 3779 3.2.3.5 to 3.2.3.9).
use Rattle.std.specs.Prelude.{ℕ, ◌≤◌}
use Rattle.resources_asn.specs.bcder_tree.Tags.{sequence_tag}
use Rattle.resources_asn.specs.bcder_tree.Tree.{Tree, Trees}
use Rattle.resources_asn.specs.bcder_content.Grammar.{Inside, OneOf, As, End, Then}
use Rattle.resources_asn.specs.resources_chain.Sets.{Run}
use Rattle.resources_asn.specs.Encodings.{IsAsId, whichever}

abbrev pub alone : ℕ → Run
alone n = record { first = n; last = n }

-- ASRange ::= SEQUENCE { min ASId, max ASId }, of which min isn't above max (3.2.3.7 to 3.2.3.9).
abbrev pub Ends : Type 0
Ends = ℕ × (ℕ × Unit {0})

abbrev pub from_to : Ends → Run
from_to ends = record { first = ends.0; last = ends.1.0 }

abbrev pub AreEnds : Trees → Ends → Type 0
AreEnds = Then IsAsId (Then IsAsId End)

pub record AreOrdered (ts : Trees) (ends : Ends) : Type 0 where
  pub are : AreEnds ts ends
  pub ordered : ends.0 ≤ ends.1.0

abbrev pub IsAsRange : Tree → Ends → Type 0
IsAsRange = Inside sequence_tag AreOrdered

-- ASIdOrRange ::= CHOICE { id ASId, range ASRange } (3.2.3.5).
abbrev pub IsAsBlock : Tree → Run → Type 0
IsAsBlock = OneOf (As IsAsId alone) (As IsAsRange from_to)

-- Whichever it is.
abbrev pub IsAnyAsBlock : Tree → Unit {0} → Type 0
IsAnyAsBlock = As IsAsBlock whichever
