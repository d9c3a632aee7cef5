-- Contents of object identifiers.
use Rattle.std.proofs.Common.{sym, ◌∙◌}
use Rattle.bcder.specs.bcder_content.Grammar.{OneOctets}
use Rattle.bcder.specs.Identifiers.{IsOid}

-- Content octets are read in one way.
pub oid_one : OneOctets IsOid
oid_one = record { one = λ content x y p q. sym p.same ∙ q.same }
