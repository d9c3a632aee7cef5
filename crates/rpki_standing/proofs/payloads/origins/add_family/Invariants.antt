use Rattle.rpki_rules.specs.Views.{kind_of, origin_of}
use Rattle.rpki_standing.specs.Views.{origin_by}
use Rattle.rpki_standing.proofs.Growth.{Added}
use Rattle.rpki_standing.proofs.payloads.origins.add_family.Given as goal

abbrev pub invariant-loop-address : goal.invariant-loop-address
invariant-loop-address l = Added origin_of (origin_by (kind_of l.family) l.asn.value) l.fn.out.items l.out.items l.addresses l.address-iterator
