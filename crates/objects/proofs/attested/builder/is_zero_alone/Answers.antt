use Rattle.std.proofs.Common.{subst}
use Rattle.objects.specs.resources_asn.Listed.{InList}
use Rattle.objects.proofs.Alone.{one_tells}
use Rattle.objects.proofs.attested.builder.is_zero_alone.Goals as goal

pub returns-else-not-contains : goal.returns-else-not-contains
returns-else-not-contains c =
    let there = subst (InList c.args.providers.now) c.from_u32.ensures (c.contains.ensures.0 c.if-not-contains.false) in
    one_tells c.args.providers.now c.len.result c.len.ensures there
