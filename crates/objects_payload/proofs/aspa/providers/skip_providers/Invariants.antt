use Rattle.std.proofs.Common.{length}
use Rattle.objects_payload.specs.bcder_content.Here.{here}
use Rattle.objects_payload.specs.resources_asn.Encodings.{IsAsId}
use Rattle.objects_payload.proofs.of_bcder_content.Gathering.{Gathered}
use Rattle.objects_payload.specs.Orders.{IsRunOf}
use Rattle.objects_payload.proofs.aspa.providers.skip_providers.Given as goal

abbrev pub invariant-loop-provider : goal.invariant-loop-provider
invariant-loop-provider g l = Gathered (λ m. IsAsId) (IsRunOf l.fn.customer.value) (here g.S.Source.rest l.fn.cons) (here g.S.Source.rest l.cons) l.run

abbrev pub decreases-loop-provider : goal.decreases-loop-provider
decreases-loop-provider g l = length (g.S.Source.rest l.cons.octets.source.source)
