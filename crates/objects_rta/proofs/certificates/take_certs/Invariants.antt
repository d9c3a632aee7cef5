use Rattle.std.proofs.Common.{length}
use Rattle.objects_cms.specs.bcder_content.Here.{here}
use Rattle.objects_cms.specs.certs_extension.CertText.{IsCert, SpellsCert}
use Rattle.objects_rta.proofs.Repeated.{Repeated}
use Rattle.objects_rta.proofs.certificates.take_certs.Given as goal

abbrev pub invariant-loop-certs : goal.invariant-loop-certs
invariant-loop-certs g l = Repeated IsCert SpellsCert l.certs.items (here g.S.Source.rest l.fn.cons) (here g.S.Source.rest l.cons)

abbrev pub decreases-loop-certs : goal.decreases-loop-certs
decreases-loop-certs g l = length (g.S.Source.rest l.cons.octets.source.source)
