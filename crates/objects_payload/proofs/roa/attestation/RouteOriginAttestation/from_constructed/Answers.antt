use Rattle.std.proofs.Common.{refl}
use Rattle.objects_payload.specs.RoaContents.{parts_fields}
use Rattle.objects_payload.proofs.ContentLemmas.{fields_all, roa_given, roa_stop}
use Rattle.objects_payload.proofs.roa.attestation.RouteOriginAttestation.from_constructed.Goals as goal

pub returns-in_err-_version : goal.returns-in_err-_version
returns-in_err-_version g c = roa_stop (λ r. r) _ _ _ _ c.from_residual.ensures c.in_err-_version.ensures.reads

pub invariant_of-result : goal.invariant_of-result
invariant_of-result g c = fields_all _ _ (parts_fields (c.in_ok-_version._version, c.in_ok-_version.as_id, c.in_ok-_version.families)) c.in_ok-_version.ensures.reads.is

pub returns : goal.returns
returns g c = roa_given (λ r. r) _ (parts_fields (c.in_ok-_version._version, c.in_ok-_version.as_id, c.in_ok-_version.families)) c.in_ok-_version.ensures.reads refl
