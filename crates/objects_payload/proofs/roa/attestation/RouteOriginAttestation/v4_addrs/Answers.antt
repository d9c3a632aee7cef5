use Rattle.std.proofs.Common.{List, ap, subst}
use Rattle.objects_payload.specs.Roas.{Roa, RoaAddress}
use Rattle.objects_payload.specs.resources_ip_prefix.declared.addr.AddressFamily.TheVariants.{Ipv4}
use Rattle.objects_payload.specs.Addresses.{AllOf}
use Rattle.objects_payload.proofs.roa.attestation.RouteOriginAttestation.v4_addrs.Goals as goal

pub returns-clause-family : goal.returns-clause-family
returns-clause-family c = subst (λ (z : List RoaAddress). AllOf Ipv4 z) (ap (λ (r : Roa). r.v4) c.self.view_is) c.self.invariant.0
