use Rattle.std.proofs.Common.{List, ap, subst}
use Rattle.objects_payload.specs.Roas.{Roa, RoaAddress}
use Rattle.objects_payload.specs.resources_ip_prefix.declared.addr.AddressFamily.TheVariants.{Ipv6}
use Rattle.objects_payload.specs.Addresses.{AllOf}
use Rattle.objects_payload.proofs.roa.attestation.RouteOriginAttestation.v6_addrs.Goals as goal

pub returns-clause-family : goal.returns-clause-family
returns-clause-family c = subst (λ (z : List RoaAddress). AllOf Ipv6 z) (ap (λ (r : Roa). r.v6) c.self.view_is) c.self.invariant.1
