use Rattle.std.proofs.Common.{List, sym, ◌∙◌, subst}
use Rattle.objects_payload.specs.Roas.{RoaAddress}
use Rattle.objects_payload.specs.resources_ip_prefix.declared.addr.AddressFamily.TheVariants.{Ipv4, Ipv6}
use Rattle.objects_payload.specs.Addresses.{AllOf}
use Rattle.objects_payload.proofs.roa.attestation.RouteOriginAttestation.iter.Goals as goal

pub invariant_of-result : goal.invariant_of-result
invariant_of-result c = (
  subst (λ (z : List RoaAddress). AllOf Ipv4 z) (sym (c.as_slice.ensures ∙ c.v4_addrs.ensures.value)) c.v4_addrs.ensures.family,
  subst (λ (z : List RoaAddress). AllOf Ipv6 z) (sym (c.as_slice-2.ensures ∙ c.v6_addrs.ensures.value)) c.v6_addrs.ensures.family,
)
