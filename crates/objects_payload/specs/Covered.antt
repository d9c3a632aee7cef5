-- What an object attests is within the resources of its certificate (RFC 9582 5, draft-ietf-sidrops-aspa-profile 4).
use Rattle.std.specs.Prelude.{ℕ, List}
use Rattle.objects_payload.specs.certs_basics.Lists.{Each}
use Rattle.objects_payload.specs.resources_chain.Sets.{InRun}
use Rattle.objects_payload.specs.resources_ip_prefix.Prefixes.{prefix_run}
use Rattle.objects_payload.specs.Aspas.{Aspa}
use Rattle.objects_payload.specs.Roas.{Roa, RoaAddress}

-- Each address of a prefix is held.
abbrev pub IsHeld : (ℕ → Type 0) → RoaAddress → Type 0
IsHeld held a = (n : ℕ) → InRun (prefix_run a.addr a.len) n → held n

abbrev pub AreHeld : (ℕ → Type 0) → List RoaAddress → Type 0
AreHeld held addresses = Each (IsHeld held) addresses

-- Of a route origin attestation all prefixes are held, of either family; the AS number need not be.
abbrev pub IsCoveredRoa : (ℕ → Type 0) → (ℕ → Type 0) → Roa → Type 0
IsCoveredRoa v4 v6 r = AreHeld v4 r.v4 × AreHeld v6 r.v6

-- Of a provider attestation the customer is held; providers need not be.
abbrev pub IsCoveredAspa : (ℕ → Type 0) → Aspa → Type 0
IsCoveredAspa asn a = asn a.customer
