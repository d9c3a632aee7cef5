-- What a good object attests is held by its chain and kept by its own certificate.
use Rattle.std.proofs.Common.{ℕ, List, inl, inr, sym, subst}
use Rattle.rpki_rules.specs.resources_chain.Sets.{InRun}
use Rattle.rpki_rules.specs.resources_chain.Claims.{Keeps}
use Rattle.rpki_rules.specs.resources_ip_prefix.Prefixes.{prefix_run}
use Rattle.rpki_rules.specs.Certs.{Cert}
use Rattle.rpki_rules.specs.Objects.{RoaAddress}
use Rattle.rpki_rules.specs.Words.{Mem}
use Rattle.rpki_rules.specs.Kinds.{Kind, Ipv4, Ipv6, As, claim}
use Rattle.rpki_rules.specs.Chains.{Holds}
use Rattle.rpki_rules.specs.Attests.{Origin, Provision, Payload, OfRoa, OfAspa, run_of, origins, origins_of, max_len_or, provisions, AreHeld, IsCovered, HoldsWith}
use Rattle.rpki_rules.specs.Laws.{Listing}
use Rattle.rpki_rules.proofs.Lists.{kept_on}
use Rattle.rpki_rules.proofs.Orders.{mem_map, mem_append, each_at}

-- Of one family.
origin_held : (held : Kind → ℕ → Type 0) (k : Kind) (asn : ℕ) (addresses : List RoaAddress) → AreHeld (held k) addresses → (x : Origin) → Mem (origins_of k asn addresses) x → (n : ℕ) → InRun (run_of x) n → held x.kind n
origin_held held k asn addresses h x m n i =
    let g = (mem_map (λ (a : RoaAddress). let o : Origin = record { kind = k; addr = a.addr; len = a.len; max_len = max_len_or a.len a.max_len; asn = asn } in o) addresses x).0 m in
    let a = g.0 in
    subst (λ (y : Origin). (n : ℕ) → InRun (run_of y) n → held y.kind n) g.2 (each_at (λ (b : RoaAddress). (n : ℕ) → InRun (prefix_run b.addr b.len) n → held k n) addresses a h g.1) n i

-- Each address of an origin's prefix is held.
pub origin_covered : (held : Kind → ℕ → Type 0) (p : Payload) → IsCovered held p → (x : Origin) → Mem (origins p) x → (n : ℕ) → InRun (run_of x) n → held x.kind n
origin_covered held (OfRoa r) c x m n i = elim ((mem_append (origins_of Ipv4 r.asn r.v4) (origins_of Ipv6 r.asn r.v6) x).0 m) [
  | inl a ↦ origin_held held Ipv4 r.asn r.v4 c.0 x a n i
  | inr b ↦ origin_held held Ipv6 r.asn r.v6 c.1 x b n i
]
origin_covered held (OfAspa a) c x m n i = absurd m

-- The customer is held.
pub customer_covered : (held : Kind → ℕ → Type 0) (p : Payload) → IsCovered held p → (x : Provision) → Mem (provisions p) x → held As x.customer
customer_covered held (OfRoa r) c x m = absurd m
customer_covered held (OfAspa a) c x m =
    let g = (mem_map (λ (q : ℕ). let y : Provision = record { customer = a.customer; provider = q } in y) a.providers x).0 m in
    subst (λ (y : Provision). held As y.customer) g.2 c

pub listing : Listing
listing w t x g c which =
    let e = g.good.object.cert in
    let on : (k : Kind) (n : ℕ) → HoldsWith (Holds g.anchor g.below) e k n → Keeps (claim c k) n = λ k n h. elim which [
      | inl q ↦ subst (λ (d : Cert). Keeps (claim d k) n) (sym q) h.0
      | inr l ↦ subst (λ (d : Cert). Keeps (claim d k) n) l.2 (kept_on g.anchor g.below k n h.1 l.0 l.1)
    ] in (
      λ o m n i. on o.kind n (origin_covered (HoldsWith (Holds g.anchor g.below) e) x g.good.covered o m n i),
      λ p m. on As p.customer (customer_covered (HoldsWith (Holds g.anchor g.below) e) x g.good.covered p m),
    )
