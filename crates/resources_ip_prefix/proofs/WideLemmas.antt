-- Prefixes of either family as runs of numbers of 128 bits.
use Rattle.std.proofs.Common.{◌≡◌, ℕ, ◌+◌, ◌-◌, ◌*◌, ◌/◌, ◌%◌, ◌^◌, ◌<◌, ◌≤◌, ◌↔◌, arith, sym, ap, ◌∙◌, subst, refl}
use Rattle.std.proofs.lemmas.Nat.{pow_pos, pow-add, shr_split, shr-shr}
use Rattle.std.proofs.Math.Nat.{mul_assoc, mul-mod_left}
use Rattle.std.specs.Net.Addr.{MatchIp, IsIpv4OfBits, IsIpv6OfBits, ipv4_bits, ipv6_bits}
use Rattle.std.specs.declared.net.ip_addr.IpAddr.{IpAddr}
use Rattle.std.specs.declared.net.ip_addr.IpAddr.TheVariants.{V4, V6}
use Rattle.std.specs.declared.net.ipv4_addr.Ipv4Addr.{Ipv4Addr}
use Rattle.std.specs.declared.net.ipv6_addr.Ipv6Addr.{Ipv6Addr}
use Rattle.resources_ip_prefix.proofs.Numbers.{ipv4_is, ipv6_is}
use Rattle.resources_chain.specs.Sets.{InRun}
use Rattle.resources_ip_prefix.specs.AddrPrefixes.{Family, Ipv4, Ipv6, PrefixValue, IsPrefix, width, span, Has, family_of, bits_of as addr_bits, prefix_around}
use Rattle.resources_ip_prefix.specs.Prefixes.{span_of, first_of, prefix_run}
use Rattle.resources_ip_prefix.specs.Whole.{IsWhole}
use Rattle.resources_ip_prefix.specs.Wide.{widened, wide_run, IsOfFamily}

-- As many numbers as addresses, 2^96 for each of IPv4.
pub wide_span : (len : ℕ) → len ≤ 32 → span_of len ≡ 2 ^ (32 - len) * 2 ^ 96
wide_span len h =
    let parts : 128 - len ≡ (32 - len) + 96 = omega arith in
    ap (λ (k : ℕ). 2 ^ k) parts ∙ pow-add 2 (32 - len) 96

has_v4 : (first len n span wide : ℕ) → 0 < span → wide ≡ span * 2 ^ 96 → ((first ≤ n) × (n ≤ first + (span - 1))) ↔ ((first * 2 ^ 96 ≤ n * 2 ^ 96) × (n * 2 ^ 96 ≤ first * 2 ^ 96 + (wide - 1)))
has_v4 first len n span wide pos e = (λ h. (omega (arith, h.0), omega (arith, h.1)), λ h. (omega (arith, h.0), omega (arith, h.1)))

-- An address is one of the prefix exactly where the first of its numbers is one of the run.
has_as : (f : Family) (first len n : ℕ) → len ≤ width f → Has (record { family = f; first = first; len = len }) n ↔ InRun (prefix_run (widened f first) len) (widened f n)
has_as Ipv4 first len n h = has_v4 first len n (2 ^ (32 - len)) (span_of len) (pow_pos (32 - len)) (wide_span len h)
has_as Ipv6 first len n h = (λ x. x, λ x. x)

pub has_wide : (p : PrefixValue) (n : ℕ) → IsPrefix p → Has p n ↔ InRun (wide_run p) (widened p.family n)
has_wide p n h = has_as p.family p.first p.len n h.fits

whole_is : (first len span wide : ℕ) → 0 < span → wide ≡ span * 2 ^ 96 → IsWhole (record { first = first * 2 ^ 96; last = first * 2 ^ 96 + (wide - 1) })
whole_is first len span wide pos e = (omega arith, omega arith)

-- The run of an IPv4 prefix is over whole addresses.
pub v4_whole : (p : PrefixValue) → IsPrefix p → p.family ≡ Ipv4 → IsWhole (wide_run p)
v4_whole p h e =
    let fits : p.len ≤ 32 = subst (λ (f : Family). p.len ≤ width f) e h.fits in
    subst (λ (f : Family). IsWhole (prefix_run (widened f p.first) p.len)) (sym e) (whole_is p.first p.len (2 ^ (32 - p.len)) (span_of p.len) (pow_pos (32 - p.len)) (wide_span p.len fits))

clear_in : (f : Family) (first len : ℕ) → len ≤ width f → first % span f len ≡ 0 → first_of len (widened f first) ≡ widened f first
clear_in Ipv4 first len h zeros =
    let k : ℕ = 32 - len in
    let q : ℕ = first / 2 ^ k in
    let here : first ≡ q * 2 ^ k = omega (arith, shr_split first k, zeros) in
    let wide : first * 2 ^ 96 ≡ q * span_of len = ap (λ (x : ℕ). x * 2 ^ 96) here ∙ mul_assoc q (2 ^ k) (2 ^ 96) ∙ ap (λ (x : ℕ). q * x) (sym (wide_span len h)) in
    subst (λ (x : ℕ). first_of len x ≡ x) (sym wide) (omega (arith, shr_split (q * span_of len) (128 - len), mul-mod_left q (span_of len)))
clear_in Ipv6 first len h zeros = omega (arith, shr_split first (128 - len), zeros)

pub wide_clear : (p : PrefixValue) → IsPrefix p → first_of p.len (widened p.family p.first) ≡ widened p.family p.first
wide_clear p h = clear_in p.family p.first p.len h.fits h.no_host

-- The number of an address of either family.
ip_wide : (ip : IpAddr) (n : ℕ) → MatchIp ip (λ v4. n ≡ ipv4_bits v4 * 2 ^ 96) (λ v6. n ≡ ipv6_bits v6) → n ≡ widened (family_of ip) (addr_bits ip)
ip_wide (V4 a) n h = h
ip_wide (V6 a) n h = h

-- What is made of the first address is the first number of the prefix.
pub made_wide : (p : PrefixValue) (ip : IpAddr) (n made : ℕ) → IsPrefix p → family_of ip ≡ p.family → addr_bits ip ≡ p.first → MatchIp ip (λ v4. n ≡ ipv4_bits v4 * 2 ^ 96) (λ v6. n ≡ ipv6_bits v6) → made ≡ first_of p.len n → made ≡ widened p.family p.first
made_wide p ip n made h f b gives e =
    let is : n ≡ widened p.family p.first = ip_wide ip n gives ∙ (λ i. widened (f i) (b i)) in
    e ∙ ap (first_of p.len) is ∙ wide_clear p h

-- Back from 128 bits to 32.
pub narrowed : (addr len : ℕ) → len ≤ 32 → first_of len addr ≡ addr → addr / 2 ^ 96 / 2 ^ (32 - len) * 2 ^ (32 - len) * 2 ^ 96 ≡ addr
narrowed addr len h clear =
    let k : ℕ = 32 - len in
    let e : 96 + k ≡ 128 - len = omega arith in
    let q : addr / 2 ^ 96 / 2 ^ k ≡ addr / span_of len = shr-shr addr 96 k ∙ ap (λ (j : ℕ). addr / 2 ^ j) e in
    ap (λ (x : ℕ). x * 2 ^ k * 2 ^ 96) q ∙ mul_assoc (addr / span_of len) (2 ^ k) (2 ^ 96) ∙ ap (λ (x : ℕ). addr / span_of len * x) (sym (wide_span len h)) ∙ clear

pub v4_of : (a : Ipv4Addr) (p : PrefixValue) (addr len : ℕ) → IsIpv4OfBits a (addr / 2 ^ 96) → addr < 2 ^ 128 → first_of len addr ≡ addr → IsPrefix p × (p ≡ prefix_around Ipv4 (ipv4_bits a) len) → IsOfFamily Ipv4 addr len p
v4_of a p addr len is within clear made =
    let bits : ipv4_bits a ≡ addr / 2 ^ 96 = ipv4_is a (addr / 2 ^ 96) (omega arith) is in
    let e : p ≡ prefix_around Ipv4 (addr / 2 ^ 96) len = made.1 ∙ ap (λ (n : ℕ). prefix_around Ipv4 n len) bits in
    let fits : len ≤ 32 = (subst (λ (q : PrefixValue). IsPrefix q) e made.0).fits in
    subst (λ (q : PrefixValue). IsOfFamily Ipv4 addr len q) (sym e) (record {
      is_prefix = subst (λ (q : PrefixValue). IsPrefix q) e made.0;
      family_is = refl;
      first_is = narrowed addr len fits clear;
      len_is = refl;
    })

pub v6_of : (a : Ipv6Addr) (p : PrefixValue) (addr len : ℕ) → IsIpv6OfBits a addr → addr < 2 ^ 128 → first_of len addr ≡ addr → IsPrefix p × (p ≡ prefix_around Ipv6 (ipv6_bits a) len) → IsOfFamily Ipv6 addr len p
v6_of a p addr len is within clear made =
    let bits : ipv6_bits a ≡ addr = ipv6_is a addr within is in
    let e : p ≡ prefix_around Ipv6 addr len = made.1 ∙ ap (λ (n : ℕ). prefix_around Ipv6 n len) bits in
    subst (λ (q : PrefixValue). IsOfFamily Ipv6 addr len q) (sym e) (record {
      is_prefix = subst (λ (q : PrefixValue). IsPrefix q) e made.0;
      family_is = refl;
      first_is = clear;
      len_is = refl;
    })

pub v4_from : (a : Ipv4Addr) (p : PrefixValue) (told addr l len : ℕ) → IsIpv4OfBits a (told / 2 ^ 96) → told ≡ addr → l ≡ len → addr < 2 ^ 128 → first_of len addr ≡ addr → IsPrefix p × (p ≡ prefix_around Ipv4 (ipv4_bits a) l) → IsOfFamily Ipv4 addr len p
v4_from a p told addr l len is e same within clear made =
    v4_of a p addr len (subst (λ (n : ℕ). IsIpv4OfBits a (n / 2 ^ 96)) e is) within clear (made.0, made.1 ∙ ap (λ (k : ℕ). prefix_around Ipv4 (ipv4_bits a) k) same)

pub v6_from : (a : Ipv6Addr) (p : PrefixValue) (told addr l len : ℕ) → IsIpv6OfBits a told → told ≡ addr → l ≡ len → addr < 2 ^ 128 → first_of len addr ≡ addr → IsPrefix p × (p ≡ prefix_around Ipv6 (ipv6_bits a) l) → IsOfFamily Ipv6 addr len p
v6_from a p told addr l len is e same within clear made =
    v6_of a p addr len (subst (λ (n : ℕ). IsIpv6OfBits a n) e is) within clear (made.0, made.1 ∙ ap (λ (k : ℕ). prefix_around Ipv6 (ipv6_bits a) k) same)
