-- What is printed of blocks of addresses, and that it is read.
use Rattle.std.proofs.Common.{◌≡◌, ◌≢◌, ℕ, ◌+◌, ◌-◌, ◌*◌, ◌/◌, ◌%◌, ◌^◌, ◌<◌, ◌≤◌, ◌==◌, ◌&&◌, Bool, true, false, List, [], ◌∷◌, ◌++◌, decimal, inl, inr, sym, subst, ap, ◌∙◌, arith, refl, eq-eqb}
use Rattle.std.proofs.lemmas.Bool.{cond_both, eqb-true}
use Rattle.std.proofs.lemmas.Bool.Decides.{leb_tells}
use Rattle.std.proofs.lemmas.Nat.{leading_le, pow_pos}
use Rattle.std.proofs.Math.Pow.{pow_mono}
use Rattle.std.specs.Net.Addr.{ipv4_bits, ipv6_bits}
use Rattle.std.specs.Net.Grammar.{IsIpText, IsIpv4Text, IsIpv6Text}
use Rattle.std.specs.declared.net.ipv4_addr.Ipv4Addr.{Ipv4Addr}
use Rattle.std.specs.declared.net.ipv6_addr.Ipv6Addr.{Ipv6Addr}
use Rattle.std.specs.declared.net.ip_addr.IpAddr.{IpAddr}
use Rattle.std.specs.declared.net.ip_addr.IpAddr.TheVariants.{V4, V6}
use Rattle.resources_ip_block.specs.resources_ip_prefix.Cuts.{LacksByte}
use Rattle.resources_ip_block.specs.resources_ip_prefix.AddrPrefixes as Of
use Rattle.resources_ip_block.specs.resources_chain.Sets.{Run}
use Rattle.resources_ip_block.specs.resources_chain.Same.{run_is}
use Rattle.resources_ip_block.specs.resources_chain.Lists.{HasNoComma}
use Rattle.resources_ip_prefix.specs.All.{last_address}
use Rattle.resources_ip_prefix.specs.declared.addr.AddressFamily.{AddressFamily}
use Rattle.resources_ip_prefix.specs.declared.addr.AddressFamily.TheVariants.{Ipv4, Ipv6}
use Rattle.resources_ip_prefix.specs.Family.{max_len_of}
use Rattle.resources_ip_prefix.specs.Prefixes.{span_of, first_of, last_of, prefix_run}
use Rattle.resources_ip_prefix.specs.Text.{slashed}
use Rattle.resources_ip_prefix.specs.Whole.{IsWhole}
use Rattle.resources_ip_prefix.specs.ReadTexts.{IsAddrText}
use Rattle.resources_ip_prefix.proofs.Printed.{address_read, address_plain, plain_lacks, decimal_plain, len_printed, lacks_both}
use Rattle.resources_ip_block.specs.BlockText.{dashed, IsBlockText, length_of_run, block_text, address_text}
use Rattle.resources_ip_block.specs.ReadTexts.{WritesBlock}
use Rattle.resources_ip_block.proofs.PrefixLemmas.{tried}

-- ---- the text of a run is one

both_true : (a b : Bool) → (a && b) ≡ true → (a ≡ true) × (b ≡ true)
both_true true true e = (refl, refl)
both_true true false e = absurd (let h : false ≡ true = e in cc)
both_true false b e = absurd (let h : false ≡ true = e in cc)

true_both : (a b : Bool) → a ≡ true → b ≡ true → (a && b) ≡ true
true_both true true e f = refl
true_both true false e f = f
true_both false b e f = e

-- The test is passed exactly by the runs of prefixes.
OwnLength : Run → Type 0
OwnLength r = (first_of (length_of_run r) r.first ≡ r.first) × (prefix_run r.first (length_of_run r) ≡ r)

passed : (r : Run) → ((first_of (length_of_run r) r.first == r.first) && (r.first + (span_of (length_of_run r) - 1) == r.last)) ≡ true → OwnLength r
unfolding OwnLength
passed r e =
    let parts = both_true (first_of (length_of_run r) r.first == r.first) (r.first + (span_of (length_of_run r) - 1) == r.last) e in
    (eqb-true (first_of (length_of_run r) r.first) r.first parts.0, run_is refl (eqb-true (r.first + (span_of (length_of_run r) - 1)) r.last parts.1))

failed : (r : Run) → ((first_of (length_of_run r) r.first == r.first) && (r.first + (span_of (length_of_run r) - 1) == r.last)) ≡ false → (len : ℕ) → len ≤ 128 → first_of len r.first ≡ r.first → prefix_run r.first len ≡ r → ⊥
failed r none len le clear e =
    let own = tried r (r.last - r.first) r.first len refl le clear e in
    let end : r.first + (span_of (length_of_run r) - 1) ≡ r.last = ap (λ (x : ℕ). x + (span_of (length_of_run r) - 1)) (sym own.min) ∙ own.max in
    let yes = true_both (first_of (length_of_run r) r.first == r.first) (r.first + (span_of (length_of_run r) - 1) == r.last) (eq-eqb _ _ own.min) (eq-eqb _ _ end) in
    let wrong : true ≡ false = sym yes ∙ none in
    cc

pub text_is : (f : ℕ → List ℕ) (r : Run) (text : List ℕ) → IsBlockText f r text → text ≡ block_text f r
unfolding block_text OwnLength
text_is f r text h =
    cond_both ((first_of (length_of_run r) r.first == r.first) && (r.first + (span_of (length_of_run r) - 1) == r.last)) (slashed (f r.first) (length_of_run r)) (dashed (f r.first) (f r.last)) (λ x. text ≡ x)
    (λ e. let own = passed r e in h.prefix (length_of_run r) (leading_le 128 (r.last - r.first)) own.0 own.1)
    (λ e. h.range (λ len le clear same. failed r e len le clear same))

-- ---- what is printed is read

-- The run is one of the family: of IPv4 over whole addresses.
abbrev pub IsFamilyRun : AddressFamily → Run → Type 0
IsFamilyRun Ipv4 r = IsWhole r
IsFamilyRun Ipv6 r = Unit {0}

v4_of_any : (a : IpAddr) (text : List ℕ) (n : ℕ) → IsIpText text a → Of.family_of a ≡ Of.Ipv4 → Of.bits_of a ≡ n → (ip : Ipv4Addr) × IsIpv4Text text ip × (ipv4_bits ip ≡ n)
v4_of_any (V4 ip) text n h e b = (ip, h, b)
v4_of_any (V6 ip) text n h e b = absurd cc

v6_of_any : (a : IpAddr) (text : List ℕ) (n : ℕ) → IsIpText text a → Of.family_of a ≡ Of.Ipv6 → Of.bits_of a ≡ n → (ip : Ipv6Addr) × IsIpv6Text text ip × (ipv6_bits ip ≡ n)
v6_of_any (V4 ip) text n h e b = absurd cc
v6_of_any (V6 ip) text n h e b = (ip, h, b)

whole_bits : (n : ℕ) → n / 1 * 1 ≡ n
whole_bits n = omega arith

-- What is printed of an address writes it, with all but the family's bits cleared.
addr_written : (family : AddressFamily) (n : ℕ) → n < 2 ^ 128 → IsAddrText family (address_text family n) (first_of (max_len_of family) n)
addr_written Ipv4 n fits =
    let a = address_read Of.Ipv4 (n / 2 ^ 96) (omega (arith, fits)) in
    let ip = v4_of_any a.0 (address_text Ipv4 n) (n / 2 ^ 96) a.1 a.2 a.3 in
    (ip.0, ip.1, ap (λ (x : ℕ). x * 2 ^ 96) (sym ip.2))
addr_written Ipv6 n fits =
    let a = address_read Of.Ipv6 n fits in
    let ip = v6_of_any a.0 (address_text Ipv6 n) n a.1 a.2 a.3 in
    (ip.0, ip.1, whole_bits n ∙ sym ip.2)

first_whole : (family : AddressFamily) (r : Run) → IsFamilyRun family r → first_of (max_len_of family) r.first ≡ r.first
first_whole Ipv4 r h = let e = h.0 in omega (arith, e)
first_whole Ipv6 r h = whole_bits r.first

last_whole : (family : AddressFamily) (r : Run) → IsFamilyRun family r → r.last ≡ last_of (max_len_of family) (first_of (max_len_of family) r.last)
last_whole Ipv4 r h = let e = h.1 in omega (arith, e)
last_whole Ipv6 r h = omega arith

short_span : (first last span : ℕ) → first % 2 ^ 96 ≡ 0 → last % 2 ^ 96 ≡ 2 ^ 96 - 1 → last ≡ first + (span - 1) → 0 < span → span ≤ 2 ^ 95 → ⊥
short_span first last span f l e some low = omega arith

short_length : (r : Run) (len : ℕ) → IsWhole r → prefix_run r.first len ≡ r → len ≤ 32
short_length r len w e =
    let last : r.last ≡ r.first + (span_of len - 1) = sym (ap (λ (x : Run). x.last) e) in
    elim (leb_tells len 32) [
      | inl le ↦ le.1
      | inr lt ↦ absurd (short_span r.first r.last (span_of len) w.0 w.1 last (pow_pos (128 - len)) (pow_mono {i = 128 - len} {j = 95} (omega (arith, lt.1))))
    ]

length_fits : (family : AddressFamily) (r : Run) (len : ℕ) → IsFamilyRun family r → len ≤ 128 → prefix_run r.first len ≡ r → len ≤ max_len_of family
length_fits Ipv4 r len w le e = short_length r len w e
length_fits Ipv6 r len w le e = le

addr_lacks : (c : ℕ) → c ≤ 47 → c ≢ 46 → (family : AddressFamily) (n : ℕ) → LacksByte c (address_text family n)
addr_lacks c low other Ipv4 n = plain_lacks c (address_text Ipv4 n) low other (address_plain Of.Ipv4 (n / 2 ^ 96))
addr_lacks c low other Ipv6 n = plain_lacks c (address_text Ipv6 n) low other (address_plain Of.Ipv6 n)

one_lacks : (c d : ℕ) → d ≢ c → LacksByte c (d ∷ [])
one_lacks c d other i l e = grind arith

-- Two texts with a byte between.
between_lacks : (c d : ℕ) (xs ys : List ℕ) → d ≢ c → LacksByte c xs → LacksByte c ys → LacksByte c (xs ++ d ∷ ys)
between_lacks c d xs ys other x y = lacks_both c xs (d ∷ ys) x (lacks_both c (d ∷ []) ys (one_lacks c d other) y)

Written : AddressFamily → Run → List ℕ → Type 0
Written family r text = HasNoComma text × WritesBlock family text r

prefix_written : (family : AddressFamily) (r : Run) (len : ℕ) → IsFamilyRun family r → r.first < 2 ^ 128 → len ≤ 128 → first_of len r.first ≡ r.first → prefix_run r.first len ≡ r → Written family r (slashed (address_text family r.first) len)
unfolding Written
prefix_written family r len w fits le clear e =
    let a = address_text family r.first in
    let addr : IsAddrText family a r.first = subst (IsAddrText family a) (first_whole family r w) (addr_written family r.first fits) in
    let small : len < 2 ^ 8 = omega (arith, le) in
    let digits = decimal_plain len small in (
      between_lacks 44 47 a (decimal len) (λ x. omega (arith, x)) (addr_lacks 44 (omega arith) (λ x. omega (arith, x)) family r.first) (plain_lacks 44 (decimal len) (omega arith) (λ x. omega (arith, x)) digits),
      inl (
        r.first,
        len,
        record {
          address = a;
          digits = decimal len;
          bits = r.first;
          cut = record { whole = refl; first = addr_lacks 47 (omega arith) (λ x. omega (arith, x)) family r.first };
          addr = addr;
          length = (len_printed len small, length_fits family r len w le e);
          first_is = sym clear;
        },
        sym e,
      ),
    )

range_written : (family : AddressFamily) (r : Run) → IsFamilyRun family r → r.first ≤ r.last → r.last < 2 ^ 128 → Written family r (dashed (address_text family r.first) (address_text family r.last))
unfolding Written
range_written family r w ordered fits =
    let a = address_text family r.first in
    let b = address_text family r.last in
    let first : IsAddrText family a r.first = subst (IsAddrText family a) (first_whole family r w) (addr_written family r.first (omega (arith, ordered, fits))) in (
      between_lacks 44 45 a b (λ x. omega (arith, x)) (addr_lacks 44 (omega arith) (λ x. omega (arith, x)) family r.first) (addr_lacks 44 (omega arith) (λ x. omega (arith, x)) family r.last),
      inr (
        between_lacks 47 45 a b (λ x. omega (arith, x)) (addr_lacks 47 (omega arith) (λ x. omega (arith, x)) family r.first) (addr_lacks 47 (omega arith) (λ x. omega (arith, x)) family r.last),
        record {
          min = a;
          max = b;
          end = first_of (max_len_of family) r.last;
          cut = record { whole = refl; first = addr_lacks 45 (omega arith) (λ x. omega (arith, x)) family r.first };
          first = first;
          last = addr_written family r.last fits;
          last_is = last_whole family r w;
          ordered = ordered;
        },
      ),
    )

pub block_written : (family : AddressFamily) (r : Run) → IsFamilyRun family r → r.first ≤ r.last → r.last ≤ last_address → HasNoComma (block_text (address_text family) r) × WritesBlock family (block_text (address_text family) r) r
unfolding block_text OwnLength Written
block_written family r w ordered within =
    let f = address_text family in
    cond_both ((first_of (length_of_run r) r.first == r.first) && (r.first + (span_of (length_of_run r) - 1) == r.last)) (slashed (f r.first) (length_of_run r)) (dashed (f r.first) (f r.last)) (Written family r)
    (λ e. let own = passed r e in prefix_written family r (length_of_run r) w (omega (arith, ordered, within)) (leading_le 128 (r.last - r.first)) own.0 own.1)
    (λ e. range_written family r w ordered (omega (arith, within)))
