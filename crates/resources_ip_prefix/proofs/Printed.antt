-- What is printed of prefixes is read.
use Rattle.std.proofs.Common.{◌≡◌, ◌≢◌, ℕ, zero, suc, ◌/◌, ◌^◌, ◌<◌, ◌≤◌, ◌⊎◌, Option, Some, None, List, [], ◌∷◌, ◌++◌, get_or, take, drop, decimal, All, arith, sym, ◌∙◌, refl, inl, inr, append-nil}
use Rattle.std.proofs.lemmas.Bool.{cond_both}
use Rattle.std.proofs.lemmas.Fmt.{decimal_is_IsNumeral}
use Rattle.std.proofs.lemmas.List.Elements.{All-from_recursion, All-append, All-get_or, All-from_get_or, All-weaker}
use Rattle.std.proofs.lemmas.Str.Parse.{digit_at, without_leading_plus_none}
use Rattle.std.proofs.NetLemmas.Alphabet.{IsDigitOrDot, IsHexOrColon, All-ipv4_text, All-hex_groups_text}
use Rattle.std.proofs.NetLemmas.Texts.{IsDotted-ipv4_text, IsColonHex-ipv6_text, AllSegments, AllSegments-drop}
use Rattle.std.specs.Int.{w32, w128, to_be_bytes, byte_at, bytes_high_first, IsInRange}
use Rattle.std.specs.Net.Addr.{segments_of, octets_of, IsIpv4OfBits, IsIpv6OfBits}
use Rattle.std.specs.Net.Grammar.{IsIpText}
use Rattle.std.specs.Str.{bytes_eq}
use Rattle.std.specs.Str.Parse.{IsNumeral, digits_value}
use Rattle.std.specs.Net.Text.{ipv4_text, ipv6_text, hex_groups_text}
use Rattle.std.specs.declared.net.ipv4_addr.Ipv4Addr.{Ipv4Addr}
use Rattle.std.specs.declared.net.ipv6_addr.Ipv6Addr.{Ipv6Addr}
use Rattle.std.specs.declared.net.ip_addr.IpAddr.{IpAddr}
use Rattle.std.specs.declared.net.ip_addr.IpAddr.TheVariants.{V4, V6}
use Rattle.resources_ip_prefix.specs.AddrPrefixes.{Family, Ipv4, Ipv6, PrefixValue, IsPrefix, width, family_of, bits_of}
use Rattle.resources_ip_prefix.specs.MaxLens.{MaxLenValue, IsMaxLen, IsMaxLenOf}
use Rattle.resources_ip_prefix.specs.Cuts.{LacksByte, IsLenText}
use Rattle.resources_ip_prefix.specs.PrefixTexts.{IsPrefixText, address_text, prefix_text}
use Rattle.resources_ip_prefix.specs.MaxLenTexts.{IsWrittenMaxLen, IsMaxLenText, suffix_text, max_len_text}
use Rattle.resources_ip_prefix.proofs.Numbers.{below, ipv4_is, ipv6_is}

-- ---- octets and segments

small_byte : (k n : ℕ) → byte_at k n < 256
small_byte zero n = omega arith
small_byte (suc k) n = below (n / 256 ^ suc k)

bytes_small : (k n i : ℕ) → get_or (bytes_high_first k n) i 0 < 256
bytes_small zero n i = omega arith
bytes_small (suc k) n zero = small_byte k n
bytes_small (suc k) n (suc i) = bytes_small k n i

segments_small : (xs : List ℕ) → ((i : ℕ) → get_or xs i 0 < 256) → AllSegments (segments_of xs)
segments_small [] h i = omega arith
segments_small (a ∷ []) h i = omega arith
segments_small (a ∷ b ∷ xs) h zero = let x = h 0 in let y = h 1 in omega arith
segments_small (a ∷ b ∷ xs) h (suc i) = segments_small xs (λ j. h (suc (suc j))) i

octets_small : (xs : List ℕ) → AllSegments xs → (i : ℕ) → get_or (octets_of xs) i 0 < 2 ^ 8
octets_small [] h i = omega arith
octets_small (s ∷ xs) h zero = let x = h 0 in omega arith
octets_small (s ∷ xs) h (suc zero) = omega arith
octets_small (s ∷ xs) h (suc (suc i)) = octets_small xs (λ j. h (suc j)) i

-- ---- the bytes of printed addresses

-- `0` to `9`, `:`, `a` to `f`, or `.`
pub IsPlain : ℕ → Type 0
IsPlain c = IsInRange 48 58 c ⊎ (IsInRange 97 102 c ⊎ (c ≡ 46))

dotted_plain : (c : ℕ) → IsDigitOrDot c → IsPlain c
unfolding IsPlain
dotted_plain c (inl h) = inl (h.0, (let b = h.1 in omega arith))
dotted_plain c (inr h) = inr (inr h)

hex_plain : (c : ℕ) → IsHexOrColon c → IsPlain c
unfolding IsPlain
hex_plain c (inl h) = inl h
hex_plain c (inr h) = inr (inl h)

colon : IsPlain 58
unfolding IsPlain
colon = inl (omega arith, omega arith)

hex_f : IsPlain 102
unfolding IsPlain
hex_f = inr (inl (omega arith, omega arith))

mapped_front : All IsPlain (58 ∷ 58 ∷ 102 ∷ 102 ∷ 102 ∷ 102 ∷ 58 ∷ [])
mapped_front =
    All-from_recursion IsPlain (58 ∷ 58 ∷ 102 ∷ 102 ∷ 102 ∷ 102 ∷ 58 ∷ []) (colon, (colon, (hex_f, (hex_f, (hex_f, (hex_f, (colon, tt)))))))

ipv4_plain : (o : List ℕ) → ((i : ℕ) → get_or o i 0 < 2 ^ 8) → All IsPlain (ipv4_text o)
ipv4_plain o h = All-weaker IsDigitOrDot IsPlain dotted_plain (ipv4_text o) (All-ipv4_text o h)

ipv6_plain : (xs : List ℕ) → AllSegments xs → All IsPlain (ipv6_text xs)
unfolding ipv6_text
ipv6_plain xs h =
    cond_both (bytes_eq (take 6 xs) (0 ∷ 0 ∷ 0 ∷ 0 ∷ 0 ∷ 0xffff ∷ [])) (58 ∷ 58 ∷ 102 ∷ 102 ∷ 102 ∷ 102 ∷ 58 ∷ ipv4_text (octets_of (drop 6 xs))) (hex_groups_text xs) (All IsPlain)
    (λ _. All-append IsPlain (58 ∷ 58 ∷ 102 ∷ 102 ∷ 102 ∷ 102 ∷ 58 ∷ []) (ipv4_text (octets_of (drop 6 xs))) mapped_front (ipv4_plain (octets_of (drop 6 xs)) (octets_small (drop 6 xs) (AllSegments-drop 6 xs h))))
    (λ _. All-weaker IsHexOrColon IsPlain hex_plain (hex_groups_text xs) (All-hex_groups_text xs h))

pub address_plain : (f : Family) (n : ℕ) → All IsPlain (address_text f n)
address_plain Ipv4 n = ipv4_plain (to_be_bytes w32 n) (bytes_small 4 n)
address_plain Ipv6 n = ipv6_plain (segments_of (to_be_bytes w128 n)) (segments_small (to_be_bytes w128 n) (bytes_small 16 n))

pub plain_lacks : (c : ℕ) (text : List ℕ) → c ≤ 47 → c ≢ 46 → All IsPlain text → LacksByte c text
unfolding IsPlain
plain_lacks c text low other all i h e =
    elim (All-get_or IsPlain text i 0 h all) [
      | inl d ↦ let x = d.0 in omega arith
      | inr d ↦ elim d [ inl k ↦ let x = k.0 in omega arith | inr k ↦ other (sym e ∙ k) ]
    ]

-- ---- a printed length

printed_numeral : (n : ℕ) → n < 2 ^ 8 → IsNumeral 10 (decimal n) × (digits_value 10 (decimal n) ≡ n)
printed_numeral n fits = decimal_is_IsNumeral n (omega arith)

pub decimal_plain : (n : ℕ) → n < 2 ^ 8 → All IsPlain (decimal n)
unfolding IsPlain
decimal_plain n fits =
    All-from_get_or IsPlain (decimal n) 0 (λ i h.
    let d = digit_at (decimal n) i (printed_numeral n fits).0.1 h in
    inl (d.0, (let b = d.1 in omega arith)))

pub len_printed : (n : ℕ) → n < 2 ^ 8 → IsLenText (decimal n) n
len_printed n fits =
    let number = printed_numeral n fits in
    let first = digit_at (decimal n) 0 number.0.1 number.0.0 in
    let bare = without_leading_plus_none (decimal n) (λ e. let low = first.0 in omega arith) in
    record { numeral = rw bare number.0; value = rw bare number.1; fits = fits }

-- ---- printed prefixes

pub address_read : (f : Family) (n : ℕ) → n < 2 ^ width f → (a : IpAddr) × IsIpText (address_text f n) a × (family_of a ≡ f) × (bits_of a ≡ n)
unfolding IsIpv4OfBits IsIpv6OfBits
address_read Ipv4 n fits =
    let a : Ipv4Addr = record { octets = to_be_bytes w32 n } in
    (V4 a, IsDotted-ipv4_text (to_be_bytes w32 n) refl (bytes_small 4 n), refl, ipv4_is a n fits refl)
address_read Ipv6 n fits =
    let a : Ipv6Addr = record { segments = segments_of (to_be_bytes w128 n) } in (
      V6 a,
      IsColonHex-ipv6_text (segments_of (to_be_bytes w128 n)) refl (segments_small (to_be_bytes w128 n) (bytes_small 16 n)),
      refl,
      ipv6_is a n fits refl,
    )

len_fits : (f : Family) (len : ℕ) → len ≤ width f → len < 2 ^ 8
len_fits Ipv4 len h = omega arith
len_fits Ipv6 len h = omega arith

pub prefix_printed : (p : PrefixValue) → IsPrefix p → IsPrefixText (prefix_text p) p
prefix_printed p h =
    let a = address_read p.family p.first h.within in
    record {
      written = record {
        address = address_text p.family p.first;
        digits = decimal p.len;
        addr = a.0;
        cut = record { whole = refl; first = plain_lacks 47 (address_text p.family p.first) (omega arith) (λ e. absurd (omega arith)) (address_plain p.family p.first) };
        address_is = a.1;
        family_is = a.2;
        bits_are = a.3;
        length_is = len_printed p.len (len_fits p.family p.len h.fits);
      };
      prefix = h;
    }

pub lacks_both : (c : ℕ) (xs ys : List ℕ) → LacksByte c xs → LacksByte c ys → LacksByte c (xs ++ ys)
lacks_both c [] ys h k i l = k i l
lacks_both c (x ∷ xs) ys h k zero l = h 0 (omega arith)
lacks_both c (x ∷ xs) ys h k (suc i) l = lacks_both c xs ys (λ j b. h (suc j) (omega arith)) k i (omega arith)

slash_lacks : (ys : List ℕ) → LacksByte 45 ys → LacksByte 45 (47 ∷ ys)
slash_lacks ys h zero l = λ e. absurd (omega arith)
slash_lacks ys h (suc i) l = h i (omega arith)

no_dash : (p : PrefixValue) → IsPrefix p → LacksByte 45 (prefix_text p)
no_dash p h =
    lacks_both 45 (address_text p.family p.first) (47 ∷ decimal p.len)
    (plain_lacks 45 (address_text p.family p.first) (omega arith) (λ e. absurd (omega arith)) (address_plain p.family p.first))
    (slash_lacks (decimal p.len) (plain_lacks 45 (decimal p.len) (omega arith) (λ e. absurd (omega arith)) (decimal_plain p.len (len_fits p.family p.len h.fits))))

parts_printed : (p : PrefixValue) (o : Option ℕ) → IsPrefix p → IsMaxLenOf p o → IsWrittenMaxLen (prefix_text p ++ suffix_text o) p o
parts_printed p None h m = rw append-nil (no_dash p h, prefix_printed p h)
parts_printed p (Some n) h m = (
  prefix_text p,
  decimal n,
  record { whole = refl; first = no_dash p h },
  prefix_printed p h,
  len_printed n (len_fits p.family n m.1),
)

pub max_len_printed : (m : MaxLenValue) → IsMaxLen m → IsMaxLenText (max_len_text m) m
max_len_printed m h = record { written = parts_printed m.prefix m.max_len h.prefix h.max_len; max_len = h.max_len }
