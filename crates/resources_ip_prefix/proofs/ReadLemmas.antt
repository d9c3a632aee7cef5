-- Texts of addresses and prefixes that are read: what they write is one thing, and of one family.
use Rattle.std.proofs.Common.{◌≡◌, ◌≢◌, ℕ, zero, suc, ◌*◌, ◌^◌, ◌<◌, ◌≤◌, ◌⊎◌, ◌↔◌, Bool, true, false, cond, ◌==◌, List, [], ◌∷◌, ◌++◌, length, drop, get_or, inl, inr, sym, subst, ap, ◌∙◌, arith, refl}
use Rattle.std.specs.Prelude.{codes, Result, Ok, Err, IfOk}
use Rattle.std.specs.Str.Parse.{AllDigits}
use Rattle.std.specs.Net.Addr.{ipv4_bits, ipv6_bits, segments_of}
use Rattle.std.specs.Net.Grammar.{IsDotted, IsGroupsAfter, IsGroups, IsElided, IsColonHex, IsIpv4Text, IsIpv6Text}
use Rattle.std.specs.Net.Text.{dotted_text}
use Rattle.std.specs.declared.net.ipv4_addr.Ipv4Addr.{Ipv4Addr}
use Rattle.std.specs.declared.net.ipv6_addr.Ipv6Addr.{Ipv6Addr}
use Rattle.std.proofs.NetLemmas.Theorems.{IsIpv4Text_unique, IsIpv6Text_unique}
use Rattle.std.proofs.NetLemmas.Alphabet.{IsDigitOrDot, All-ipv4_text}
use Rattle.std.proofs.lemmas.Bool.{eqb-true}
use Rattle.std.proofs.lemmas.List.Elements.{All-get_or}
use Rattle.std.proofs.lemmas.Str.Parse.{digit_at}
use Rattle.resources_ip_prefix.specs.Cuts.{IsCut, IsLenText}
use Rattle.resources_ip_prefix.proofs.AddrTexts.{cut_once, cut_lacks, len_once}
use Rattle.resources_ip_prefix.specs.declared.addr.AddressFamily.{AddressFamily}
use Rattle.resources_ip_prefix.specs.declared.addr.AddressFamily.TheVariants.{Ipv4, Ipv6}
use Rattle.resources_ip_prefix.specs.declared.prefix.Prefix.{Prefix}
use Rattle.resources_ip_prefix.specs.declared.error.FromStrError.{FromStrError}
use Rattle.resources_ip_prefix.specs.declared.error.FromStrError.TheVariants as Cause
use Rattle.resources_ip_prefix.specs.Address.{bits_of}
use Rattle.resources_ip_prefix.specs.Family.{max_len_of, HasColon}
use Rattle.resources_ip_prefix.specs.Prefix.{prefix_addr, prefix_len, run_of_prefix, host_clear}
use Rattle.resources_ip_prefix.specs.Prefixes.{first_of}
use Rattle.resources_ip_prefix.specs.Whole.{IsWhole}
use Rattle.resources_ip_prefix.specs.ReadTexts.{IsAddrText, IsNoAddr, IsLengthText, WritesPrefix, IsNoPrefix, Shows}
use Rattle.resources_ip_prefix.proofs.WholePrefix.{whole_prefix}

pub longest : (family : AddressFamily) → max_len_of family ≤ 128
longest Ipv4 = omega arith
longest Ipv6 = omega arith

-- ---- one thing

pub addr_once : (family : AddressFamily) (text : List ℕ) (m n : ℕ) → IsAddrText family text m → IsAddrText family text n → m ≡ n
addr_once Ipv4 text m n h k = h.2 ∙ ap (λ (ip : Ipv4Addr). ipv4_bits ip * 2 ^ 96) (IsIpv4Text_unique text h.0 k.0 h.1 k.1) ∙ sym k.2
addr_once Ipv6 text m n h k = h.2 ∙ ap (λ (ip : Ipv6Addr). ipv6_bits ip) (IsIpv6Text_unique text h.0 k.0 h.1 k.1) ∙ sym k.2

pub addr_at : (family : AddressFamily) (text other : List ℕ) (n : ℕ) → text ≡ other → IsAddrText family text n → IsAddrText family other n
addr_at family text other n e h = subst (λ (t : List ℕ). IsAddrText family t n) e h

length_at : (family : AddressFamily) (text other : List ℕ) (n : ℕ) → text ≡ other → IsLengthText family text n → IsLengthText family other n
length_at family text other n e h = subst (λ (t : List ℕ). IsLengthText family t n) e h

pub prefix_once : (family : AddressFamily) (text : List ℕ) (a b l m : ℕ) → WritesPrefix family text a l → WritesPrefix family text b m → (a ≡ b) × (l ≡ m)
prefix_once family text a b l m h k =
    let parts = cut_once 47 text h.address h.digits k.address k.digits h.cut k.cut in
    let bits : h.bits ≡ k.bits = addr_once family k.address h.bits k.bits (addr_at family h.address k.address h.bits parts.0 h.addr) k.addr in
    let len : l ≡ m = len_once k.digits l m (length_at family h.digits k.digits l parts.1 h.length).0 k.length.0 in
    (h.first_is ∙ (λ i. first_of (len i) (bits i)) ∙ sym k.first_is, len)

-- What is wrong with a text is wrong with that of no prefix.
no_prefix : (family : AddressFamily) (text : List ℕ) (e : FromStrError) → IsNoPrefix family text e → (first len : ℕ) → ¬ (WritesPrefix family text first len)
no_prefix family text Cause.MissingSeparator w first len h = cut_lacks 47 text h.address h.digits h.cut w
no_prefix family text Cause.Addr w first len h =
    w.3 h.bits (addr_at family h.address w.0 h.bits (cut_once 47 text h.address h.digits w.0 w.1 h.cut w.2).0 h.addr)
no_prefix family text Cause.PrefixLen w first len h =
    w.5 len (length_at family h.digits w.1 len (cut_once 47 text h.address h.digits w.0 w.1 h.cut w.3).1 h.length)
no_prefix family text Cause.FamilyMismatch w first len h = absurd w
no_prefix family text Cause.BadBlocks w first len h = absurd w
no_prefix family text Cause.BadRange w first len h = absurd w
no_prefix family text Cause.Memory w first len h = absurd w

pub prefix_refused : (family : AddressFamily) (text : List ℕ) (e : FromStrError) → IsNoPrefix family text e → IsNoPrefix family text e × ((first len : ℕ) → ¬ (WritesPrefix family text first len))
prefix_refused family text e w = (w, no_prefix family text e w)

pub prefix_read : (family : AddressFamily) (text address digits : List ℕ) (bits len first : ℕ) → IsCut 47 text address digits → IsAddrText family address bits → IsLengthText family digits len → first ≡ first_of len bits → WritesPrefix family text first len
prefix_read family text address digits bits len first cut a l e = record { address = address; digits = digits; bits = bits; cut = cut; addr = a; length = l; first_is = e }

pub short_whole : {E : Type 0} (r : Result Prefix E) → IfOk r (λ p. prefix_len p ≤ 32) → IfOk r (λ p. IsWhole (run_of_prefix p))
short_whole (Ok p) h = whole_prefix (bits_of (prefix_addr p)) (prefix_len p) h (host_clear p)
short_whole (Err e) h = h

-- ---- what is read by family

pub v4_read : (family : AddressFamily) (text : List ℕ) (ip : Ipv4Addr) (n : ℕ) → family ≡ Ipv4 → IsIpv4Text text ip → n ≡ ipv4_bits ip * 2 ^ 96 → IsAddrText family text n
v4_read family text ip n e h k = subst (λ (f : AddressFamily). IsAddrText f text n) (sym e) (ip, h, k)

pub v6_read : (family : AddressFamily) (text : List ℕ) (ip : Ipv6Addr) (n : ℕ) → family ≡ Ipv6 → IsIpv6Text text ip → n ≡ ipv6_bits ip → IsAddrText family text n
v6_read family text ip n e h k = subst (λ (f : AddressFamily). IsAddrText f text n) (sym e) (ip, h, k)

pub v4_refused : (family : AddressFamily) (text : List ℕ) → family ≡ Ipv4 → ((ip : Ipv4Addr) → ¬ (IsIpv4Text text ip)) → IsNoAddr family text
v4_refused family text e none = subst (λ (f : AddressFamily). IsNoAddr f text) (sym e) (λ n h. none h.0 h.1)

pub v6_refused : (family : AddressFamily) (text : List ℕ) → family ≡ Ipv6 → ((ip : Ipv6Addr) → ¬ (IsIpv6Text text ip)) → IsNoAddr family text
v6_refused family text e none = subst (λ (f : AddressFamily). IsNoAddr f text) (sym e) (λ n h. none h.0 h.1)

-- ---- colons

pub colon_right : (xs ys : List ℕ) → HasColon ys → HasColon (xs ++ ys)
colon_right [] ys h = h
colon_right (x ∷ xs) ys h = let r = colon_right xs ys h in (suc r.0, omega (arith, r.1), r.2)

pub colon_left : (xs ys : List ℕ) → HasColon xs → HasColon (xs ++ ys)
colon_left [] ys (k, l, e) = absurd (omega (arith, l))
colon_left (x ∷ xs) ys (zero, l, e) = (zero, omega arith, e)
colon_left (x ∷ xs) ys (suc k, l, e) = let r = colon_left xs ys (k, omega (arith, l), e) in (suc r.0, omega (arith, r.1), r.2)

pub colon_split : (xs ys : List ℕ) → HasColon (xs ++ ys) → HasColon xs ⊎ HasColon ys
colon_split [] ys h = inr h
colon_split (x ∷ xs) ys (zero, l, e) = inl (zero, omega arith, e)
colon_split (x ∷ xs) ys (suc k, l, e) =
    elim (colon_split xs ys (k, omega (arith, l), e)) [ inl h ↦ inl (suc h.0, omega (arith, h.1), h.2) | inr h ↦ inr h ]

leads : (text rest : List ℕ) → text ≡ 58 ∷ rest → HasColon text
leads text rest e = subst HasColon (sym e) (0, omega arith, refl)

after_colon : (text segments : List ℕ) → 0 < length segments → IsGroupsAfter true (codes ":") text segments → HasColon text
after_colon text [] some h = absurd (omega (arith, some))
after_colon text (s ∷ segments) some (inl h) = leads text (h.0 ++ h.1) h.2
after_colon text (s ∷ segments) some (inr h) = leads text h.0 h.3

two_segments : (octets : List ℕ) (a b c d : ℕ) → octets ≡ a ∷ b ∷ c ∷ d ∷ [] → length (segments_of octets) ≡ 2
two_segments octets a b c d e = ap (λ (o : List ℕ). length (segments_of o)) e

groups_colon : (text segments : List ℕ) → IsGroups true text segments → length segments ≡ 8 → HasColon text
groups_colon text [] h e = absurd (omega (arith, e))
groups_colon text (s ∷ segments) (inl h) e =
    subst HasColon (sym h.2) (colon_right h.0 h.1 (after_colon h.1 segments (omega (arith, e)) h.4))
groups_colon text (s ∷ segments) (inr h) e =
    let d = h.4 in
    absurd (omega (arith, e, ap (λ (o : List ℕ). length o) h.5, two_segments h.1 d.a d.b d.c d.d d.value))

elided_colon : (text segments : List ℕ) → IsElided text segments → HasColon text
elided_colon text segments h =
    subst HasColon (sym h.spelled) (colon_left (h.head_text ++ codes "::") h.tail_text (colon_right h.head_text (codes "::") (0, omega arith, refl)))

v6_colon : (text segments : List ℕ) → IsColonHex text segments → HasColon text
v6_colon text segments (inl h) = groups_colon text segments h.0 h.1
v6_colon text segments (inr h) = elided_colon text segments h

four_small : (a b c d : ℕ) → a < 256 → b < 256 → c < 256 → d < 256 → (k : ℕ) → get_or (a ∷ b ∷ c ∷ d ∷ []) k 0 < 2 ^ 8
four_small a b c d ha hb hc hd zero = omega arith
four_small a b c d ha hb hc hd (suc zero) = omega arith
four_small a b c d ha hb hc hd (suc (suc zero)) = omega arith
four_small a b c d ha hb hc hd (suc (suc (suc zero))) = omega arith
four_small a b c d ha hb hc hd (suc (suc (suc (suc k)))) = omega arith

v4_no_colon : (text octets : List ℕ) → IsDotted text octets → ¬ (HasColon text)
v4_no_colon text octets h colon =
    let all = All-ipv4_text (h.a ∷ h.b ∷ h.c ∷ h.d ∷ []) (four_small h.a h.b h.c h.d h.fit.0 h.fit.1 h.fit.2 h.fit.3) in
    let there : HasColon (dotted_text h.a h.b h.c h.d) = subst HasColon h.spelled colon in
    elim (All-get_or IsDigitOrDot (dotted_text h.a h.b h.c h.d) there.0 0 there.1 all) [
      | inl d ↦ let high = d.1 in omega (arith, high, there.2)
      | inr d ↦ omega (arith, d, there.2)
    ]

-- The text of an address tells its family.
pub addr_shows : (family : AddressFamily) (text : List ℕ) (n : ℕ) → IsAddrText family text n → Shows family text
addr_shows Ipv4 text n h = v4_no_colon text _ h.1
addr_shows Ipv6 text n h = v6_colon text _ h.1

digits_no_colon : (a : ℕ) (cs : List ℕ) (b : Bool) → b ≡ (a == 43) → AllDigits 10 (drop (cond b 1 0) (a ∷ cs)) → ¬ (HasColon (a ∷ cs))
digits_no_colon a cs true e h (zero, l, f) = let plus = eqb-true a 43 (sym e) in omega (arith, plus, f)
digits_no_colon a cs true e h (suc i, l, f) = let d = (digit_at cs i h (omega (arith, l))).1 in omega (arith, d, f)
digits_no_colon a cs false e h (i, l, f) = let d = (digit_at (a ∷ cs) i h l).1 in omega (arith, d, f)

len_no_colon : (text : List ℕ) (n : ℕ) → IsLenText text n → ¬ (HasColon text)
len_no_colon [] n h (i, l, f) = omega (arith, l)
len_no_colon (a ∷ cs) n h colon = digits_no_colon a cs (a == 43) refl h.numeral.1 colon

one_no_colon : (c : ℕ) → c ≢ 58 → ¬ (HasColon (c ∷ []))
one_no_colon c other (zero, l, e) = other e
one_no_colon c other (suc k, l, e) = absurd (omega (arith, l))

-- Two texts with a byte between, which is no colon.
pub between_shows : (family : AddressFamily) (c : ℕ) (xs ys : List ℕ) → c ≢ 58 → Shows family xs → ¬ (HasColon ys) ⊎ Shows family ys → Shows family (xs ++ c ∷ ys)
between_shows Ipv4 c xs ys other x y = λ colon.
    elim (colon_split xs (c ∷ ys) colon) [
      | inl h ↦ x h
      | inr h ↦ elim (colon_split (c ∷ []) ys h) [ inl k ↦ one_no_colon c other k | inr k ↦ elim y [ inl z ↦ z k | inr z ↦ z k ] ]
    ]
between_shows Ipv6 c xs ys other x y = colon_left xs (c ∷ ys) x

pub prefix_shows : (family : AddressFamily) (text : List ℕ) (first len : ℕ) → WritesPrefix family text first len → Shows family text
prefix_shows family text first len h =
    subst (λ (t : List ℕ). Shows family t) (sym h.cut.whole) (between_shows family 47 h.address h.digits (λ e. omega (arith, e)) (addr_shows family h.address h.bits h.addr) (inl (len_no_colon h.digits len h.length.0)))

pub shown_by : (family : AddressFamily) (text : List ℕ) → (family ≡ Ipv6) ↔ HasColon text → Shows family text
shown_by Ipv4 text h = λ colon. let e : Ipv4 ≡ Ipv6 = h.1 colon in absurd cc
shown_by Ipv6 text h = h.0 refl
