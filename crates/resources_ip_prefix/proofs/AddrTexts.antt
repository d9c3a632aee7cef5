-- A text writes one prefix at most.
use Rattle.std.proofs.Common.{◌≡◌, ℕ, suc, ◌≤◌, Result, Ok, Err, List, [], ◌∷◌, ◌++◌, arith, sym, ap, ◌∙◌, subst, refl}
use Rattle.std.proofs.NetLemmas.Theorems.{IsIpText_unique}
use Rattle.std.specs.Net.Grammar.{IsIpText}
use Rattle.std.specs.declared.net.ip_addr.IpAddr.{IpAddr}
use Rattle.std.specs.declared.net.ip_addr.IpAddr.TheVariants.{V4, V6}
use Rattle.std.specs.Net.Addr.{MatchIp, IsIpv4OfBits, IsIpv6OfBits}
use Rattle.std.specs.Net.Text.{ip_text, ipv4_text, ipv6_text}
use Rattle.std.specs.Result.{MatchResult, IsErrAnd}
use Rattle.std.proofs.lemmas.Result.{err_from_is_err_and}
use Rattle.resources_ip_prefix.specs.declared.ip_addr.error.PrefixError.{PrefixError}
use Rattle.resources_ip_prefix.specs.declared.ip_addr.error.PrefixError.TheVariants.{LenOverflow, NonZeroHost}
use Rattle.resources_ip_prefix.specs.declared.ip_addr.error.ParsePrefixError.{ParsePrefixError}
use Rattle.resources_ip_prefix.specs.declared.ip_addr.error.ParsePrefixError.TheVariants.{Empty, MissingLen, InvalidAddr, InvalidLen, InvalidPrefix}
use Rattle.resources_ip_prefix.specs.AddrPrefixes.{Family, Ipv4, Ipv6, PrefixValue, IsPrefix, width, family_of, bits_of, prefix_around}
use Rattle.resources_ip_prefix.specs.Refusals.{IsNoPrefix, IsTooLong, TooLong, NoReason}
use Rattle.resources_ip_prefix.specs.Cuts.{LacksByte, IsCut, IsLenText}
use Rattle.resources_ip_prefix.specs.PrefixTexts.{IsWritten, IsPrefixText, IsRelaxedText, IsUnreadable, Reads, address_text}

-- The answer that another was before its error was mapped.
pub mapped : {T E D : Type 0} (V : E → D) (s : Result T E) (r : Result T D) → MatchResult s (λ x. r ≡ Ok x) (λ e. IsErrAnd r (λ d. d ≡ V e)) → MatchResult r (λ x. s ≡ Ok x) (λ d. (e : E) × (s ≡ Err e) × (d ≡ V e))
mapped V (Ok x) r k = rw k refl
mapped V (Err e) r k = let p = err_from_is_err_and r k in rw p.1 (e, refl, p.2)

cut_same : (c : ℕ) (a x b y : List ℕ) → LacksByte c a → LacksByte c b → a ++ c ∷ x ≡ b ++ c ∷ y → (a ≡ b) × (x ≡ y)
cut_same c [] x [] y l m e = (refl, cc)
cut_same c [] x (b ∷ bs) y l m e = absurd (m 0 (omega arith) (let h : c ≡ b = cc in sym h))
cut_same c (a ∷ ds) x [] y l m e = absurd (l 0 (omega arith) (let h : a ≡ c = cc in h))
cut_same c (a ∷ ds) x (b ∷ bs) y l m e =
    let heads : a ≡ b = cc in
    let tails : ds ++ c ∷ x ≡ bs ++ c ∷ y = cc in
    let rest = cut_same c ds x bs y (λ i h. l (suc i) (omega arith)) (λ i h. m (suc i) (omega arith)) tails in
    (λ i. heads i ∷ rest.0 i, rest.1)

-- A text is cut in one way.
pub cut_once : (c : ℕ) (text a x b y : List ℕ) → IsCut c text a x → IsCut c text b y → (a ≡ b) × (x ≡ y)
cut_once c text a x b y h k = cut_same c a x b y h.first k.first (sym h.whole ∙ k.whole)

cut_has : (c : ℕ) (a x : List ℕ) → ¬ (LacksByte c (a ++ c ∷ x))
cut_has c [] x l = l 0 (omega arith) refl
cut_has c (a ∷ ds) x l = cut_has c ds x (λ i h. l (suc i) (omega arith))

pub cut_lacks : (c : ℕ) (text a x : List ℕ) → IsCut c text a x → ¬ (LacksByte c text)
cut_lacks c text a x h l = cut_has c a x (subst (LacksByte c) h.whole l)

pub len_once : (text : List ℕ) (m n : ℕ) → IsLenText text m → IsLenText text n → m ≡ n
len_once text m n h k = sym h.value ∙ k.value

-- It writes one address and one length.
pub written_once : (text : List ℕ) (f g : Family) (bits other len long : ℕ) → IsWritten text f bits len → IsWritten text g other long → (f ≡ g) × (bits ≡ other) × (len ≡ long)
written_once text f g bits other len long h k =
    let parts = cut_once 47 text h.address h.digits k.address k.digits h.cut k.cut in
    let same : h.addr ≡ k.addr = IsIpText_unique k.address h.addr k.addr (subst (λ t. IsIpText t h.addr) parts.0 h.address_is) k.address_is in (
      sym h.family_is ∙ ap family_of same ∙ k.family_is,
      sym h.bits_are ∙ ap bits_of same ∙ k.bits_are,
      len_once k.digits len long (subst (λ t. IsLenText t len) parts.1 h.length_is) k.length_is,
    )

pub prefix_text_once : (text : List ℕ) (p q : PrefixValue) → IsPrefixText text p → IsPrefixText text q → p ≡ q
prefix_text_once text p q h k =
    let same = written_once text p.family q.family p.first q.first p.len q.len h.written k.written in
    λ i. record { family = same.0 i; first = same.1 i; len = same.2 i }

no_host : (p : PrefixValue) (e : PrefixError) → IsPrefix p → ¬ (IsNoPrefix p.family p.first p.len e)
no_host p LenOverflow h k = let fits = h.fits in omega arith
no_host p NonZeroHost h k = k.1 h.no_host

not_nil : (a x : List ℕ) → a ++ 47 ∷ x ≡ [] → ⊥
not_nil [] x e = absurd cc
not_nil (a ∷ ds) x e = absurd cc

pub still_unreadable : (R : Family → ℕ → ℕ → PrefixError → Type 0) (text : List ℕ) (e : ParsePrefixError) → IsUnreadable NoReason text e → IsUnreadable R text e
still_unreadable R text Empty h = h
still_unreadable R text MissingLen h = h
still_unreadable R text (InvalidAddr e) h = h
still_unreadable R text (InvalidLen e) h = h
still_unreadable R text (InvalidPrefix e) (f, bits, len, w, h) = absurd h

-- A text that is unreadable for a reason writes no address and length that are free of it.
unwritten : (R : Family → ℕ → ℕ → PrefixError → Type 0) (text : List ℕ) (e : ParsePrefixError) (f : Family) (bits len : ℕ) → IsUnreadable R text e → ((e : PrefixError) → ¬ (R f bits len e)) → ¬ (IsWritten text f bits len)
unwritten R text Empty f bits len h free w = not_nil w.address w.digits (sym w.cut.whole ∙ h)
unwritten R text MissingLen f bits len h free w = cut_lacks 47 text w.address w.digits w.cut h.1
unwritten R text (InvalidAddr e) f bits len (address, digits, cut, none) free w =
    let parts = cut_once 47 text w.address w.digits address digits w.cut cut in
    none w.addr (subst (λ t. IsIpText t w.addr) parts.0 w.address_is)
unwritten R text (InvalidLen e) f bits len (address, digits, a, cut, is, none) free w =
    let parts = cut_once 47 text w.address w.digits address digits w.cut cut in
    none len (subst (λ t. IsLenText t len) parts.1 w.length_is)
unwritten R text (InvalidPrefix e) f bits len (g, other, long, v, r) free w =
    let same = written_once text g f other bits long len v w in
    free e (subst (λ (s : Family × ℕ × ℕ). R s.0 s.1 s.2 e) (λ i. (same.0 i, same.1 i, same.2 i)) r)

pub strict_unwritten : (text : List ℕ) (e : ParsePrefixError) → IsUnreadable IsNoPrefix text e → (p : PrefixValue) → ¬ (IsPrefixText text p)
strict_unwritten text e h p k = unwritten IsNoPrefix text e p.family p.first p.len h (λ r. no_host p r k.prefix) k.written

fits_free : (f : Family) (len : ℕ) (e : PrefixError) → len ≤ width f → ¬ (IsTooLong f len e)
fits_free f len LenOverflow h k = omega arith
fits_free f len NonZeroHost h k = k

pub relaxed_unwritten : (text : List ℕ) (e : ParsePrefixError) → IsUnreadable TooLong text e → (p : PrefixValue) → ¬ (IsRelaxedText text p)
relaxed_unwritten text e h p k = unwritten TooLong text e p.family k.bits p.len h (λ r. fits_free p.family p.len r k.fits) k.written

relaxed_is : (text : List ℕ) (f : Family) (bits len : ℕ) (p : PrefixValue) → IsWritten text f bits len → IsPrefix p → p ≡ prefix_around f bits len → IsRelaxedText text p
relaxed_is text f bits len p w h e =
    let whole : IsPrefix (prefix_around f bits len) = subst IsPrefix e h in
    subst (IsRelaxedText text) (sym e) (record { bits = bits; written = w; fits = whole.fits; value = refl })

-- From an address and a length that a text writes to what reading it answers.
pub strict_reads : (text : List ℕ) (a : IpAddr) (len : ℕ) (made : Result PrefixValue PrefixError) (r : Result PrefixValue ParsePrefixError) → IsWritten text (family_of a) (bits_of a) len → MatchResult made (λ p. IsPrefix p × (p ≡ record { family = family_of a; first = bits_of a; len = len })) (IsNoPrefix (family_of a) (bits_of a) len) → MatchResult made (λ x. r ≡ Ok x) (λ e. IsErrAnd r (λ d. d ≡ InvalidPrefix e)) → Reads IsPrefixText IsNoPrefix text r
strict_reads text a len (Ok p) r w h k =
    rw k (record { written = rw h.1 w; prefix = h.0 })
strict_reads text a len (Err e) r w h k =
    let p = err_from_is_err_and r k in
    let wrong : IsUnreadable IsNoPrefix text (InvalidPrefix e) = (family_of a, bits_of a, len, w, h) in
    rw (p.1, p.2) (wrong, strict_unwritten text (InvalidPrefix e) wrong)

pub relaxed_reads : (text : List ℕ) (a : IpAddr) (len : ℕ) (made : Result PrefixValue PrefixError) (r : Result PrefixValue ParsePrefixError) → IsWritten text (family_of a) (bits_of a) len → MatchResult made (λ p. IsPrefix p × (p ≡ prefix_around (family_of a) (bits_of a) len)) (IsTooLong (family_of a) len) → MatchResult made (λ x. r ≡ Ok x) (λ e. IsErrAnd r (λ d. d ≡ InvalidPrefix e)) → Reads IsRelaxedText TooLong text r
relaxed_reads text a len (Ok p) r w h k =
    rw k (relaxed_is text (family_of a) (bits_of a) len p w h.0 h.1)
relaxed_reads text a len (Err e) r w h k =
    let p = err_from_is_err_and r k in
    let wrong : IsUnreadable TooLong text (InvalidPrefix e) = (family_of a, bits_of a, len, w, h) in
    rw (p.1, p.2) (wrong, relaxed_unwritten text (InvalidPrefix e) wrong)

-- What is printed of an address with these bits.
pub ip_text_is : (a : IpAddr) (f : Family) (n : ℕ) → family_of a ≡ f → MatchIp a (λ x. IsIpv4OfBits x n) (λ x. IsIpv6OfBits x n) → ip_text a ≡ address_text f n
unfolding IsIpv4OfBits IsIpv6OfBits
ip_text_is (V4 a) Ipv4 n e h = ap ipv4_text h
ip_text_is (V4 a) Ipv6 n e h = absurd cc
ip_text_is (V6 a) Ipv4 n e h = absurd cc
ip_text_is (V6 a) Ipv6 n e h = ap ipv6_text h
