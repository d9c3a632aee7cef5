-- A text writes one prefix with a greatest length at most.
use Rattle.std.proofs.Common.{◌≡◌, ℕ, Option, Some, None, Result, Ok, Err, List, arith, ap, subst, refl, inl, inr}
use Rattle.std.specs.Result.{MatchResult, IsErrAnd}
use Rattle.std.proofs.lemmas.Result.{err_from_is_err_and}
use Rattle.resources_ip_prefix.specs.declared.ip_addr.error.MaxLenError.{MaxLenError}
use Rattle.resources_ip_prefix.specs.declared.ip_addr.error.MaxLenError.TheVariants.{Overflow, Underflow}
use Rattle.resources_ip_prefix.specs.declared.ip_addr.error.ParseMaxLenPrefixError.{ParseMaxLenPrefixError}
use Rattle.resources_ip_prefix.specs.declared.ip_addr.error.ParseMaxLenPrefixError.TheVariants.{InvalidPrefix, InvalidMaxLenFormat, InvalidMaxLenValue}
use Rattle.resources_ip_prefix.specs.AddrPrefixes.{PrefixValue}
use Rattle.resources_ip_prefix.specs.MaxLens.{MaxLenValue, IsMaxLen, IsMaxLenOf}
use Rattle.resources_ip_prefix.specs.Refusals.{IsNoMaxLen, HasNoMaxLen}
use Rattle.resources_ip_prefix.specs.Cuts.{LacksByte, IsCut, IsLenText}
use Rattle.resources_ip_prefix.specs.PrefixTexts.{IsPrefixText}
use Rattle.resources_ip_prefix.specs.MaxLenTexts.{IsWrittenMaxLen, IsMaxLenText, IsUnreadableMaxLen, IsPrefixFault, ReadsMaxLen}
use Rattle.resources_ip_prefix.proofs.AddrTexts.{cut_once, cut_lacks, len_once, prefix_text_once}

-- A text writes one prefix and one greatest length.
pub max_len_once : (text : List ℕ) (p q : PrefixValue) (o r : Option ℕ) → IsWrittenMaxLen text p o → IsWrittenMaxLen text q r → (p ≡ q) × (o ≡ r)
max_len_once text p q None None h k = (prefix_text_once text p q h.1 k.1, refl)
max_len_once text p q None (Some n) h (b, a, cut, k, l) = absurd (cut_lacks 45 text b a cut h.0)
max_len_once text p q (Some m) None (b, a, cut, h, l) k = absurd (cut_lacks 45 text b a cut k.0)
max_len_once text p q (Some m) (Some n) (b, a, cut, h, l) (d, c, other, k, o) =
    let parts = cut_once 45 text b a d c cut other in (
      prefix_text_once d p q (subst (λ t. IsPrefixText t p) parts.0 h) k,
      ap Some (len_once c m n (subst (λ t. IsLenText t m) parts.1 l) o),
    )

no_max_len : (p : PrefixValue) (n : ℕ) (e : MaxLenError) → IsMaxLenOf p (Some n) → ¬ (IsNoMaxLen p n e)
no_max_len p n Overflow h k = omega arith
no_max_len p n Underflow h k = omega arith

-- A text with a fault writes none.
pub unwritten_max_len : (text : List ℕ) (e : ParseMaxLenPrefixError) (p : PrefixValue) (o : Option ℕ) → IsUnreadableMaxLen text e → IsMaxLenOf p o → ¬ (IsWrittenMaxLen text p o)
unwritten_max_len text (InvalidPrefix e) p None (inl h) fits w = h.1.1 p w.1
unwritten_max_len text (InvalidPrefix e) p (Some n) (inl h) fits (b, a, cut, w, l) = cut_lacks 45 text b a cut h.0
unwritten_max_len text (InvalidPrefix e) p None (inr (b, a, cut, h)) fits w = cut_lacks 45 text b a cut w.0
unwritten_max_len text (InvalidPrefix e) p (Some n) (inr (b, a, cut, h)) fits (d, c, other, w, l) =
    h.1 p (subst (λ t. IsPrefixText t p) (cut_once 45 text d c b a other cut).0 w)
unwritten_max_len text (InvalidMaxLenFormat e) p None (b, a, q, cut, is, none) fits w = cut_lacks 45 text b a cut w.0
unwritten_max_len text (InvalidMaxLenFormat e) p (Some n) (b, a, q, cut, is, none) fits (d, c, other, w, l) =
    none n (subst (λ t. IsLenText t n) (cut_once 45 text d c b a other cut).1 l)
unwritten_max_len text (InvalidMaxLenValue e) p o (q, n, written, fault) fits w =
    let same = max_len_once text p q o (Some n) w written in
    no_max_len q n e (subst (λ (s : PrefixValue × Option ℕ). IsMaxLenOf s.0 s.1) (λ i. (same.0 i, same.1 i)) fits) fault

pub no_max_len_text : (text : List ℕ) (e : ParseMaxLenPrefixError) → IsUnreadableMaxLen text e → (m : MaxLenValue) → ¬ (IsMaxLenText text m)
no_max_len_text text e h m k = unwritten_max_len text e m.prefix m.max_len h k.max_len k.written

-- A fault of the prefix in a text with no dash, and in one with a dash.
pub fault_alone : (text : List ℕ) (e : ParseMaxLenPrefixError) → LacksByte 45 text → IsPrefixFault text e → IsUnreadableMaxLen text e
fault_alone text (InvalidPrefix e) l h = inl (l, h)
fault_alone text (InvalidMaxLenFormat e) l h = absurd h
fault_alone text (InvalidMaxLenValue e) l h = absurd h

pub fault_before : (text before after : List ℕ) (e : ParseMaxLenPrefixError) → IsCut 45 text before after → IsPrefixFault before e → IsUnreadableMaxLen text e
fault_before text b a (InvalidPrefix e) cut h = inr (b, a, cut, h)
fault_before text b a (InvalidMaxLenFormat e) cut h = absurd h
fault_before text b a (InvalidMaxLenValue e) cut h = absurd h

-- From what a text writes to what reading it answers.
pub max_len_reads : (text : List ℕ) (p : PrefixValue) (o : Option ℕ) (made : Result MaxLenValue MaxLenError) (r : Result MaxLenValue ParseMaxLenPrefixError) → IsWrittenMaxLen text p o → MatchResult made (λ m. IsMaxLen m × (m ≡ record { prefix = p; max_len = o })) (HasNoMaxLen p o) → MatchResult made (λ x. r ≡ Ok x) (λ e. IsErrAnd r (λ d. d ≡ InvalidMaxLenValue e)) → ReadsMaxLen text r
max_len_reads text p o (Ok m) r w h k = rw k (record { written = rw h.1 w; max_len = h.0.max_len })
max_len_reads text p None (Err e) r w h k = absurd h
max_len_reads text p (Some n) (Err e) r w h k =
    let d = err_from_is_err_and r k in
    let wrong : IsUnreadableMaxLen text (InvalidMaxLenValue e) = (p, n, w, h) in
    rw (d.1, d.2) (wrong, no_max_len_text text (InvalidMaxLenValue e) wrong)
