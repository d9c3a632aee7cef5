-- Texts of prefixes with a greatest length: the prefix, and where it is given, a dash (45) and the length.
use Rattle.std.specs.Prelude.{ℕ, ◌⊎◌, Option, Some, None, Result, MatchResult, List, [], ◌++◌, codes, decimal}
use Rattle.resources_ip_prefix.specs.declared.ip_addr.error.ParsePrefixError.{ParsePrefixError}
use Rattle.resources_ip_prefix.specs.declared.ip_addr.error.ParseMaxLenPrefixError.{ParseMaxLenPrefixError}
use Rattle.resources_ip_prefix.specs.declared.ip_addr.error.ParseMaxLenPrefixError.TheVariants.{InvalidPrefix, InvalidMaxLenFormat, InvalidMaxLenValue}
use Rattle.resources_ip_prefix.specs.AddrPrefixes.{PrefixValue}
use Rattle.resources_ip_prefix.specs.MaxLens.{MaxLenValue, IsMaxLenOf}
use Rattle.resources_ip_prefix.specs.Refusals.{IsNoPrefix, IsNoMaxLen}
use Rattle.resources_ip_prefix.specs.Cuts.{LacksByte, IsCut, IsLenText}
use Rattle.resources_ip_prefix.specs.PrefixTexts.{IsPrefixText, IsUnreadable, prefix_text}

-- The text writes the prefix and the greatest length.
abbrev pub IsWrittenMaxLen : List ℕ → PrefixValue → Option ℕ → Type 0
IsWrittenMaxLen text p None = LacksByte 45 text × IsPrefixText text p
IsWrittenMaxLen text p (Some n) =
    (before after : List ℕ) × IsCut 45 text before after × IsPrefixText before p × IsLenText after n

pub record IsMaxLenText (text : List ℕ) (m : MaxLenValue) : Type 0 where
  pub written : IsWrittenMaxLen text m.prefix m.max_len
  pub max_len : IsMaxLenOf m.prefix m.max_len

-- What is wrong with the text of a prefix.
abbrev pub IsNoPrefixText : List ℕ → ParsePrefixError → Type 0
IsNoPrefixText text e =
    IsUnreadable IsNoPrefix text e × ((p : PrefixValue) → ¬ (IsPrefixText text p))

-- What is wrong with a text.
abbrev pub IsUnreadableMaxLen : List ℕ → ParseMaxLenPrefixError → Type 0
IsUnreadableMaxLen text (InvalidPrefix e) =
    (LacksByte 45 text × IsNoPrefixText text e)
    ⊎ ((before after : List ℕ) × IsCut 45 text before after × IsNoPrefixText before e)
IsUnreadableMaxLen text (InvalidMaxLenFormat _) =
    (before after : List ℕ) × (p : PrefixValue) × IsCut 45 text before after × IsPrefixText before p
    × ((n : ℕ) → ¬ (IsLenText after n))
IsUnreadableMaxLen text (InvalidMaxLenValue e) =
    (p : PrefixValue) × (n : ℕ) × IsWrittenMaxLen text p (Some n) × IsNoMaxLen p n e

-- The answer is what the text writes; or it writes nothing, for the reason given.
abbrev pub ReadsMaxLen : List ℕ → Result MaxLenValue ParseMaxLenPrefixError → Type 0
ReadsMaxLen text r =
    MatchResult r (IsMaxLenText text) (λ e. IsUnreadableMaxLen text e
    × ((m : MaxLenValue) → ¬ (IsMaxLenText text m)))

-- What is printed.
abbrev pub suffix_text : Option ℕ → List ℕ
suffix_text None = []
suffix_text (Some n) = codes "-" ++ decimal n

abbrev pub max_len_text : MaxLenValue → List ℕ
max_len_text m = prefix_text m.prefix ++ suffix_text m.max_len

-- What is wrong with the prefix of a text alone.
abbrev pub IsPrefixFault : List ℕ → ParseMaxLenPrefixError → Type 0
IsPrefixFault text (InvalidPrefix e) = IsNoPrefixText text e
IsPrefixFault text (InvalidMaxLenFormat e) = ⊥
IsPrefixFault text (InvalidMaxLenValue e) = ⊥
