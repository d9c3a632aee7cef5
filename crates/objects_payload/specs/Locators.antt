-- Trust anchor locators (RFC 8630 2).
use Rattle.std.specs.Prelude.{◌≡◌, ℕ, ◌+◌, ◌*◌, ◌/◌, ◌%◌, ◌<◌, ◌≢◌, ◌⊎◌, ◌||◌, ◌==◌, not, Bool, List, [], ◌∷◌, ◌++◌, map, take, filter, bytes_eq, codes, slice_index, All}
use Rattle.objects_payload.specs.bcder_tree.declared.mode.Mode.TheVariants.{Der}
use Rattle.objects_payload.specs.bcder_content.Texts.{ReadsFront}
use Rattle.objects_payload.specs.certs_basics.Keys.{KeyValue, IsKey}
use Rattle.objects_payload.specs.certs_basics.Uris.{lower, IsUri}

-- The line doesn't end with CR.
abbrev pub NoReturnAtEnd : List ℕ → Type 0
NoReturnAtEnd [] = Unit {0}
NoReturnAtEnd (c ∷ []) = c ≢ 13
NoReturnAtEnd (c ∷ d ∷ text) = NoReturnAtEnd (d ∷ text)

-- A line without LF, and after it LF or CR LF; a CR right before LF belongs to the line's end.
pub record EndsLine (line octets : List ℕ) : Type 0 where
  pub one_line : All (λ c. c ≢ 10) line
  pub end : ((octets ≡ line ++ 10 ∷ []) × NoReturnAtEnd line) ⊎ (octets ≡ line ++ 13 ∷ 10 ∷ [])

-- The lines with their ends, one after the other.
abbrev pub AreLines : List (List ℕ) → List ℕ → Type 0
AreLines [] octets = octets ≡ []
AreLines (line ∷ lines) octets =
    (a : List ℕ) × (b : List ℕ) × EndsLine line a × AreLines lines b × (octets ≡ a ++ b)

-- A comment begins with `#`.
abbrev pub IsComment : List ℕ → Type 0
IsComment [] = ⊥
IsComment (c ∷ line) = c ≡ 35

-- The letter for six bits (RFC 4648 4, table 1).
abbrev pub letter : ℕ → ℕ
letter n = slice_index (codes "ABCDEFGHIJKLMNOPQRSTUVWXYZabcdefghijklmnopqrstuvwxyz0123456789+/") n

-- Base 64 with padding: three octets are four letters (RFC 4648 4).
abbrev pub base64 : List ℕ → List ℕ
base64 [] = []
base64 (a ∷ []) = letter (a / 4) ∷ letter (a % 4 * 16) ∷ 61 ∷ 61 ∷ []
base64 (a ∷ b ∷ []) = letter (a / 4) ∷ letter (a % 4 * 16 + b / 16) ∷ letter (b % 16 * 4) ∷ 61 ∷ []
base64 (a ∷ b ∷ c ∷ v) = letter (a / 4) ∷ letter (a % 4 * 16 + b / 16)
    ∷ letter (b % 16 * 4 + c / 64) ∷ letter (c % 64) ∷ base64 v

-- Tab, LF, form feed, CR and space are dropped from the key's text.
abbrev pub is_dropped : ℕ → Bool
is_dropped c = (c == 9) || ((c == 10) || ((c == 12) || ((c == 13) || (c == 32))))

-- Comments, then URIs, one or more, each on a line; an empty line; and in base 64 octets with a key in front (RFC 8630 2.2).
pub record LocatorText (octets : List ℕ) (uris : List (List ℕ)) (key : KeyValue) : Type 0 where
  pub comments : List (List ℕ)
  pub head : List ℕ
  pub middle : List ℕ
  pub empty : List ℕ
  pub tail : List ℕ
  pub decoded : List ℕ
  pub whole : octets ≡ head ++ middle ++ empty ++ tail
  pub head_is : AreLines comments head
  pub comments_are : All IsComment comments
  pub middle_is : AreLines uris middle
  pub uris_are : All IsUri uris
  pub some : uris ≢ []
  pub empty_is : EndsLine [] empty
  pub tail_is : filter (λ c. not (is_dropped c)) tail ≡ base64 decoded
  pub decoded_octets : All (λ a. a < 256) decoded
  pub key_is : ReadsFront (IsKey Der) decoded key

abbrev pub is_https : List ℕ → Bool
is_https uri = bytes_eq (map lower (take 8 uri)) (codes "https://")

-- The https URIs first, the order kept otherwise.
abbrev pub https_first : List (List ℕ) → List (List ℕ)
https_first uris = filter is_https uris ++ filter (λ uri. not (is_https uri)) uris
