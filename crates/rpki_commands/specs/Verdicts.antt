-- The lines of `verdicts`: KEY MESSAGE SIGNATURE, each a digest in hexadecimal digits, with one space between.
use Rattle.std.specs.Prelude.{◌≡◌, ℕ, ◌⊎◌, List, [], ◌∷◌, ◌++◌, length, map}
use Rattle.hex.specs.Hex.{encode_lower, IsBytes}
use Rattle.rpki_commands.specs.certs_basics.Uris.{lower}
use Rattle.rpki_commands.specs.rpki_bundle.declared.parts.Verdict.{Verdict}
use Rattle.rpki_commands.specs.Lines.{IsLineEnd}

-- The digits are, in lower case, those of the 32 octets.
pub record IsHex (digits digest : List ℕ) : Type 0 where
  pub size : length digest ≡ 32
  pub octets : IsBytes digest
  pub digits_are : map lower digits ≡ encode_lower digest

-- A digest in front, and what comes after its digits.
pub record TakesDigest (text digest rest : List ℕ) : Type 0 where
  pub digits : List ℕ
  pub whole : text ≡ digits ++ rest
  pub digest_is : IsHex digits digest

-- A space (32) and a digest in front, and what comes after its digits.
pub record TakesNextDigest (text digest rest : List ℕ) : Type 0 where
  pub behind_space : List ℕ
  pub space : text ≡ 32 ∷ behind_space
  pub digest_is : TakesDigest behind_space digest rest

-- A line end in front, and what comes after it; at the end of all it may be missing.
pub record TakesEnd (text rest : List ℕ) : Type 0 where
  pub end : List ℕ
  pub whole : text ≡ end ++ rest
  pub end_is : IsLineEnd end ⊎ ((end ≡ []) × (rest ≡ []))

-- A line in front that states a verdict, and what comes after its end.
pub record TakesVerdict (text : List ℕ) (v : Verdict) (rest : List ℕ) : Type 0 where
  pub behind_key : List ℕ
  pub behind_message : List ℕ
  pub behind_signature : List ℕ
  pub key_is : TakesDigest text v.key behind_key
  pub message_is : TakesNextDigest behind_key v.message behind_message
  pub signature_is : TakesNextDigest behind_message v.signature behind_signature
  pub end_is : TakesEnd behind_signature rest

-- The first line states a verdict.
pub record StartsWithVerdict (text : List ℕ) : Type 0 where
  pub verdict : Verdict
  pub rest : List ℕ
  pub front : TakesVerdict text verdict rest

-- Such lines, one for each verdict, and nothing else.
abbrev pub TellsVerdicts : List ℕ → List Verdict → Type 0
TellsVerdicts text [] = text ≡ []
TellsVerdicts text (v ∷ vs) = (rest : List ℕ) × TakesVerdict text v rest × TellsVerdicts rest vs
