-- The text of a refusal for an extension that a revocation list doesn't have (RFC 6487 5).
use Rattle.std.specs.Prelude.{◌≡◌, ℕ, List, ◌++◌, Result, Ok, Err, codes, string_bytes}
use Rattle.certs_crl.specs.bcder_tree.Tree.{Tree}
use Rattle.certs_crl.specs.bcder_content.Contents.{Ahead, ValuesLeft}
use Rattle.certs_crl.specs.bcder_source.declared.error.ContentError.{ContentError}
use Rattle.certs_crl.specs.bcder_source.declared.error.ContentError.TheVariants.{Static, Owned, ExpectedTag, ExpectedInteger}
use Rattle.certs_crl.specs.bcder_source.declared.error.DecodeError.{DecodeError}
use Rattle.certs_crl.specs.bcder_source.declared.error.DecodeError.TheVariants.{Content, Source, Memory}
use Rattle.certs_crl.specs.Reading.{IsOfList}
use Rattle.certs_x509.specs.bcder.Printed.{oid_text}
use Rattle.certs_x509.specs.certs_extension.Extensions.{Extension, IsExtension}

-- `invalid extension `, and the components of the identifier in decimal digits, with dots between them.
abbrev pub invalid_text : List ℕ → List ℕ
invalid_text kind = codes "invalid extension " ++ oid_text kind

-- The cause is an owned text of these octets.
abbrev pub IsOwnedText : List ℕ → ContentError → Type 0
IsOwnedText text (Static fixed) = ⊥
IsOwnedText text (Owned string) = string_bytes string ≡ text
IsOwnedText text (ExpectedTag tag) = ⊥
IsOwnedText text (ExpectedInteger number) = ⊥

-- The fixed text that stands for such an extension where there is no memory for its own.
abbrev pub fixed_text : List ℕ
fixed_text = codes "invalid extension"

-- The cause that was made; the fixed text exactly where its memory was refused.
abbrev pub IsMadeOrFixed : {E : Type 0} → Result ContentError E → ContentError → Type 0
IsMadeOrFixed (Ok made) error = error ≡ made
IsMadeOrFixed (Err refused) error = error ≡ Static fixed_text

-- The cause is the text of the identifier, or the fixed one.
abbrev pub IsInvalidTold : List ℕ → ContentError → Type 0
IsInvalidTold kind (Static fixed) = fixed ≡ fixed_text
IsInvalidTold kind (Owned string) = string_bytes string ≡ invalid_text kind
IsInvalidTold kind (ExpectedTag tag) = ⊥
IsInvalidTold kind (ExpectedInteger number) = ⊥

-- The extension of that kind is refused as a content, by one of both texts, and never for lack of memory.
abbrev pub TellsInvalid : {E : Type 0} → List ℕ → DecodeError E → Type 0
TellsInvalid kind (Content error pos) = IsInvalidTold kind error
TellsInvalid kind (Source error) = ⊥
TellsInvalid kind Memory = ⊥

-- The next value is an extension that a list doesn't have (RFC 6487 5).
pub record UnknownAhead (v : ValuesLeft) (e : Extension) : Type 0 where
  pub tree : Tree
  pub is : IsExtension v.mode tree e
  pub unknown : IsOfList e → ⊥
  pub ahead : Ahead v tree

-- Where such an extension is next and the octets are refused, that extension is told.
abbrev pub TellsUnknown : {E : Type 0} → ValuesLeft → DecodeError E → Type 0
TellsUnknown v (Content error pos) = (e : Extension) → UnknownAhead v e → IsInvalidTold e.kind error
TellsUnknown v (Source error) = Unit {0}
TellsUnknown v Memory = Unit {0}
