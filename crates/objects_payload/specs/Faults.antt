-- What is read of a locator, and why a text is none (RFC 8630 2.2).
use Rattle.std.specs.Prelude.{◌≡◌, ◌≢◌, ℕ, ◌<◌, not, List, [], ◌++◌, map, filter, All, Result, Ok, Err, Vec}
use denote.Ref.{Bor}
use Rattle.std.specs.declared.alloc.Global.{Global}
use Rattle.objects_payload.specs.bcder_tree.declared.mode.Mode.TheVariants.{Der}
use Rattle.objects_payload.specs.bcder_content.Texts.{ReadsFront}
use Rattle.objects_payload.specs.certs_basics.Keys.{KeyValue, IsKey}
use Rattle.objects_payload.specs.certs_basics.Uris.{IsUri}
use Rattle.objects_payload.specs.Locators.{AreLines, base64, is_dropped}
use Rattle.objects_payload.specs.declared.locator.error.ReadError.{ReadError}
use Rattle.objects_payload.specs.declared.locator.error.ReadError.TheVariants.{Io, UnexpectedEof, BadUri, BadKeyInfoEncoding, BadKeyInfo, Memory}
use Rattle.objects_payload.specs.declared.locator.uri.TalUri.{TalUri}
use Rattle.objects_payload.specs.Lines.{HasLine, NoLine, Commented}
use Rattle.objects_payload.specs.Uris.{text_of}

-- URIs stand in front, each on a line, and this rest after them.
pub record HasUris (uris : List (List ℕ)) (rest text : List ℕ) : Type 0 where
  pub front : List ℕ
  pub whole : text ≡ front ++ rest
  pub front_is : AreLines uris front
  pub uris_are : All IsUri uris

-- URIs, one or more, and an empty line stand in front, and this rest after it.
pub record HasAllUris (uris : List (List ℕ)) (rest text : List ℕ) : Type 0 where
  pub behind : List ℕ
  pub has : HasUris uris behind text
  pub some : uris ≢ []
  pub empty : HasLine [] rest behind

-- After URIs, if any, the text ends, or the next line doesn't end.
pub record IsCut (text : List ℕ) : Type 0 where
  pub uris : List (List ℕ)
  pub rest : List ℕ
  pub has : HasUris uris rest text
  pub no_line : NoLine rest

-- After URIs stands a line that is no URI; or an empty line, and no URI before it.
pub record HasNoUri (text : List ℕ) : Type 0 where
  pub uris : List (List ℕ)
  pub behind : List ℕ
  pub has : HasUris uris behind text
  pub line : List ℕ
  pub rest : List ℕ
  pub next : HasLine line rest behind
  pub no_uri : IsUri line → ⊥
  pub none : line ≡ [] → uris ≡ []

-- A URI stands in front, on a line.
pub record StartsWithUri (text : List ℕ) : Type 0 where
  pub uri : List ℕ
  pub rest : List ℕ
  pub has : HasLine uri rest text
  pub is : IsUri uri

-- White space aside, the text is these octets in base 64.
pub record IsBase64 (octets text : List ℕ) : Type 0 where
  pub letters : filter (λ c. not (is_dropped c)) text ≡ base64 octets
  pub are_octets : All (λ a. a < 256) octets

-- The text is base 64, of octets with this key in front.
pub record HasKey (key : KeyValue) (text : List ℕ) : Type 0 where
  pub octets : List ℕ
  pub is : IsBase64 octets text
  pub reads : ReadsFront (IsKey Der) octets key

-- The text isn't base 64.
abbrev pub NoBase64 : List ℕ → Type 0
NoBase64 text = (octets : List ℕ) → IsBase64 octets text → ⊥

-- The text is base 64, of octets with no key in front.
pub record HasNoKey (text : List ℕ) : Type 0 where
  pub octets : List ℕ
  pub is : IsBase64 octets text
  pub none : (key : KeyValue) → HasKey key text → ⊥

-- The URI on a line.
abbrev pub ReadsUri : List ℕ → Result TalUri ReadError → Type 0
ReadsUri line (Ok uri) = IsUri line × (text_of uri ≡ line)
ReadsUri line (Err Io) = ⊥
ReadsUri line (Err UnexpectedEof) = ⊥
ReadsUri line (Err BadUri) = IsUri line → ⊥
ReadsUri line (Err BadKeyInfoEncoding) = ⊥
ReadsUri line (Err BadKeyInfo) = ⊥
ReadsUri line (Err Memory) = IsUri line

-- The URIs after the comments, and what stands after the empty line.
abbrev pub TakesUris : List ℕ → Result (Vec TalUri Global × Bor (List ℕ)) ReadError → Type 0
TakesUris text (Ok x) = HasAllUris (map text_of x.0.items) x.1.now text
TakesUris text (Err Io) = ⊥
TakesUris text (Err UnexpectedEof) = IsCut text
TakesUris text (Err BadUri) = HasNoUri text
TakesUris text (Err BadKeyInfoEncoding) = ⊥
TakesUris text (Err BadKeyInfo) = ⊥
TakesUris text (Err Memory) = StartsWithUri text

-- The octets that a text is base 64 of, and no others.
abbrev pub Decodes : List ℕ → Result (Vec ℕ Global) ReadError → Type 0
Decodes text (Ok x) =
    IsBase64 x.items text × ((octets : List ℕ) → IsBase64 octets text → octets ≡ x.items)
Decodes text (Err Io) = ⊥
Decodes text (Err UnexpectedEof) = ⊥
Decodes text (Err BadUri) = ⊥
Decodes text (Err BadKeyInfoEncoding) = NoBase64 text
Decodes text (Err BadKeyInfo) = ⊥
Decodes text (Err Memory) = Unit {0}

-- The key, read of its base 64.
abbrev pub ReadsKey : List ℕ → Result KeyValue ReadError → Type 0
ReadsKey text (Ok key) = HasKey key text
ReadsKey text (Err Io) = ⊥
ReadsKey text (Err UnexpectedEof) = ⊥
ReadsKey text (Err BadUri) = ⊥
ReadsKey text (Err BadKeyInfoEncoding) = NoBase64 text
ReadsKey text (Err BadKeyInfo) = HasNoKey text
ReadsKey text (Err Memory) = Unit {0}

-- After the comments the text is so.
pub record BehindComments (P : List ℕ → Type 0) (text : List ℕ) : Type 0 where
  pub behind : List ℕ
  pub commented : Commented behind text
  pub is : P behind

-- After URIs, one or more, and an empty line the text is so.
pub record BehindUris (P : List ℕ → Type 0) (text : List ℕ) : Type 0 where
  pub uris : List (List ℕ)
  pub tail : List ℕ
  pub has : HasAllUris uris tail text
  pub is : P tail

-- No text is so.
abbrev pub NoText : List ℕ → Type 0
NoText text = ⊥

-- Why a text is no locator: by the first line that is refused. Memory is asked for only where a URI was there.
abbrev pub IsFault : ReadError → List ℕ → Type 0
IsFault Io = NoText
IsFault UnexpectedEof = BehindComments IsCut
IsFault BadUri = BehindComments HasNoUri
IsFault BadKeyInfoEncoding = BehindComments (BehindUris NoBase64)
IsFault BadKeyInfo = BehindComments (BehindUris HasNoKey)
IsFault Memory = BehindComments StartsWithUri
