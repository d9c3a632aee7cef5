-- How a certificate is read: its fields, with a slot for the value of each extension, and then what the slots mean as a whole.
use Rattle.std.specs.Prelude.{◌≡◌, ℕ, Bool, List}
use Rattle.certs_cert.specs.bcder_tree.declared.mode.Mode.{Mode}
use Rattle.certs_cert.specs.bcder_tree.Tags.{context, sequence_tag}
use Rattle.certs_cert.specs.bcder_tree.Tree.{Tree, Trees}
use Rattle.certs_cert.specs.bcder_content.Grammar.{Inside, Then, End}
use Rattle.certs_cert.specs.bcder_content.Kept.{CapturedValue}
use Rattle.certs_cert.specs.bcder_content.Texts.{Joins, NoOctets, SpellsOf, Wraps}
use Rattle.certs_cert.specs.bcder_content.Words.{Gathers}
use Rattle.certs_cert.specs.certs_basics.Basics.{IsSerial, IsAlgorithm}
use Rattle.certs_cert.specs.certs_basics.Keys.{KeyValue, IsKey}
use Rattle.certs_cert.specs.certs_basics.Names.{IsKeptName, SpellsName}
use Rattle.certs_cert.specs.certs_basics.Forms.{IsValidity}
use Rattle.certs_cert.specs.certs_basics.Periods.{Period, as_fields}
use Rattle.certs_extension.specs.Cert.{TbsValue}
use Rattle.certs_extension.specs.CertText.{IsVersion}
use Rattle.certs_extension.specs.Extensions.{IsExtension}
use Rattle.certs_extension.specs.Finishing.{Finishes, claims_of}
use Rattle.certs_extension.specs.Slots.{AreSlots}
use Rattle.certs_extension.specs.declared.claims.slots.Slots.{Slots}

-- A value that stands alone in a content.
abbrev pub alone : {A : Type 0} → A → A × Unit {0}
alone x = (x, tt)

-- [0] EXPLICIT INTEGER (2)
abbrev pub IsNumber : Mode → Trees → Unit {0} × Unit {0} → Type 0
IsNumber m = Then (IsVersion 2) End

abbrev pub IsNumbered : Tree → Unit {0} × Unit {0} → Type 0
IsNumbered = Inside (context 0) (Then (IsVersion 2) End)

-- [3] EXPLICIT SEQUENCE OF Extension
abbrev pub AreSlotted : Mode → Trees → Slots × Unit {0} → Type 0
AreSlotted m = Then (Inside sequence_tag (Gathers (IsExtension m) AreSlots)) End

-- subject Name, subjectPublicKeyInfo, extensions (RFC 5280 4.1)
abbrev pub TailFields : Type 0
TailFields = CapturedValue × (KeyValue × ((Slots × Unit {0}) × Unit {0}))

abbrev pub IsTail : Mode → Trees → TailFields → Type 0
IsTail m = Then (IsKeptName m) (Then (IsKey m) (Then (Inside (context 3) (AreSlotted m)) End))

abbrev pub tail_fields : CapturedValue × KeyValue × Slots → TailFields
tail_fields x = (x.0, (x.1, ((x.2, tt), tt)))

-- version, serialNumber, signature AlgorithmIdentifier, issuer Name, validity, and what comes after them (RFC 5280 4.1)
abbrev pub ListedFields : Type 0
ListedFields =
    (Unit {0} × Unit {0}) × (ℕ × (Bool × (CapturedValue × ((ℕ × (ℕ × Unit {0})) × TailFields))))

abbrev pub IsListedBody : Mode → Trees → ListedFields → Type 0
IsListedBody m =
    Then IsNumbered
    (Then IsSerial
    (Then IsAlgorithm
    (Then (IsKeptName m)
    (Then IsValidity
    (IsTail m)))))

abbrev pub IsListed : Mode → Tree → ListedFields → Type 0
IsListed m = Inside sequence_tag (IsListedBody m)

abbrev pub Listed : Type 0
Listed = ℕ × Bool × CapturedValue × Period × (CapturedValue × KeyValue × Slots)

abbrev pub listed_fields : Listed → ListedFields
listed_fields x = ((tt, tt), (x.0, (x.1, (x.2, (as_fields x.3, tail_fields x.4)))))

-- By their octets, from the outermost value down to the names, which are the very octets that stand there.
abbrev pub SpellsTail : Mode → List ℕ → TailFields → Type 0
SpellsTail m = Joins (SpellsName m) (Joins (SpellsOf m (IsKey m))
    (Joins (SpellsOf m (Inside (context 3) (AreSlotted m))) NoOctets))

abbrev pub SpellsListedBody : Mode → List ℕ → ListedFields → Type 0
SpellsListedBody m =
    Joins (SpellsOf m IsNumbered)
    (Joins (SpellsOf m IsSerial)
    (Joins (SpellsOf m IsAlgorithm)
    (Joins (SpellsName m)
    (Joins (SpellsOf m IsValidity)
    (SpellsTail m)))))

abbrev pub SpellsListed : Mode → List ℕ → ListedFields → Type 0
SpellsListed m = Wraps m sequence_tag (SpellsListedBody m)

-- The slots of the extensions.
abbrev pub slots_of : ListedFields → Slots
slots_of f = f.1.1.1.1.1.1.1.0.0

-- The certificate's fields, where the slots mean what it claims.
pub record SaysListed (f : ListedFields) (c : TbsValue) : Type 0 where
  pub serial : c.serial ≡ f.1.0
  pub has_null : c.has_null ≡ f.1.1.0
  pub issuer : c.issuer ≡ f.1.1.1.0
  pub not_before : c.not_before ≡ f.1.1.1.1.0.0
  pub not_after : c.not_after ≡ f.1.1.1.1.0.1.0
  pub subject : c.subject ≡ f.1.1.1.1.1.0
  pub key : c.key ≡ f.1.1.1.1.1.1.0
  pub claims : Finishes f.1.1.1.1.1.1.1.0.0 (claims_of c)
