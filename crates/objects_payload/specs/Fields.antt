-- A provider attestation, by its fields (draft-ietf-sidrops-aspa-profile 3).
use Rattle.std.specs.Prelude.{ℕ, List}
use Rattle.objects_payload.specs.bcder_tree.declared.mode.Mode.{Mode}
use Rattle.objects_payload.specs.bcder_tree.Tags.{sequence_tag}
use Rattle.objects_payload.specs.bcder_tree.Tree.{Tree, Trees}
use Rattle.objects_payload.specs.bcder_content.Grammar.{End, Inside, Many, Then}
use Rattle.objects_payload.specs.bcder_content.Words.{Gathers, ThenBy}
use Rattle.objects_payload.specs.resources_asn.Encodings.{IsAsId}
use Rattle.objects_payload.specs.certs_extension.CertText.{IsVersion as IsInteger}
use Rattle.objects_payload.specs.Contents.{IsVersion}
use Rattle.objects_payload.specs.Aspas.{Aspa}
use Rattle.objects_payload.specs.Lists.{AreLawful}

-- A value that stands alone in a content.
abbrev pub alone : {A : Type 0} → A → A × Unit {0}
alone x = (x, tt)

-- The number of the version, 1, in every mode.
abbrev pub IsNumber : Mode → Trees → Unit {0} × Unit {0} → Type 0
IsNumber m = Then (IsInteger 1) End

-- Providers of the customer, which are all of a content.
pub record AreProviders (customer : ℕ) (ts : Trees) (providers : List ℕ) : Type 0 where
  pub are : Many IsAsId ts providers
  pub lawful : AreLawful customer providers

abbrev pub AreAllProviders : ℕ → Mode → Trees → List ℕ → Type 0
AreAllProviders customer m = AreProviders customer

-- Providers of the customer, whichever they are.
abbrev pub whichever_lawful : ℕ → List ℕ → Unit {0} → Type 0
whichever_lawful customer providers x = AreLawful customer providers

abbrev pub AreAny : ℕ → Mode → Trees → Unit {0} → Type 0
AreAny customer m = Gathers IsAsId (whichever_lawful customer)

-- SEQUENCE (SIZE(1..MAX)) OF ASID, of the customer's providers.
abbrev pub IsProviders : ℕ → Tree → List ℕ → Type 0
IsProviders customer = Inside sequence_tag (AreProviders customer)

-- What stands after the customer.
abbrev pub AreBehind : ℕ → Trees → List ℕ × Unit {0} → Type 0
AreBehind customer = Then (IsProviders customer) End

abbrev pub FieldValues : Type 0
FieldValues = (Unit {0} × Unit {0}) × (ℕ × (List ℕ × Unit {0}))

-- version, customerASID, providers, in every mode.
abbrev pub AreFields : Mode → Trees → FieldValues → Type 0
AreFields m = Then (IsVersion 1) (ThenBy IsAsId AreBehind)

abbrev pub fields_of : Aspa → FieldValues
fields_of a = ((tt, tt), (a.customer, (a.providers, tt)))
