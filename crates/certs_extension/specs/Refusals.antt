-- How the fault of extensions is reported for a content.
use Rattle.std.specs.Prelude.{◌≡◌, ◌≢◌, ℕ, List, codes}
use Rattle.certs_extension.specs.bcder_source.declared.error.ContentError.TheVariants.{Static}
use Rattle.certs_extension.specs.bcder_source.declared.error.DecodeError.{DecodeError}
use Rattle.certs_extension.specs.bcder_source.declared.error.DecodeError.TheVariants.{Content, Memory as want}
use Rattle.certs_extension.specs.bcder_source.declared.pos.Pos.{Pos}
use Rattle.certs_extension.specs.declared.error.ExtensionError.{ExtensionError}
use Rattle.certs_extension.specs.declared.error.ExtensionError.TheVariants.{Duplicate, Criticality, UnknownCritical, BadValue, MissingResources, MissingPolicy, WrongIpResources, WrongAsResources, MissingSubjectKeyIdentifier, MissingKeyUsage, Memory}

-- The text of each fault.
abbrev pub fault_text : ExtensionError → List ℕ
fault_text Duplicate = codes "duplicate extension"
fault_text Criticality = codes "criticality of an extension"
fault_text UnknownCritical = codes "unknown critical extension"
fault_text BadValue = codes "invalid value of an extension"
fault_text MissingResources = codes "no resources"
fault_text MissingPolicy = codes "no certificate policy"
fault_text WrongIpResources = codes "IP resources under another policy"
fault_text WrongAsResources = codes "AS resources under another policy"
fault_text MissingSubjectKeyIdentifier = codes "no subject key identifier"
fault_text MissingKeyUsage = codes "no key usage"
fault_text Memory = codes "out of memory"

-- By that text, at some place.
pub record Says {E : Type 0} (text : List ℕ) (r : DecodeError E) : Type 0 where
  pub pos : Pos
  pub is : r ≡ Content (Static text) pos

-- Lack of memory as that, and each other fault by its text.
pub record Told {E : Type 0} (fault : ExtensionError) (r : DecodeError E) : Type 0 where
  pub memory : fault ≡ Memory → r ≡ want
  pub content : fault ≢ Memory → Says (fault_text fault) r
