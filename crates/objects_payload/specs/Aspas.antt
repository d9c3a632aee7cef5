-- Provider attestations, by this project's profile (draft-ietf-sidrops-aspa-profile 3).
use Rattle.std.specs.Prelude.{◌≡◌, ℕ, ◌≤◌, Bool, List, [], ◌∷◌, length}
use Rattle.objects_payload.specs.bcder_tree.Tags.{sequence_tag}
use Rattle.objects_payload.specs.bcder_tree.Tree.{Tree}
use Rattle.objects_payload.specs.bcder_content.Grammar.{Inside, As, Where, Then, Many, End}
use Rattle.objects_payload.specs.resources_asn.Encodings.{IsAsId}
use Rattle.objects_payload.specs.resources_asn.Listed.{InList, IsAscending}
use Rattle.objects_payload.specs.ObjectText.{Object}
use Rattle.objects_payload.specs.Contents.{IsVersion, ReadsAs}
use Rattle.objects_payload.specs.Identifiers as id

pub record Aspa : Type 0 where
  pub customer : ℕ
  pub providers : List ℕ

-- From 1 to 10,000 providers, strictly ascending, without the customer; AS 0 stands alone, since it means that there is
-- no provider.
pub record IsLawful (a : Aspa) : Type 0 where
  pub some : 1 ≤ length a.providers
  pub few : length a.providers ≤ 10000
  pub ascending : IsAscending a.providers
  pub not_own : ¬ (InList a.providers a.customer)
  pub zero_alone : InList a.providers 0 → a.providers ≡ 0 ∷ []

abbrev pub aspa_of : (Unit {0} × Unit {0}) × (ℕ × (List ℕ × Unit {0})) → Aspa
aspa_of f = record { customer = f.1.0; providers = f.1.1.0 }

-- ASProviderAttestation ::= SEQUENCE { version [0] INTEGER (1), customerASID ASID, providers SEQUENCE (SIZE(1..MAX)) OF ASID }
abbrev pub IsAspa : Tree → Aspa → Type 0
IsAspa = Where (As (Inside sequence_tag (Then (IsVersion 1)
    (Then IsAsId (Then (Inside sequence_tag (Many IsAsId)) End)))) aspa_of) IsLawful

-- A signed object that is a provider attestation.
abbrev pub AspaText : Bool → List ℕ → Object → Aspa → Type 0
AspaText = ReadsAs id.provider_authorization IsAspa
