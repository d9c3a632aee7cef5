-- Provider attestations that are signed (draft-ietf-sidrops-aspa-profile 2, 4).
use Rattle.std.specs.Prelude.{◌≡◌, ℕ, List}
use Rattle.objects.specs.bcder_tree.declared.mode.Mode.TheVariants.{Der}
use Rattle.objects.specs.certs_basics.HandedIn.{Digests}
use Rattle.objects.specs.objects_payload.Aspas.{Aspa}
use Rattle.objects.specs.objects_payload.Identifiers as id
use Rattle.objects.specs.resources_chain.declared.choice.ResourcesChoice.TheVariants.{Missing}
use Rattle.objects_payload.specs.Resources.{ListsAlone}
use Rattle.objects_written.specs.Builders.{BuilderValue, IsBuilt}
use Rattle.objects.specs.Written.{aspa}

-- The first fields with an attestation's customer as resources, and no addresses (4).
pub record AttestsCustomer (b : BuilderValue) (a : Aspa) (made : BuilderValue) : Type 0 where
  pub others : made ≡ record b { v4 = Missing; v6 = Missing; asn = made.asn }
  pub asn : ListsAlone a.customer made.asn

-- The object of an attestation's content in DER, whose certificate has the builder's fields and these resources.
pub record IsAspaFor (d : Digests) (b : BuilderValue) (a : Aspa) (octets : List ℕ) : Type 0 where
  pub fields : BuilderValue
  pub attests : AttestsCustomer b a fields
  pub content : List ℕ
  pub content_is : (aspa a).writes Der content
  pub built : IsBuilt d fields id.provider_authorization content octets
