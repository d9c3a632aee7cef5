-- Provider attestations that are signed.
use Rattle.std.proofs.Common.{◌≡◌, ◌≢◌, ℕ, List, Result, Ok, Err, IfOk, true, inr, sym, ap, ◌∙◌, subst}
use Rattle.objects.specs.bcder_tree.declared.mode.Mode.TheVariants.{Der}
use Rattle.objects.specs.bcder_content.Kept.{CapturedValue}
use Rattle.objects.specs.certs_basics.HandedIn.{Digests}
use Rattle.objects.specs.certs_basics.Keys.{KeyValue}
use Rattle.objects.specs.objects_payload.Aspas.{Aspa, AspaText, IsAspa, IsLawful}
use Rattle.objects.specs.objects_payload.Identifiers as id
use Rattle.objects.specs.resources_chain.Claims.{Choice}
use Rattle.objects.specs.resources_chain.Sets.{Run}
use Rattle.objects.specs.resources_chain.declared.choice.ResourcesChoice.TheVariants.{Blocks, Missing}
use Rattle.resources_ip.specs.WholeSets.{ListsWhole}
use Rattle.objects_written.specs.Builders.{BuilderValue, IsBuilt, IsComplete, IsSigned, KindIsRead, built_object}
use Rattle.objects.specs.Attested.{AttestsCustomer, IsAspaFor}
use Rattle.objects.specs.Written.{aspa}
use Rattle.objects.proofs.AspaAgain.{aspa_text}

-- What lists an AS number is there.
pub blocks_are_said : (choice : Choice) (set : List Run) → choice ≡ Blocks set → choice ≢ Missing
blocks_are_said choice set p e = let q : ◌≡◌ {A = Choice} (Blocks set) Missing = sym p ∙ e in cc

-- Addresses that are missing list nothing.
none_listed : ListsWhole Missing
none_listed = λ n m e h. absurd h

complete : (b : BuilderValue) (a : Aspa) (made : BuilderValue) → AttestsCustomer b a made → IsComplete made
complete b a made p = record {
  some = inr (inr (blocks_are_said made.asn p.asn.0 p.asn.1));
  whole = subst ListsWhole (sym (ap (λ (x : BuilderValue). x.v4) p.others)) none_listed;
}

pub signed_again : KindIsRead id.provider_authorization IsAspa AspaText → (d : Digests) (b : BuilderValue) (a : Aspa) (octets : List ℕ) (x : IsAspaFor d b a octets) → IsLawful a
    → AspaText true octets (built_object x.built) a
signed_again kinds d b a octets x lawful =
    kinds d x.fields x.content octets x.built a (aspa_text Der a x.content lawful x.content_is) (complete b a x.fields x.attests)

pub signed_built : {E : Type 0} (d : Digests) (b : BuilderValue) (a : Aspa) (fields : BuilderValue) (content octets : List ℕ) → AttestsCustomer b a fields → (aspa a).writes Der content → octets ≡ content
    → (x : Result CapturedValue E) → IfOk x (λ c. IsBuilt d fields id.provider_authorization octets c.octets) → IfOk x (λ c. IsAspaFor d b a c.octets)
signed_built d b a fields content octets attests is same (Ok c) built = record {
  fields = fields;
  attests = attests;
  content = octets;
  content_is = subst (λ (w : List ℕ). (aspa a).writes Der w) (sym same) is;
  built = built;
}
signed_built d b a fields content octets attests is same (Err e) built = tt

-- Who signed it.
pub signer_told : {E : Type 0} (HasKey : KeyValue → Type 0) (Signs : List ℕ → List ℕ → Type 0) (SignsOnce : KeyValue → List ℕ → List ℕ → Type 0) (d : Digests) (b : BuilderValue) (a : Aspa) (fields : BuilderValue)
    (content octets : List ℕ) → AttestsCustomer b a fields → (aspa a).writes Der content → octets ≡ content → (x : Result CapturedValue E)
    → IfOk x (λ c. (y : IsBuilt d fields id.provider_authorization octets c.octets) × IsSigned HasKey Signs SignsOnce y) → IfOk x (λ c. (y : IsAspaFor d b a c.octets) × IsSigned HasKey Signs SignsOnce y.built)
signer_told HasKey Signs SignsOnce d b a fields content octets attests is same (Ok c) s =
    (record { fields = fields; attests = attests; content = octets; content_is = subst (λ (w : List ℕ). (aspa a).writes Der w) (sym same) is; built = s.0 }, s.1)
signer_told HasKey Signs SignsOnce d b a fields content octets attests is same (Err e) s = tt
