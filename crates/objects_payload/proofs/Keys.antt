-- No key stands in front.
use Rattle.std.proofs.Common.{◌≡◌, ◌∙◌, ℕ, List, sym, subst}
use Rattle.objects_payload.specs.bcder_tree.declared.mode.Mode.TheVariants.{Der}
use Rattle.objects_payload.specs.bcder_tree.Front.{Front}
use Rattle.objects_payload.specs.bcder_tree.Tree.{Tree}
use Rattle.objects_payload.specs.bcder_content.Texts.{ReadsFront}
use Rattle.objects_payload.specs.certs_basics.Keys.{KeyValue, IsKey}
use Rattle.objects_payload.proofs.of_bcder_content.Fronts.{front_lacks}
use Rattle.certs_key.specs.bcder_source.Errors.{OnContent}
use Rattle.certs_key.specs.bcder_source.declared.error.DecodeError.{DecodeError}
use Rattle.objects_payload.specs.Faults.{IsBase64, HasNoKey}

abbrev Lacks : List ℕ → Type 0
Lacks octets = (t : Tree) (key : KeyValue) (rest : List ℕ) → IsKey Der t key → Front Der octets t rest → ⊥

-- Where the octets of the text were refused.
pub no_key : {E : Type 0} (e f : DecodeError E) (v octets text : List ℕ) → e ≡ f → (OnContent f (Lacks octets) → Lacks octets) → OnContent e (Lacks octets) → octets ≡ v
    → IsBase64 v text × ((w : List ℕ) → IsBase64 w text → w ≡ v) → HasNoKey text
no_key {E} e f v octets text i told refused same is = record {
  octets = v;
  is = is.0;
  none = λ key k.
      let lacks = told (subst (λ (z : DecodeError E). OnContent z (Lacks octets)) i refused) in
      front_lacks lacks key (subst (λ (z : List ℕ). ReadsFront (IsKey Der) z key) (is.1 k.octets k.is ∙ sym same) k.reads);
}
