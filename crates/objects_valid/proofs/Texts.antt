-- An object with its content, part by part: octets are one object at most.
use Rattle.std.proofs.Common.{◌≡◌, ◌∙◌, ap, subst, sym, Bool, true, false, IsTrue, ◌↔◌, ℕ, List, Result, Ok, Err}
use Rattle.std.specs.Prelude.{IsErr, IsErrAnd}
use Rattle.objects_cms.specs.bcder_tree.declared.mode.Mode.TheVariants.{Der}
use Rattle.objects_cms.specs.bcder_tree.Tree.{Tree}
use Rattle.objects_cms.specs.bcder_tree.Front.{Front}
use Rattle.objects_cms.specs.bcder_content.Exact.{DecodesAs}
use Rattle.objects_cms.specs.bcder_content.Texts.{ReadsFront}
use Rattle.objects_cms.specs.bcder_source.Errors.{OnContent, SameCause}
use Rattle.objects_cms.specs.bcder_source.declared.error.DecodeError.{DecodeError}
use Rattle.bcder.proofs.of_bcder_content.Keeping.{same_refusal}
use Rattle.bcder.proofs.of_bcder_content.Taking.{weaker}
use Rattle.objects_cms.specs.objects_payload.Contents.{ReadsAs}
use Rattle.objects_cms.specs.objects_payload.Decoded.{DecodesFront}
use Rattle.objects_cms.specs.objects_payload.ObjectText.{Object, ObjectText}
use Rattle.objects_cms.proofs.of_objects_payload.Objects.{one_object}
use Rattle.objects_valid.specs.Kinds.{DecodesKind, DecodesTyped, IsTyped, KindValue}

-- The octets are an object of another type of content.
pub other_type : {kind : List ℕ} (strict : Bool) {octets : List ℕ} {o : Object} → ObjectText strict octets o → (o.content_type ≡ kind → ⊥)
    → (z : Object) → ObjectText strict octets z → z.content_type ≡ kind → ⊥
other_type strict {octets} {o} p differ z q e = differ (ap (λ (y : Object). y.content_type) (one_object strict octets o z p q) ∙ e)

-- No object is there, so none of that type of content; and none of that type is there, so none with a content of Q.
pub typed_stop : {E : Type 0} (kind : List ℕ) (strict : Bool) (octets : List ℕ) (r : Result (Object × List ℕ) (DecodeError E)) (e : DecodeError E)
    → IsErr r × IsErrAnd r (λ x. x ≡ e) → OnContent e ((o : Object) → ObjectText strict octets o → ⊥) → DecodesTyped kind strict octets r
typed_stop kind strict octets (Ok p) e a none = absurd a.1
typed_stop {E} kind strict octets (Err x) e a none =
    subst (λ (z : DecodeError E). OnContent z ((o : Object) → ObjectText strict octets o → o.content_type ≡ kind → ⊥)) (sym a.1) (weaker e (λ n o p t. n o p) none)

pub kind_stop : {A E : Type 0} (kind : List ℕ) (Q : Tree → A → Type 0) (strict : Bool) (octets : List ℕ) (r : Result (KindValue A) (DecodeError E)) (e : DecodeError E)
    → IsErr r × IsErrAnd r (λ x. x ≡ e) → OnContent e ((o : Object) → ObjectText strict octets o → o.content_type ≡ kind → ⊥)
    → DecodesKind (ReadsAs kind Q) strict octets r
kind_stop kind Q strict octets (Ok k) e a none = absurd a.1
kind_stop {A} {E} kind Q strict octets (Err x) e a none =
    subst (λ (z : DecodeError E). OnContent z ((o : Object) (y : A) → ReadsAs kind Q strict octets o y → ⊥)) (sym a.1)
    (weaker e (λ n o y p. n o p.object p.type_is) none)

-- The object has a content of Q.
pub with_content : {A : Type 0} {kind : List ℕ} {Q : Tree → A → Type 0} {strict : Bool} {octets content : List ℕ} {o : Object} {x : A}
    → IsTyped kind strict octets o content → ReadsFront Q content x → ReadsAs kind Q strict octets o x
with_content {Q = Q} {x = x} p c = record {
  object = p.object;
  type_is = p.type_is;
  content_is = subst (λ (z : List ℕ). ReadsFront Q z x) p.content_is c;
}

-- The content of the object isn't of Q, as a reader of it answered.
pub no_content : {A D E : Type 0} {kind : List ℕ} (Q : Tree → A → Type 0) (strict : Bool) {octets content : List ℕ} {o : Object}
    → IsTyped kind strict octets o content → (e : DecodeError D) (told : DecodeError E) → SameCause e told
    → OnContent e ((x : A) → ReadsFront Q content x → ⊥)
    → OnContent told ((z : Object) (x : A) → ReadsAs kind Q strict octets z x → ⊥)
no_content {A} {kind = kind} Q strict {octets} {content} {o} p e told same lacks =
    same_refusal _ e told same (weaker e none lacks)
  where
    none : ((x : A) → ReadsFront Q content x → ⊥) → (z : Object) (x : A) → ReadsAs kind Q strict octets z x → ⊥
    none lacking z x q =
        let is = p.content_is ∙ ap (λ (y : Object). y.content) (one_object strict octets o z p.object q.object) in
        lacking x (subst (λ (y : List ℕ). ReadsFront Q y x) (sym is) q.content_is)

-- What a reader of trees in front says, by the octets in front.
front_lacks : {A E : Type 0} (Q : Tree → A → Type 0) (octets : List ℕ) (e : DecodeError E)
    → OnContent e ((t : Tree) (x : A) (rest : List ℕ) → Q t x → Front Der octets t rest → ⊥) → OnContent e ((x : A) → ReadsFront Q octets x → ⊥)
front_lacks Q octets e = weaker e (λ none x p. none p.is.tree x p.rest p.is.is (record { text = p.text; spelled = p.is.spelled; whole = p.whole }))

front_reads : {A : Type 0} (Q : Tree → A → Type 0) {octets : List ℕ} {x : A} → (t : Tree) × (rest : List ℕ) × Front Der octets t rest × Q t x → ReadsFront Q octets x
front_reads Q h = record { text = h.2.text; rest = h.1; whole = h.2.whole; is = record { tree = h.0; is = h.3; spelled = h.2.spelled } }

pub front_decoded : {A E : Type 0} (Q : Tree → A → Type 0) (octets : List ℕ) (r : Result A (DecodeError E)) → DecodesAs (λ x. x) Der Q octets r → DecodesFront Q octets r
front_decoded Q octets (Ok x) h = front_reads Q h
front_decoded Q octets (Err e) h = front_lacks Q octets e h

-- What a test decides isn't so where it says no.
pub said_no : {b : Bool} {P : Type 0} → (IsTrue b ↔ P) → b ≡ false → P → ⊥
said_no told turned p = let e : true ≡ false = sym (told.1 p) ∙ turned in absurd cc
