-- Where no object with that type of content is in front of the octets.
use Rattle.std.proofs.Common.{◌≡◌, ◌∙◌, ap, subst, sym, Bool, true, false, IsTrue, ◌↔◌, ℕ, List, Result, Ok, Err}
use Rattle.std.specs.Prelude.{IsErr, IsErrAnd}
use Rattle.bcder.proofs.of_bcder_content.Taking.{weaker}
use Rattle.objects_cms.specs.bcder_source.Errors.{OnContent}
use Rattle.objects_cms.specs.bcder_source.declared.error.DecodeError.{DecodeError}
use Rattle.objects_payload.proofs.Objects.{one_object}
use Rattle.objects_valid.specs.objects_payload.ObjectText.{Object, ObjectText}
use Rattle.objects_valid.specs.IfType.{DecodesIfType, IsOfType}

-- What is said of octets holds of equal ones.
pub told_same : {b : Bool} {x y z : List ℕ} → (IsTrue b ↔ (x ≡ z)) → x ≡ y → IsTrue b ↔ (y ≡ z)
told_same told e = (λ t. sym e ∙ told.0 t, λ p. told.1 (e ∙ p))

-- No object is there, so none with that type of content.
pub if_type_stop : {E : Type 0} (kind : List ℕ) (strict : Bool) (octets : List ℕ) (r : Result Object (DecodeError E)) (e : DecodeError E)
    → IsErr r × IsErrAnd r (λ x. x ≡ e) → OnContent e ((o : Object) → ObjectText strict octets o → ⊥) → DecodesIfType (λ (o : Object). o) kind strict octets r
if_type_stop kind strict octets (Ok o) e a none = absurd a.1
if_type_stop {E} kind strict octets (Err x) e a none =
    subst (λ (z : DecodeError E). OnContent z ((o : Object) → IsOfType kind strict octets o → ⊥)) (sym a.1) (weaker e (λ n o p. n o p.object) none)

-- The octets are an object with another type of content.
pub other_type : {kind : List ℕ} (strict : Bool) {octets : List ℕ} {o : Object} → ObjectText strict octets o → (o.content_type ≡ kind → ⊥)
    → (z : Object) → IsOfType kind strict octets z → ⊥
other_type strict {octets} {o} p differ z q = differ (ap (λ (y : Object). y.content_type) (one_object strict octets o z p q.object) ∙ q.type_is)

-- The octets are an object with that type of content, as the test answered.
pub of_type : {kind : List ℕ} {strict : Bool} {octets : List ℕ} {o : Object} {b : Bool} → ObjectText strict octets o → (IsTrue b ↔ (o.content_type ≡ kind)) → b ≡ true
    → IsOfType kind strict octets o
of_type p told is = record { object = p; type_is = told.0 is }

-- What a test decides isn't so where it says no.
pub said_no : {b : Bool} {P : Type 0} → (IsTrue b ↔ P) → b ≡ false → P → ⊥
said_no told turned p = let e : true ≡ false = sym (told.1 p) ∙ turned in absurd cc
