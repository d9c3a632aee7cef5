-- What is read strictly is read relaxed, with the same fields, and tested alike.
use Rattle.std.specs.Prelude.{◌≡◌, ◌↔◌, ℕ, Bool, true, false, List}
use Rattle.objects_payload.specs.bcder_tree.declared.mode.Mode.TheVariants.{Ber, Der}
use Rattle.objects_payload.specs.bcder_content.Kept.{CapturedValue}
use Rattle.objects_payload.specs.certs_basics.HandedIn.{Digests}
use Rattle.objects_payload.specs.certs_basics.Verdicts.{Verdicts}
use Rattle.objects_payload.specs.certs_basics.Names.{IsRpkiName, SpellsName}
use Rattle.objects_payload.specs.certs_extension.declared.forms.Role.{Role}
use Rattle.objects_payload.specs.certs_extension.CertText.{SpellsCert}
use Rattle.objects_payload.specs.certs_extension.Profiles.{Profile}
use Rattle.objects_payload.specs.ObjectText.{Object, ObjectText, Sound}
use Rattle.objects_payload.specs.Forms.{Carries}
use Rattle.objects_payload.specs.Relaxed.{relaxed, relaxed_cert, relaxed_name}

-- Names and certificates by their octets: what spells one in DER spells it in BER.
abbrev pub NamesStay : Type 0
NamesStay = Carries relaxed_name (SpellsName Der) (SpellsName Ber)

abbrev pub CertsStay : Type 0
CertsStay = Carries relaxed_cert (SpellsCert Der) (SpellsCert Ber)

-- Octets that are a signed object in DER are the same in BER, and no other.
abbrev pub ObjectsStay : Type 0
ObjectsStay =
    (octets : List ℕ) (o : Object) → ObjectText true octets o → ObjectText false octets (relaxed o)

abbrev pub ObjectsStayAlone : Type 0
ObjectsStayAlone =
    (octets : List ℕ) (o p : Object) → ObjectText true octets o → ObjectText false octets p
    → p ≡ relaxed o

-- The same for objects of one kind, whose content stays too.
abbrev pub Stays : {A : Type 0} → (Bool → List ℕ → Object → A → Type 0) → Type 0
Stays {A} Text =
    (octets : List ℕ) (o : Object) (x : A) → Text true octets o x → Text false octets (relaxed o) x

abbrev pub StaysAlone : {A : Type 0} → (Bool → List ℕ → Object → A → Type 0) → Type 0
StaysAlone {A} Text =
    (octets : List ℕ) (o p : Object) (x y : A) → Text true octets o x → Text false octets p y
    → (p ≡ relaxed o) × (y ≡ x)

-- A name that was read in DER passes inspection exactly where it does read in BER; strict is PrintableString alone.
abbrev pub NamesAlike : Type 0
NamesAlike = (strict : Bool) (text : List ℕ) (name : CapturedValue) → SpellsName Der text name →
    IsRpkiName strict name ↔ IsRpkiName strict (relaxed_name name)

-- So does the certificate of an object, as one of any role.
abbrev pub InspectedAlike : Type 0
InspectedAlike =
    (octets : List ℕ) (o : Object) → ObjectText true octets o
    → (d : Digests) (strict : Bool) (role : Role) →
    Profile d strict role o.cert ↔ Profile d strict role (relaxed_cert o.cert)

-- An object is sound exactly where it is relaxed.
abbrev pub SoundAlike : Type 0
SoundAlike = (d : Digests) (v : Verdicts) (o : Object) → Sound d v o ↔ Sound d v (relaxed o)
