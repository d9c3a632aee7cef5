-- What the object with a lookup key reads as, by the extension of its name.
use Rattle.std.proofs.Common.{◌≡◌, ◌↔◌, ℕ, Bool, List, Option, Some, None, sym, ap, subst}
use Rattle.rpki_standing.specs.bcder_source.Errors.{OnContent}
use Rattle.rpki_standing.specs.bcder_source.declared.error.DecodeError.{DecodeError}
use Rattle.rpki_standing.proofs.Endings.{one_extension}
use Rattle.rpki_standing.specs.Names.{letters}
use Rattle.rpki_standing.specs.declared.payloads.names.Extension.{Extension}
use Rattle.rpki_standing.specs.declared.payloads.names.Extension.TheVariants as extension
use Rattle.rpki_standing.specs.rpki_bundle.Bundle.{BundleValue}
use Rattle.rpki_rules.specs.Certs.{Digests, Verdicts}
use Rattle.rpki_rules.specs.Objects.{Object, Roa, RoaText, Aspa, AspaText, one_roa, one_aspa}
use Rattle.rpki_rules.specs.Attests.{Payload, OfRoa, OfAspa, PayloadText}
use Rattle.rpki_rules.specs.Chains.{HasExtension, roa, asa}
use Rattle.rpki_rules.specs.World.{World, is_strict, world_of}
use Rattle.rpki_standing.specs.Published.{FindsReading, PublishedValue}
use Rattle.rpki_rules.specs.FileReasons.{HasPayload}
use Rattle.rpki_standing.specs.Texts.{FindsText, TextOf}
use Rattle.rpki_standing.proofs.Failing.{one_value}

-- A name has one extension.
roa_asa : (uri : List ℕ) → HasExtension roa uri → HasExtension asa uri → ⊥
roa_asa uri a b = let e : extension.Roa ≡ extension.Asa = one_extension uri extension.Roa extension.Asa a b in absurd cc

-- The octets read as one thing at most.
one_text : (w : World) (uri octets : List ℕ) (o p : Object) (x y : Payload) → PayloadText w uri octets o x → PayloadText w uri octets p y → (o ≡ p) × (x ≡ y)
one_text w uri octets o p (OfRoa r) (OfRoa s) h k = let e = one_roa w.strict octets o p r s h.1 k.1 in (e.0, ap (λ (z : Roa). OfRoa z) e.1)
one_text w uri octets o p (OfRoa r) (OfAspa a) h k = absurd (roa_asa uri h.0 k.0)
one_text w uri octets o p (OfAspa a) (OfRoa r) h k = absurd (roa_asa uri k.0 h.0)
one_text w uri octets o p (OfAspa a) (OfAspa b) h k = let e = one_aspa w.strict octets o p a b h.1 k.1 in (e.0, ap (λ (z : Aspa). OfAspa z) e.1)

-- What the object with a lookup key reads as, in its octets.
text_there : (w : World) (uri octets : List ℕ) (o : Object) (x : Payload) → w.object uri ≡ Some octets → HasPayload w uri o x → PayloadText w uri octets o x
text_there w uri octets o x held t =
    subst (λ (z : List ℕ). PayloadText w uri z o x) (one_value t.octets octets (w.object uri) t.held held) t.reads

pub one_reading : (w : World) (uri : List ℕ) (o p : Object) (x y : Payload) → HasPayload w uri o x → HasPayload w uri p y → (o ≡ p) × (x ≡ y)
one_reading w uri o p x y h k = one_text w uri k.octets o p x y (text_there w uri k.octets o x k.held h) k.reads

-- No object of a kind is in front of the octets.
abbrev pub NoneIn : {X : Type 0} → (List ℕ → Object → X → Type 0) → List ℕ → Type 0
NoneIn {X} P octets = (o : Object) (x : X) → P octets o x → ⊥

-- The octets that were seen were refused.
pub none_in : {X E : Type 0} (P : List ℕ → Object → X → Type 0) (e f : DecodeError E) (seen octets : List ℕ)
    → e ≡ f → (OnContent f (NoneIn P seen) → NoneIn P seen) → OnContent e (NoneIn P seen) → seen ≡ octets → NoneIn P octets
none_in {X} {E} P e f seen octets is told refused same =
    subst (NoneIn P) same (told (subst (λ (z : DecodeError E). OnContent z (NoneIn P seen)) is refused))

pub no_roa : (strict : Bool) (octets : List ℕ) → NoneIn (RoaText strict) octets → FindsText strict extension.Roa octets None
no_roa strict octets n = none
  where
    none : (o : Object) (x : Payload) → ¬ (TextOf strict extension.Roa octets o x)
    none o (OfRoa r) t = n o r t
    none o (OfAspa a) t = t

pub no_aspa : (strict : Bool) (octets : List ℕ) → NoneIn (AspaText strict) octets → FindsText strict extension.Asa octets None
no_aspa strict octets n = none
  where
    none : (o : Object) (x : Payload) → ¬ (TextOf strict extension.Asa octets o x)
    none o (OfRoa r) t = t
    none o (OfAspa a) t = n o a t

-- An object and what it attests, seen as that.
text_as : (strict : Bool) (e : Extension) (octets : List ℕ) (s : PublishedValue) (o : Object) (x : Payload) → s.object ≡ o → s.payload ≡ x → TextOf strict e octets o x → TextOf strict e octets s.object s.payload
text_as strict e octets s o x p q t =
    subst (λ (y : Payload). TextOf strict e octets s.object y) (sym q) (subst (λ (z : Object). TextOf strict e octets z x) (sym p) t)

pub roa_text : (strict : Bool) (octets seen : List ℕ) (s : PublishedValue) (o : Object) (r : Roa) → seen ≡ octets → s.object ≡ o → s.payload ≡ OfRoa r → RoaText strict seen o r → FindsText strict extension.Roa octets (Some s)
roa_text strict octets seen s o r same p q t = text_as strict extension.Roa octets s o (OfRoa r) p q (subst (λ (z : List ℕ). RoaText strict z o r) same t)

pub aspa_text : (strict : Bool) (octets seen : List ℕ) (s : PublishedValue) (o : Object) (a : Aspa) → seen ≡ octets → s.object ≡ o → s.payload ≡ OfAspa a → AspaText strict seen o a → FindsText strict extension.Asa octets (Some s)
aspa_text strict octets seen s o a same p q t = text_as strict extension.Asa octets s o (OfAspa a) p q (subst (λ (z : List ℕ). AspaText strict z o a) same t)

-- The extension that was found of a name.
abbrev IsFound : List ℕ → Option Extension → Type 0
IsFound uri found = (e : Extension) → (found ≡ Some e) ↔ HasExtension (letters e) uri

-- A name with none of the extensions.
no_text : (w : World) (uri octets : List ℕ) (found : Option Extension) → found ≡ None → IsFound uri found → (o : Object) (x : Payload) → ¬ (PayloadText w uri octets o x)
no_text w uri octets found none told o (OfRoa r) t = let e : found ≡ Some extension.Roa = (told extension.Roa).1 t.0 in absurd cc
no_text w uri octets found none told o (OfAspa a) t = let e : found ≡ Some extension.Asa = (told extension.Asa).1 t.0 in absurd cc

pub no_extension : (w : World) (uri : List ℕ) (found : Option Extension) → found ≡ None → IsFound uri found → (o : Object) (x : Payload) → ¬ (HasPayload w uri o x)
no_extension w uri found none told o x t = no_text w uri t.octets found none told o x t.reads

module _ (d : Digests) (v : Verdicts) (b : BundleValue) (uri octets : List ℕ) (e : Extension) (found : Option Extension) (is : found ≡ Some e) (told : IsFound uri found) where
  -- What the octets are by the name is what they are by the extension that was found.
  text_is : (o : Object) (x : Payload) → PayloadText (world_of d v b) uri octets o x → TextOf (is_strict b) e octets o x
  text_is o (OfRoa r) t =
      subst (λ (k : Extension). TextOf (is_strict b) k octets o (OfRoa r)) (one_value extension.Roa e found ((told extension.Roa).1 t.0) is) t.1
  text_is o (OfAspa a) t =
      subst (λ (k : Extension). TextOf (is_strict b) k octets o (OfAspa a)) (one_value extension.Asa e found ((told extension.Asa).1 t.0) is) t.1

  named : HasExtension (letters e) uri
  named = (told e).0 is

-- .. and the other way round.
text_by : (d : Digests) (v : Verdicts) (b : BundleValue) (uri octets : List ℕ) (e : Extension) (o : Object) (x : Payload) → HasExtension (letters e) uri → TextOf (is_strict b) e octets o x → PayloadText (world_of d v b) uri octets o x
text_by d v b uri octets extension.Cer o x h t = absurd t
text_by d v b uri octets extension.Roa o (OfRoa r) h t = (h, t)
text_by d v b uri octets extension.Roa o (OfAspa a) h t = absurd t
text_by d v b uri octets extension.Asa o (OfRoa r) h t = absurd t
text_by d v b uri octets extension.Asa o (OfAspa a) h t = (h, t)

-- What the octets are is what the object with the lookup key reads as.
pub reading_told : (d : Digests) (v : Verdicts) (b : BundleValue) (uri octets : List ℕ) (e : Extension) (found : Option Extension) → found ≡ Some e → IsFound uri found → (world_of d v b).object uri ≡ Some octets
    → (r : Option PublishedValue) → FindsText (is_strict b) e octets r → FindsReading (world_of d v b) uri r
reading_told d v b uri octets e found is told held None n = λ o x t.
    n o x (text_is d v b uri octets e found is told o x (text_there (world_of d v b) uri octets o x held t))
reading_told d v b uri octets e found is told held (Some s) t = record {
  octets = octets;
  held = held;
  reads = text_by d v b uri octets e s.object s.payload (named d v b uri octets e found is told) t;
}
