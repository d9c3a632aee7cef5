-- Names, certificates and objects that were read in DER are tested alike when they are read in BER.
use Rattle.std.proofs.Common.{◌≡◌, ℕ, Bool, true, List, [], ◌∷◌, sym, ap, ◌∙◌, subst}
use Rattle.bcder_tree.proofs.Fronts.{whole_front}
use Rattle.bcder_tree.proofs.Modes.{to_ber}
use Rattle.objects_payload.proofs.of_bcder_tree.Trees.{one_tree}
use Rattle.objects_payload.specs.bcder_tree.declared.mode.Mode.{Mode}
use Rattle.objects_payload.specs.bcder_tree.declared.mode.Mode.TheVariants.{Ber, Der}
use Rattle.objects_payload.specs.bcder_tree.Tree.{Tree, Spells}
use Rattle.objects_payload.specs.bcder_content.Kept.{CapturedValue}
use Rattle.objects_payload.specs.certs_basics.HandedIn.{Digests}
use Rattle.objects_payload.specs.certs_basics.Lists.{Each}
use Rattle.objects_payload.specs.certs_basics.Names.{IsRpkiName, SpellsName}
use Rattle.objects_payload.specs.certs_basics.Verdicts.{Verdicts}
use Rattle.objects_payload.specs.certs_extension.Cert.{CertValue, TbsValue}
use Rattle.objects_payload.specs.certs_extension.CertText.{SpellsCert}
use Rattle.objects_payload.specs.certs_extension.Profiles.{Passes, Profile, strict_for, tests}
use Rattle.objects_payload.specs.certs_extension.declared.forms.InspectionError.{InspectionError}
use Rattle.objects_payload.specs.certs_extension.declared.forms.InspectionError.TheVariants as test
use Rattle.objects_payload.specs.certs_extension.declared.forms.Role.{Role}
use Rattle.objects_payload.specs.ObjectText.{Object, ObjectText, Sound}
use Rattle.objects_payload.specs.Relaxed.{relaxed, relaxed_cert, relaxed_name}
use Rattle.objects_payload.specs.RelaxedLaws.{InspectedAlike, NamesAlike, SoundAlike}

-- A name that passes inspection passes it in BER, in whatever mode it was read.
pub name_relaxed : (strict : Bool) (name : CapturedValue) → IsRpkiName strict name → IsRpkiName strict (relaxed_name name)
name_relaxed strict name p = record {
  all = p.all;
  says = record { tree = p.says.tree; spelled = to_ber name.mode p.says.tree name.octets p.says.spelled; is = p.says.is };
  are = p.are;
}

-- A name that was read in DER has in BER the same tree, so it passes inspection where it does there.
name_strict : (strict : Bool) (text : List ℕ) (name : CapturedValue) → SpellsName Der text name → IsRpkiName strict (relaxed_name name) → IsRpkiName strict name
name_strict strict text name s p =
    let octets : name.octets ≡ text = ap (λ (z : CapturedValue). z.octets) s.same in
    let mode : name.mode ≡ Der = ap (λ (z : CapturedValue). z.mode) s.same in
    let there : Spells Der s.is.tree name.octets = subst (Spells Der s.is.tree) (sym octets) s.is.spelled in
    let one : s.is.tree ≡ p.says.tree = (one_tree s.is.tree p.says.tree (whole_front (to_ber Der s.is.tree name.octets there)) (whole_front p.says.spelled)).0 in
    record {
      all = p.all;
      says = record {
        tree = p.says.tree;
        spelled = subst (λ (m : Mode). Spells m p.says.tree name.octets) (sym mode) (subst (λ (t : Tree). Spells Der t name.octets) one there);
        is = p.says.is;
      };
      are = p.are;
    }

pub names_alike : NamesAlike
names_alike strict text name s = (name_relaxed strict name, name_strict strict text name s)

-- Of all that inspection tests only names keep a mode: that of what is signed isn't tested.
abbrev named : CertValue → Mode → CapturedValue → CapturedValue → CertValue
named c m issuer subject = record c { signed = record c.signed { mode = m }; tbs = record c.tbs { issuer = issuer; subject = subject } }

passes_with : (d : Digests) (strict : Bool) (role : Role) (c : CertValue) (m n : Mode) (i j s u : CapturedValue)
    → ((b : Bool) → IsRpkiName b i → IsRpkiName b j) → ((b : Bool) → IsRpkiName b s → IsRpkiName b u)
    → (t : InspectionError) → Passes d strict role (named c m i s) t → Passes d strict role (named c n j u) t
passes_with d strict role c m n i j s u issuer subject test.BadIssuer p = issuer strict p
passes_with d strict role c m n i j s u issuer subject test.BadSubject p = subject (strict_for role strict) p
passes_with d strict role c m n i j s u issuer subject t p = p

each_more : {X : Type 0} {P Q : X → Type 0} → ((x : X) → P x → Q x) → (xs : List X) → Each P xs → Each Q xs
each_more f [] p = p
each_more f (x ∷ xs) p = (f x p.0, each_more f xs p.1)

-- A certificate that passes inspection passes it in BER.
pub passes_relaxed : (d : Digests) (strict : Bool) (role : Role) (c : CertValue) → Profile d strict role c → Profile d strict role (relaxed_cert c)
passes_relaxed d strict role c p =
    let i = c.tbs.issuer in
    let s = c.tbs.subject in
    each_more (passes_with d strict role c c.signed.mode Ber i (relaxed_name i) s (relaxed_name s) (λ b. name_relaxed b i) (λ b. name_relaxed b s)) (tests role) p

-- A name that was read in DER.
record IsStrict (name : CapturedValue) : Type 0 where
  text : List ℕ
  is : SpellsName Der text name

passes_strict : (d : Digests) (strict : Bool) (role : Role) (c : CertValue) → IsStrict c.tbs.issuer → IsStrict c.tbs.subject → Profile d strict role (relaxed_cert c) → Profile d strict role c
passes_strict d strict role c i s p =
    let issuer = c.tbs.issuer in
    let subject = c.tbs.subject in
    each_more (passes_with d strict role c Ber c.signed.mode (relaxed_name issuer) issuer (relaxed_name subject) subject (λ b. name_strict b i.text issuer i.is) (λ b. name_strict b s.text subject s.is)) (tests role) p

names_of_cert : (text : List ℕ) (c : CertValue) → SpellsCert Der text c → IsStrict c.tbs.issuer × IsStrict c.tbs.subject
names_of_cert text c p =
    let tbs = p.is.is.is.is in
    let issuer = tbs.is.is.rest.rest.rest in
    let subject = issuer.rest.rest in
    let kept : c.tbs ≡ p.fields.0.1 = ap (λ (z : CertValue). z.tbs) p.says in
    (strict_at (ap (λ (z : TbsValue). z.issuer) kept ∙ tbs.says.issuer) issuer.first issuer.is, strict_at (ap (λ (z : TbsValue). z.subject) kept ∙ tbs.says.subject) subject.first subject.is)
  where
    strict_at : {name kept : CapturedValue} → name ≡ kept → (text : List ℕ) → SpellsName Der text kept → IsStrict name
    strict_at e text q = record { text = text; is = subst (SpellsName Der text) (sym e) q }

names_of_object : (octets : List ℕ) (o : Object) → ObjectText true octets o → IsStrict o.cert.tbs.issuer × IsStrict o.cert.tbs.subject
names_of_object octets o p =
    let signed = p.is.is.is.rest.is.is.is in
    let certs = signed.is.rest.rest.rest.is.is in
    let kept : o.cert ≡ p.is.fields.1.0.0.1.1.1.0.0 = ap (λ (z : Object). z.cert) p.is.says.fields in
    names_of_cert certs.first o.cert (subst (SpellsCert Der certs.first) (sym kept) certs.is)

pub inspected_alike : InspectedAlike
inspected_alike octets o p d strict role =
    let names = names_of_object octets o p in
    (passes_relaxed d strict role o.cert, passes_strict d strict role o.cert names.0 names.1)

-- Soundness speaks of no name.
pub sound_relaxed : (d : Digests) (v : Verdicts) (o : Object) → Sound d v o → Sound d v (relaxed o)
sound_relaxed d v o s = record { digest = s.digest; time = s.time; message = s.message; message_is = s.message_is; signature = s.signature }

pub sound_alike : SoundAlike
sound_alike d v o = (sound_relaxed d v o, λ s. record { digest = s.digest; time = s.time; message = s.message; message_is = s.message_is; signature = s.signature })
