-- A signed object is a frame whose parts agree; readers of it by octets.
use Rattle.std.proofs.Common.{◌≡◌, ℕ, Bool, true, false, List, ◌++◌, Result, Ok, Err, ap, ◌∙◌, refl, subst, sym, IsTrue, ◌↔◌}
use Rattle.std.specs.Prelude.{IfOk, IsErr, IsErrAnd, IsTrue, OnErr, OnOk}
use Rattle.objects_cms.specs.bcder_tree.declared.mode.Mode.{Mode}
use Rattle.objects_cms.specs.bcder_source.Errors.{OnContent}
use Rattle.objects_cms.specs.bcder_source.declared.error.DecodeError.{DecodeError}
use Rattle.objects_cms.specs.bcder_source.declared.error.DecodeError.TheVariants.{Content, Source, Memory}
use Rattle.objects_cms.specs.bcder_content.declared.constructed.Constructed.{Constructed}
use Rattle.objects_cms.specs.bcder_content.Contents.{Goes, ValuesLeft}
use Rattle.objects_cms.specs.bcder_content.Exact.{Lacks}
use Rattle.objects_cms.specs.bcder_content.Texts.{InFront}
use Rattle.objects_cms.specs.bcder_content.ClosureReads.{Decoded, DecodedCases, Reader, failed_in, fresh, refused_in}
use Rattle.objects_cms.proofs.of_bcder_content.Taking.{on_content, weaker}
use Rattle.certs_cert.specs.certs_x509.Took.{TookOctets}
use Rattle.objects_cms.specs.objects_payload.ObjectText.{Object, ObjectFields, SpellsContentInfo, SpellsObject, mode, object_of}
use Rattle.objects_cms.specs.Frame.{IsFrame, Parts, object_fields, signed_fields}
use Rattle.objects_cms.specs.Decoded.{Agrees, DecodesObject, LacksOctets, ReadsOctets}
use Rattle.objects_cms.proofs.Calls.{EachCall, call_in}
use Rattle.objects_cms.proofs.Ones.{frame_one}
use Rattle.objects_cms.proofs.Spelled.{frame_tree}

-- No frame is next, so no object is.
pub object_lacks : {now : ValuesLeft} → Lacks (IsFrame now.mode) now → LacksOctets SpellsObject now
object_lacks {now} l = record {
  none = λ text o behind goes p.
      let t = frame_tree p.is in
      l.none t.tree p.fields t.is (behind, record { text = text; spelled = t.spelled; goes = goes });
}

pub object_stop : {E : Type 0} (now new : ValuesLeft) (r : Result Object (DecodeError E)) (e : DecodeError E) → IsErr r × IsErrAnd r (λ x. x ≡ e)
    → OnContent e (Lacks (IsFrame now.mode) now) → ReadsOctets (λ (o : Object). o) SpellsObject now r new
object_stop now new (Ok x) e a l = absurd a.1
object_stop {E} now new (Err x) e a l = subst (λ (z : DecodeError E). OnContent z (LacksOctets SpellsObject now)) (sym a.1) (weaker e (λ n. object_lacks n) l)

-- The parts of a frame agree, and are the object.
pub object_gives : {now new : ValuesLeft} {p : Parts} {o : Object} → TookOctets object_fields SpellsContentInfo now p new → Agrees p
    → o ≡ object_of (signed_fields p) → TookOctets (λ (z : Object). z) SpellsObject now o new
object_gives {p = p} g a e = record {
  text = g.text;
  goes = g.goes;
  is = record {
    fields = object_fields p;
    is = g.is;
    says = record {
      fields = e;
      same_type = a.same_type ∙ sym (ap (λ (z : Object). z.content_type) e);
      own = ap (λ (z : Object). z.signer.sid) e ∙ a.own ∙ sym (ap (λ (z : Object). z.cert.tbs.subject_key_identifier) e);
    };
  };
}

-- What a test decides isn't so where it says no.
pub said_no : {b : Bool} {P : Type 0} → (IsTrue b ↔ P) → b ≡ false → P → ⊥
said_no told turned p = let e : true ≡ false = sym (told.1 p) ∙ turned in absurd cc

-- They don't agree, and the octets are read in one way.
pub object_disagrees : {now new : ValuesLeft} {p : Parts} → TookOctets object_fields SpellsContentInfo now p new → (Agrees p → ⊥) → LacksOctets SpellsObject now
object_disagrees {now} {new} {p} g differ = record {
  none = λ text o behind goes q.
      let same = (frame_one.one g.text text new.rest behind.rest (object_fields p) q.fields g.is q.is (sym g.goes.moved.rest ∙ goes.moved.rest)).1 in
      let s = q.says in
      let kind = ap (λ (f : ObjectFields). f.1.0.0.1.1.1.1.0.0.1.1.1.0.1.content_type) same in
      let type = ap (λ (f : ObjectFields). f.1.0.0.1.1.0.0) same in
      let sid = ap (λ (f : ObjectFields). f.1.0.0.1.1.1.1.0.0.1.0) same in
      let key = ap (λ (f : ObjectFields). f.1.0.0.1.1.1.0.0.tbs.subject_key_identifier) same in
      let type_is = ap (λ (z : Object). z.content_type) s.fields in
      let sid_is = ap (λ (z : Object). z.signer.sid) s.fields in
      let key_is = ap (λ (z : Object). z.cert.tbs.subject_key_identifier) s.fields in
      differ (record { same_type = kind ∙ s.same_type ∙ type_is ∙ sym type; own = sid ∙ sym sid_is ∙ s.own ∙ key_is ∙ sym key });
}

-- The object of a frame's parts, where they agree.
pub object_agreed : {E : Type 0} {now mid : ValuesLeft} {p : Parts} (new : ValuesLeft) (r : Result Object (DecodeError E)) → TookOctets object_fields SpellsContentInfo now p mid
    → IfOk r (λ o. Agrees p × (o ≡ object_of (signed_fields p))) → OnOk r (new ≡ mid) → OnErr r (Agrees p → ⊥) → ReadsOctets (λ (z : Object). z) SpellsObject now r new
object_agreed {now = now} new (Ok o) g a same n = subst (λ (v : ValuesLeft). TookOctets (λ (z : Object). z) SpellsObject now o v) (sym same) (object_gives g a.0 a.1)
object_agreed new (Err e) g a same n = on_content e (object_disagrees g n)

-- Each call of the closure reads octets of P exactly.
abbrev pub EachOctets : {F S A E : Type 0} → (S → List ℕ) → Reader F (Constructed S) A E → F → (Mode → List ℕ → A → Type 0) → Type 0
EachOctets {A = A} {E} rest g op P = EachCall rest g op (λ (v : ValuesLeft) (r : Result A (DecodeError E)) (w : ValuesLeft). ReadsOctets (λ (x : A). x) P v r w)

-- What stands in front of the octets, or that nothing does.
abbrev pub DecodesFront : {A E : Type 0} → (List ℕ → A → Type 0) → List ℕ → Result A (DecodeError E) → Type 0
DecodesFront P octets (Ok x) = InFront P octets x
DecodesFront {A} P octets (Err e) = OnContent e ((x : A) → InFront P octets x → ⊥)

-- Octets in front of a source are next in it.
front_goes : {m : Mode} {o text behind : List ℕ} → o ≡ text ++ behind → Goes (fresh m o) text (fresh m behind)
front_goes e = record { moved = record { rest = e; limit = refl }; mode = refl; end = refl; before = refl; behind = refl }

front_cases : {F S A E : Type 0} {rest : S → List ℕ} {g : Reader F (Constructed S) A E} {op : F} (P : Mode → List ℕ → A → Type 0) (m : Mode) (o : List ℕ)
    (r : Result A (DecodeError E)) → EachOctets rest g op P → DecodedCases rest g op (fresh m o) r → DecodesFront (P m) o r
front_cases P m o (Ok x) each h =
    let k = call_in each h.1 in
    record { text = k.text; rest = h.0.rest; whole = k.goes.moved.rest; is = k.is }
front_cases P m o (Err (Content x pos)) each h = λ y p.
    elim h [
      | refused_in end on ↦ (call_in each on).none p.text y (fresh m p.rest) (front_goes p.whole) p.is
      | failed_in end v on failed ↦ let k = call_in each on in let e : true ≡ false = sym failed ∙ k.goes.behind in absurd cc
    ]
front_cases P m o (Err (Source x)) each h = tt
front_cases P m o (Err Memory) each h = tt

-- Decoding with a closure that reads octets of P exactly, in the mode that was asked for.
pub decodes_front : {F S A E : Type 0} {m : Mode} {rest : S → List ℕ} {g : Reader F (Constructed S) A E} {op : F} {o : List ℕ} {r : Result A (DecodeError E)}
    (P : Mode → List ℕ → A → Type 0) (strict : Bool) → m ≡ mode strict → EachOctets rest g op P → Decoded rest g op (fresh m o) r → DecodesFront (P (mode strict)) o r
decodes_front {rest = rest} {g} {op} {o} {r} P strict e each h =
    let d = subst (λ (z : Mode). Decoded rest g op (fresh z o) r) e h in
    front_cases P (mode strict) o r each d.cases

pub decodes_object : {F S E : Type 0} {m : Mode} {rest : S → List ℕ} {g : Reader F (Constructed S) Object E} {op : F} {o : List ℕ}
    {r : Result Object (DecodeError E)} (strict : Bool) → m ≡ mode strict → EachOctets rest g op SpellsObject
    → Decoded rest g op (fresh m o) r → DecodesObject strict o r
decodes_object {o = o} {r} strict e each h = as_object r (decodes_front SpellsObject strict e each h)
  where
    as_object : {E : Type 0} (r : Result Object (DecodeError E)) → DecodesFront (SpellsObject (mode strict)) o r → DecodesObject strict o r
    as_object (Ok x) d = d
    as_object (Err x) d = d
