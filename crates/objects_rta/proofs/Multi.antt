-- A signed object with several signers is a frame whose parts agree, and whose lists are lists.
use Rattle.std.proofs.Common.{◌≡◌, ℕ, Bool, List, [], ◌∷◌, ◌++◌, Result, Ok, Err, map, suc, ap, ◌∙◌, subst, sym, arith}
use Rattle.std.proofs.lemmas.List.Elements.{All-cons, All-map, All-nil}
use Rattle.std.specs.Prelude.{All, IsErr, IsErrAnd, OnOk}
use Rattle.objects_cms.specs.bcder_tree.declared.mode.Mode.{Mode}
use Rattle.objects_cms.specs.bcder_source.Errors.{OnContent}
use Rattle.objects_cms.specs.bcder_source.declared.error.DecodeError.{DecodeError}
use Rattle.objects_cms.specs.bcder_content.declared.constructed.Constructed.{Constructed}
use Rattle.objects_cms.specs.bcder_content.Contents.{ValuesLeft}
use Rattle.objects_cms.specs.bcder_content.Exact.{Lacks}
use Rattle.objects_cms.specs.bcder_content.ClosureReads.{Decoded, Reader, fresh}
use Rattle.objects_cms.specs.certs_extension.CrlText.{CrlValue}
use Rattle.objects_cms.specs.certs_x509.Took.{TookOctets}
use Rattle.objects_cms.specs.objects_payload.ObjectText.{SignerFields, mode}
use Rattle.objects_cms.specs.Decoded.{LacksOctets, ReadsOctets}
use Rattle.objects_cms.specs.Signer.{signer_fields}
use Rattle.objects_cms.proofs.Whole.{DecodesFront, EachOctets, decodes_front}
use Rattle.objects_cms.proofs.of_bcder_content.Taking.{weaker}
use Rattle.objects_rta.specs.Carried.{AreListsIn}
use Rattle.objects_rta.specs.MultiText.{InfoFields, Multi, MultiText, SignsType, SpellsMulti, lists_of}
use Rattle.objects_rta.specs.MultiFrame.{Agrees, DecodesMulti, GivesMulti, IsInfo, MakesMulti, Parts, SpellsRaw, info_fields, multi_with}
use Rattle.objects_rta.proofs.MultiTrees.{info_tree, raw_one}
use Rattle.objects_rta.proofs.Relisting.{listed, lists_at, relisted, relists, unlisted}

-- What holds of each meaning holds of what means it.
all_unmapped : {X Y : Type 0} (P : X → Type 0) (f : Y → X) (ys : List Y) → All P (map f ys) → All (λ y. P (f y)) ys
all_unmapped P f [] h = All-nil (λ y. P (f y))
all_unmapped P f (y ∷ ys) h = All-cons (λ z. P (f z)) y ys (h 0 (f y) (omega arith)) (all_unmapped P f ys (λ k d lt. h (suc k) d (omega arith)))

-- No frame is next, so no object is.
multi_lacks : {now : ValuesLeft} → Lacks (IsInfo now.mode) now → LacksOctets SpellsMulti now
multi_lacks {now} l = record {
  none = λ text o behind goes p.
      let raw = unlisted (lists_at p.is).is in
      let t = info_tree (relists raw.octets p.is raw.is) in
      l.none t.tree (relisted p.fields raw.octets) t.is (behind, record { text = text; spelled = t.spelled; goes = goes });
}

pub multi_stop : {E : Type 0} (now new : ValuesLeft) (r : Result Multi (DecodeError E)) (e : DecodeError E) → IsErr r × IsErrAnd r (λ x. x ≡ e)
    → OnContent e (Lacks (IsInfo now.mode) now) → ReadsOctets (λ (o : Multi). o) SpellsMulti now r new
multi_stop now new (Ok x) e a l = absurd a.1
multi_stop {E} now new (Err x) e a l = subst (λ (z : DecodeError E). OnContent z (LacksOctets SpellsMulti now)) (sym a.1) (weaker e (λ n. multi_lacks n) l)

-- The parts of a frame agree, and are the object.
multi_gives : {now new : ValuesLeft} {p : Parts} {o : Multi} → TookOctets info_fields SpellsRaw now p new → GivesMulti p o
    → TookOctets (λ (z : Multi). z) SpellsMulti now o new
multi_gives {p = p} {o} g a =
    let l = listed (lists_at g.is).is a.agrees.lists in
    let says = a.says ∙ ap (λ (crls : List CrlValue). multi_with p crls) l.says in
    let signed = All-map (SignsType p.0.0.0) signer_fields p.1.signers.items a.agrees.same_type in
    let type : p.0.0.0 ≡ o.content_type = sym (ap (λ (z : Multi). z.content_type) a.says) in
    record {
      text = g.text;
      goes = g.goes;
      is = record {
        fields = relisted (info_fields p) l.found;
        is = relists l.found g.is l.is;
        says = record {
          fields = says;
          same_type = subst (λ (t : List ℕ). All (SignsType t) (map signer_fields p.1.signers.items)) type signed;
        };
      };
    }

-- They don't agree with any lists, and the octets are read in one way.
multi_disagrees : {now new : ValuesLeft} {p : Parts} → TookOctets info_fields SpellsRaw now p new → ((crls : List CrlValue) → Agrees p crls → ⊥)
    → LacksOctets SpellsMulti now
multi_disagrees {now} {new} {p} g differ = record {
  none = λ text o behind goes q.
      let raw = unlisted (lists_at q.is).is in
      let octets = relists raw.octets q.is raw.is in
      let same = (raw_one.one g.text text new.rest behind.rest (info_fields p) (relisted q.fields raw.octets) g.is octets (sym g.goes.moved.rest ∙ goes.moved.rest)).1 in
      let lists = ap (λ (f : InfoFields (List ℕ)). f.1.0.0.1.1.1.1.0) same in
      let signers = ap (λ (f : InfoFields (List ℕ)). f.1.0.0.1.1.1.1.1.0) same in
      let type = ap (λ (f : InfoFields (List ℕ)). f.1.0.0.1.1.0.0) same in
      let type_is = ap (λ (z : Multi). z.content_type) q.says.fields in
      let signed = subst (λ (fs : List SignerFields). All (SignsType o.content_type) fs) (sym signers) q.says.same_type in
      let of_type = subst (λ (t : List ℕ). All (SignsType t) (map signer_fields p.1.signers.items)) (type_is ∙ sym type) signed in
      let crls = lists_of q.fields.1.0.0.1.1.1.1.0 in
      differ crls (record {
        same_type = all_unmapped (SignsType p.0.0.0) signer_fields p.1.signers.items of_type;
        lists = subst (λ l. AreListsIn l crls) (sym lists) raw.lists;
      });
}

-- The object of a frame's parts, where they agree.
pub multi_made : {E : Type 0} {now mid : ValuesLeft} {p : Parts} (new : ValuesLeft) (r : Result Multi (DecodeError E)) → TookOctets info_fields SpellsRaw now p mid
    → MakesMulti p r → OnOk r (new ≡ mid) → ReadsOctets (λ (z : Multi). z) SpellsMulti now r new
multi_made {now = now} new (Ok o) g a same = subst (λ (v : ValuesLeft). TookOctets (λ (z : Multi). z) SpellsMulti now o v) (sym same) (multi_gives g a)
multi_made new (Err e) g a same = weaker e (λ n. multi_disagrees g n) a

-- Decoding with a closure that reads an object exactly, in the mode that was asked for.
pub decodes_multi : {F S E : Type 0} {m : Mode} {rest : S → List ℕ} {g : Reader F (Constructed S) Multi E} {op : F} {o : List ℕ}
    {r : Result Multi (DecodeError E)} (strict : Bool) → m ≡ mode strict → EachOctets rest g op SpellsMulti
    → Decoded rest g op (fresh m o) r → DecodesMulti strict o r
decodes_multi {o = o} {r} strict e each h = as_multi r (decodes_front SpellsMulti strict e each h)
  where
    as_multi : {E : Type 0} (r : Result Multi (DecodeError E)) → DecodesFront (SpellsMulti (mode strict)) o r → DecodesMulti strict o r
    as_multi (Ok x) d = d
    as_multi (Err x) d = d

-- Octets have one content at most, of one type.
fields_content : {m : Mode} {a b : List ℕ} (u v : List ℕ) {x y : Multi} (p : SpellsMulti m a x) (q : SpellsMulti m b y) → a ++ u ≡ b ++ v
    → (x.content_type ≡ y.content_type) × (x.content ≡ y.content)
fields_content {a = a} {b} u v {x} {y} p q e =
    let k = unlisted (lists_at p.is).is in
    let l = unlisted (lists_at q.is).is in
    let same = (raw_one.one a b u v (relisted p.fields k.octets) (relisted q.fields l.octets) (relists k.octets p.is k.is) (relists l.octets q.is l.is) e).1 in
    let first = p.says.fields in
    let second = sym q.says.fields in (
      ap (λ (z : Multi). z.content_type) first ∙ ap (λ (f : InfoFields (List ℕ)). f.1.0.0.1.1.0.0) same ∙ ap (λ (z : Multi). z.content_type) second,
      ap (λ (z : Multi). z.content) first ∙ ap (λ (f : InfoFields (List ℕ)). f.1.0.0.1.1.0.1.0.0) same ∙ ap (λ (z : Multi). z.content) second,
    )

pub one_content : (strict : Bool) (octets : List ℕ) (o o' : Multi) → MultiText strict octets o → MultiText strict octets o'
    → (o.content_type ≡ o'.content_type) × (o.content ≡ o'.content)
one_content strict octets o o' p q = fields_content p.rest q.rest p.is q.is (sym p.whole ∙ q.whole)
