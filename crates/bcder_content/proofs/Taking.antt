-- What the parts of a reading by a closure say of the values that are next.
use Rattle.std.proofs.Common.{◌≡◌, inl, inr, ℕ, Bool, true, false, List, [], ◌∷◌, ◌++◌, IsTrue, IsFalse, ◌↔◌, refl, sym, ap, ◌∙◌, subst, append_assoc}
use Rattle.bcder_content.specs.bcder_tree.declared.mode.Mode.{Mode}
use Rattle.bcder_content.specs.bcder_source.declared.error.DecodeError.{DecodeError}
use Rattle.bcder_content.specs.bcder_source.declared.error.ContentError.{ContentError}
use Rattle.bcder_content.specs.bcder_source.declared.pos.Pos.{Pos}
use Rattle.bcder_content.specs.bcder_source.declared.error.DecodeError.TheVariants.{Content, Source, Memory}
use Rattle.bcder_content.specs.bcder_source.Errors.{OnContent, OnlyContent}
use Rattle.bcder_content.specs.bcder_tree.Tags.{TagValue}
use Rattle.bcder_content.specs.bcder_tree.Reads.{Begins, Lacks, IsEnd}
use Rattle.bcder_content.specs.bcder_tree.Tree.{Tree}
use Rattle.bcder_content.specs.bcder_tree.Front.{Front}
use Rattle.bcder_content.proofs.of_bcder_tree.Parts.{Ends, identifier_goes_on}
use Rattle.bcder_content.specs.bcder_source.Views.{View, left, Moved}
use Rattle.bcder_content.specs.declared.ending.Span.{Span}
use Rattle.bcder_content.specs.Contents.{ValuesLeft, octets, Ended, Unlike, Untold, tag_of, form_of}
use Rattle.bcder_content.specs.Openings.{Closes, NoValue, OfTag, OfOther}
use Rattle.std.specs.Fn.{FnOnceReturnsAtMut}
use Rattle.std.specs.Prelude.{Result}
use Rattle.bcder_content.specs.Here.{here, plain}
use Rattle.bcder_content.specs.declared.constructed.Constructed.{Constructed}
use Rattle.bcder_primitive.specs.declared.primitive.Primitive.{Primitive}
use Rattle.bcder_content.specs.ClosureReads.{Enters, NoneOf, Comes, Reader, ClosureReadsOn, PlainClosureReadsOn}
use Rattle.bcder_content.specs.Stops.{NoneAhead, EndsUnread, NamesTag}
use Rattle.bcder_content.proofs.Opening.{tree_head, opens_tag, front_moves, here_ends}
use Rattle.bcder_content.proofs.Windows.{Shown, one_tag, no_end_in, shown_whole}
use Rattle.bcder_content.proofs.Took.{took_front, ended_front, ended_none}

-- A fact for another reason.
pub weaker : {E P Q : Type 0} (e : DecodeError E) → (P → Q) → OnContent e P → OnContent e Q
weaker (Content x pos) f p = f p
weaker (Source x) f p = tt
weaker Memory f p = tt

pub only_weaker : {E P Q : Type 0} (e : DecodeError E) → (P → Q) → OnlyContent e P → OnlyContent e Q
only_weaker (Content x pos) f p = f p
only_weaker (Source x) f p = tt
only_weaker Memory f p = p

pub only_on : {E P Q : Type 0} (e : DecodeError E) → (P → Q) → OnlyContent e P → OnContent e Q
only_on (Content x pos) f p = f p
only_on (Source x) f p = tt
only_on Memory f p = tt

pub on_content : {E P : Type 0} (e : DecodeError E) → P → OnContent e P
on_content (Content x pos) p = p
on_content (Source x) p = tt
on_content Memory p = tt

-- End-of-contents is at hand where the content can end with it.
pub end_told : {v : View} {o : List ℕ} (b : Bool) → Shown 2 (left v) o → (IsTrue b → Begins IsEnd o 2) → (IsFalse b → Lacks IsEnd o) → IsTrue b ↔ ((w : View) × Moved v (0 ∷ 0 ∷ []) w)
end_told {v} {o} true s ends lacks = (λ y. here (ends y), λ h. refl)
  where
    here : Begins IsEnd o 2 → (w : View) × Moved v (0 ∷ 0 ∷ []) w
    here b =
        let e : o ≡ (0 ∷ 0 ∷ []) ++ b.rest = b.whole ∙ ap (λ (z : List ℕ). z ++ b.rest) b.is in
        let m = front_moves v (0 ∷ 0 ∷ []) _ (shown_whole (left v) (0 ∷ 0 ∷ []) b.rest s.count (sym s.is ∙ e)) in
        (m.0, m.1)
end_told {v} {o} false s ends lacks = (λ y. absurd (not_true y), λ h. absurd (no_end_in s (lacks refl) h.0 h.1))
  where
    not_true : false ≡ true → ⊥
    not_true e = absurd cc

-- The identifier of a tree in front is of its tag.
pub tree_of_tag : {m : Mode} {s rest : List ℕ} (u : Tree) → Front m s u rest → OfTag (tag_of u) s
tree_of_tag u f =
    let h = tree_head u f in
    let d = h.head.head in
    record {
      form = form_of u;
      identifier = d.identifier;
      rest = d.size ++ h.behind;
      tag = d.tag;
      is = d.identifier_is;
      whole = h.head.whole ∙ ap (λ (z : List ℕ). z ++ h.behind) d.whole ∙ append_assoc d.identifier d.size h.behind;
    }

-- After an identifier there is more than the end.
pub goes_on : {v : ValuesLeft} {tag : TagValue} → OfTag tag (left (octets v)) → Ended v → ⊥
goes_on {tag = tag} o e = identifier_goes_on o.identifier o.rest o.form tag o.tag o.is (subst Ends o.whole (ended_front e))

pub comes_of : {v : ValuesLeft} {tag : TagValue} → OfTag tag (left (octets v)) → Comes v tag
comes_of {v} {tag} o = record {
  tagged = λ t a. one_tag (tree_of_tag t (took_front a.1)) o;
  goes_on = goes_on o;
  other = λ sound w. w.apart (one_tag w.front o);
}

-- Identifier octets of another tag are next, or the content has ended.
pub unlike_other : {v : ValuesLeft} {tag : TagValue} → v.failed ≡ false → OfOther tag (left (octets v)) → Unlike v tag
unlike_other sound o = record {
  sound = sound;
  none = λ t a e. o.apart (one_tag o.front (tree_of_tag t (took_front a.1)) ∙ e);
  other = inr o;
}

pub unlike_ended : {v : ValuesLeft} {tag : TagValue} → Ended v → Unlike v tag
unlike_ended e = record { sound = e.sound; none = λ t a n. ended_none e a.1; other = inl e }

-- Where no identifier octets are next, no value is.
pub untold_none : {v : ValuesLeft} → Untold v → NoneAhead v
untold_none u = record { none = λ t a. (u.none a.1.goes.before).none (tag_of t) (tree_of_tag t (took_front a.1)) }

pub untold_comes : {v : ValuesLeft} {tag : TagValue} → Untold v → Comes v tag
untold_comes u = record {
  tagged = λ t a. absurd ((untold_none u).none t a);
  goes_on = u.goes_on;
  other = λ sound o. (u.none sound).none o.tag o.front;
}

-- On a content that has failed nothing comes.
pub untold_failed : {v : ValuesLeft} → v.failed ≡ true → Untold v
untold_failed {v} e = record { goes_on = λ h. unsound h.sound; none = λ s. absurd (unsound s) }
  where
    unsound : v.failed ≡ false → ⊥
    unsound s = let f : true ≡ false = sym e ∙ s in absurd cc

-- A value with the tag that was expected is next, so that none is named.
-- A closure answered that was given the values of the value in front, or its octets.
pub ran_on : {F S T E : Type 0} {rest : S → List ℕ} {g : Reader F (Constructed S) T E} {op : F} {old : ValuesLeft} {tag : TagValue} {span : Span} {r : Result T (DecodeError E)} (given left : Constructed S) → Enters old true tag span (here rest given) → FnOnceReturnsAtMut g op given r left → ClosureReadsOn rest g op old tag span r (here rest left)
ran_on given left n met = record { given = given; left = left; enters = n; met = met; ends = refl }

pub ran_plain : {F S T E : Type 0} {rest : S → List ℕ} {g : Reader F (Primitive S) T E} {op : F} {old : ValuesLeft} {tag : TagValue} {span : Span} {r : Result T (DecodeError E)} (given : Constructed S) (left : Primitive S) → Enters old false tag span (here rest given) → FnOnceReturnsAtMut g op given.octets r left → PlainClosureReadsOn rest g op old tag span r (plain rest left)
ran_plain given left n met = record {
  given = given.octets;
  left = left;
  enters = record { opens = n.opens; mode = n.mode; before = n.before; sound = n.sound };
  met = met;
  ends = refl;
}

pub tag_named : {E : Type 0} {old inner : ValuesLeft} {k : Bool} {tag : TagValue} {span : Span} (e : DecodeError E) → Enters old k tag span inner → OnContent e (NamesTag old tag e)
tag_named e n = on_content e (record { names = λ u a d. absurd (d (opens_tag u n.opens (took_front a.1)).0) })

pub tag_named_as : {E : Type 0} {old inner : ValuesLeft} {k : Bool} {tag found : TagValue} {span : Span} (e : DecodeError E) → found ≡ tag → Enters old k found span inner → OnContent e (NamesTag old tag e)
tag_named_as e s n = on_content e (record { names = λ u a d. absurd (d ((opens_tag u n.opens (took_front a.1)).0 ∙ s)) })

pub none_named : {E : Type 0} (old : ValuesLeft) (tag : TagValue) (e : DecodeError E) → OnlyContent e (NoneAhead old) → OnContent e (NamesTag old tag e)
none_named old tag e h = only_on e (λ n. record { names = λ u a d. absurd (n.none u a) }) h

pub none_failed : {v : ValuesLeft} → v.failed ≡ true → NoneAhead v
none_failed {v} e = record { none = λ t a. let f : true ≡ false = sym e ∙ a.1.goes.before in absurd cc }

-- Where no value is in front none is next.
pub none_ahead : {v : ValuesLeft} → NoValue v.mode (octets v) → NoneAhead v
none_ahead n = record { none = λ t a. n.none t _ (took_front a.1) }

-- A value was opened: no other tag and no other form is next.
pub other_tag : {old inner : ValuesLeft} {k : Bool} {t : TagValue} {span : Span} (tag : TagValue) (form : Bool) → Enters old k t span inner → (t ≡ tag → ⊥) → NoneOf old tag form
other_tag tag form n differ = record { none = λ u a e f. differ (sym (opens_tag u n.opens (took_front a.1)).0 ∙ e) }

pub other_form : {old inner : ValuesLeft} {k : Bool} {t : TagValue} {span : Span} (tag : TagValue) (form : Bool) → Enters old k t span inner → (k ≡ form → ⊥) → NoneOf old tag form
other_form tag form n differ = record { none = λ u a e f. differ (sym (opens_tag u n.opens (took_front a.1)).1 ∙ f) }

pub none_of : {v : ValuesLeft} (tag : TagValue) (form : Bool) → NoneAhead v → NoneOf v tag form
none_of tag form n = record { none = λ t a e f. n.none t a }

-- A content that can't be left goes on.
pub ends_unread : {v : View} {failed : Bool} (span : Span) → ((w : View) → Closes span v w → ⊥) → EndsUnread span failed v
ends_unread {v} span n = record { goes_on = λ s e. let w = here_ends span v e in n w.0 w.1 }

-- A content error, for a reason.
pub refused_by : {E P : Type 0} {r : DecodeError E} {x : ContentError} → ((pos : Pos) × (r ≡ Content x pos)) → P → OnlyContent r P
refused_by {E} {P} {r} {x} is p = subst (λ (e : DecodeError E). OnlyContent e P) (sym is.1) p
