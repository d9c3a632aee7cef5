-- Lack of memory in readers of strings.
use Rattle.std.proofs.Common.{◌≡◌, ℕ, Bool, true, false, List, Result, Ok, Err, refl, sym, ap, ◌∙◌, subst}
use Rattle.std.specs.Prelude.{IfErr}
use Rattle.std.specs.Result.{IsErr, IsErrAnd}
use denote.Ref.{MutBor}
use Rattle.bcder_octets.specs.bcder_tree.declared.mode.Mode.{Mode}
use Rattle.bcder_octets.specs.bcder_tree.declared.mode.Mode.TheVariants.{Der}
use Rattle.bcder_octets.specs.bcder_tree.Tags.{TagValue}
use Rattle.bcder_octets.specs.bcder_tree.Tree.{primitive}
use Rattle.bcder_octets.specs.bcder_tree.Strings.{IsOctetString, octet_string_tag}
use Rattle.bcder_octets.specs.bcder_source.declared.error.DecodeError.{DecodeError}
use Rattle.bcder_octets.specs.bcder_source.declared.error.DecodeError.TheVariants.{Content as content_error, Source, Memory}
use Rattle.bcder_octets.specs.bcder_content.declared.ending.Span.{Span}
use Rattle.bcder_octets.specs.bcder_primitive.Values.{AnyOctets}
use Rattle.bcder_octets.specs.bcder_content.declared.constructed.Constructed.{Constructed}
use Rattle.bcder_octets.specs.bcder_content.declared.content.Content.{Content}
use Rattle.bcder_octets.specs.bcder_content.Contents.{ValuesLeft}
use Rattle.bcder_octets.specs.bcder_content.Either.{Meeting, ValuesRun, RunsValues, form_in, in_octets, left_of}
use Rattle.bcder_octets.specs.bcder_content.Grammar.{OctetsOf}
use Rattle.bcder_octets.specs.bcder_content.Here.{here}
use Rattle.bcder_octets.specs.bcder_content.Memory.{OnMemory, TaggedErr}
use Rattle.bcder_octets.specs.bcder_content.ClosureReads.{Reader, Enters}
use Rattle.bcder_values.specs.bcder_content.Ahead.{HasOctets, HasNext, HasPrimitive}
use Rattle.bcder_values.proofs.of_bcder_content.Wants.{next_of}
use Rattle.bcder_octets.specs.Parts.{IsWhole}
use Rattle.bcder_octets.specs.Wants.{Piece, WantsString, in_one, in_parts, WantsNext, next_in_one, next_in_parts}

pub more : {E P Q : Type 0} (e : DecodeError E) → (P → Q) → OnMemory e P → OnMemory e Q
more (content_error x pos) f h = tt
more (Source x) f h = tt
more Memory f h = f h

pub memory_through : {E A : Type 0} (Q : Type 0) (r : Result A (DecodeError E)) (e : DecodeError E) → IsErr r → IsErrAnd r (λ x. x ≡ e) → OnMemory e Q → IfErr r (λ (x : DecodeError E). OnMemory x Q)
memory_through Q (Ok x) e i a h = tt
memory_through {E} Q (Err x) e i a h = subst (λ (y : DecodeError E). OnMemory y Q) (sym a) h

pub mapped : {E A P Q : Type 0} (r : Result A (DecodeError E)) → (P → Q) → IfErr r (λ (e : DecodeError E). OnMemory e P) → IfErr r (λ (e : DecodeError E). OnMemory e Q)
mapped (Ok x) f h = tt
mapped (Err e) f h = more e f h

-- A primitive content.
pub one_wants : {S T E : Type 0} (P : Piece) (rest : S → List ℕ) (c : Content S) (r : Result T (DecodeError E)) → IfErr r (λ (e : DecodeError E). OnMemory e (HasPrimitive rest (P (left_of rest c).mode) c)) → IfErr r (λ (e : DecodeError E). OnMemory e (WantsString P rest c))
one_wants P rest c (Ok x) h = tt
one_wants P rest c (Err e) h = more e (λ k. in_one k) h

-- A constructed one, which isn't read in DER.
pub parts_want : {F S T E : Type 0} (P : Piece) (rest : S → List ℕ) {g : Reader F (Constructed S) T E} {op : F} (c d : Content S) (r : Result T (DecodeError E))
    → ((p q : MutBor (Constructed S)) (r : Result T (DecodeError E)) → g.post op (p, tt) (r, (q, tt)) → IfErr r (λ (e : DecodeError E). OnMemory e ((here rest p.now).mode ≡ Der → ⊥)))
    → form_in c ≡ true → RunsValues rest g op c r d → IfErr r (λ (e : DecodeError E). OnMemory e (WantsString P rest c))
parts_want P rest c d (Ok x) each form h = tt
parts_want {S = S} {E = E} P rest {g} {op} c d (Err e) each form h =
    let run : ValuesRun rest g op true c.values.now (Err e) d.values.now = subst (λ (b : Bool). ValuesRun rest g op b c.values.now (Err e) d.values.now) form h.runs in
    let never = subst (λ (v : Constructed S). OnMemory e ((here rest v).mode ≡ Der → ⊥)) run.shows (each run.shown run.left (Err e) run.met) in
    more e (λ n. in_parts form n) never

-- On a constructed content it doesn't matter what pieces are.
pub parts_only : {S : Type 0} {P Q : Piece} {rest : S → List ℕ} {c : Content S} → form_in c ≡ true → WantsString P rest c → WantsString Q rest c
parts_only form w =
    elim w [
      | in_one k ↦ let e : true ≡ false = sym form ∙ k.primitive in absurd cc
      | in_parts f never ↦ in_parts f never
    ]

-- The next value, whose content a closure is given.
one_next : {S : Type 0} (P : Piece) (rest : S → List ℕ) (c : Content S) {old inner : ValuesLeft} {form : Bool} {tag : TagValue} {span : Span} → left_of rest c ≡ inner → form_in c ≡ form → Enters old form tag span inner → HasPrimitive rest (P (left_of rest c).mode) c → WantsNext P tag old
one_next P rest c {old} {inner} {form} {tag} {span} shows is n h =
    let primitive_form : form ≡ false = sym is ∙ h.primitive in
    let entered : Enters old false tag span inner = subst (λ (b : Bool). Enters old b tag span inner) primitive_form n in
    let there : HasOctets (P inner.mode) (in_octets inner) = subst (λ (v : ValuesLeft). HasOctets (P v.mode) (in_octets v)) shows h.octets in
    let here_mode : HasOctets (P old.mode) (in_octets inner) = subst (λ (m : Mode). HasOctets (P m) (in_octets inner)) n.mode there in
    next_in_one (next_of {inner = in_octets inner} {span = span} (record { opens = entered.opens; mode = n.mode; before = n.before; sound = n.sound }) here_mode)

parts_next : {S : Type 0} (P : Piece) (rest : S → List ℕ) (c : Content S) {old inner : ValuesLeft} {form : Bool} {tag : TagValue} {span : Span} → left_of rest c ≡ inner → form_in c ≡ form → Enters old form tag span inner → form_in c ≡ true → ((left_of rest c).mode ≡ Der → ⊥) → WantsNext P tag old
parts_next P rest c {old} {inner} {form} {tag} {span} shows is n f never =
    next_in_parts span inner (subst (λ (b : Bool). Enters old b tag span inner) (sym is ∙ f) n) (λ der. never (ap (λ (v : ValuesLeft). v.mode) shows ∙ n.mode ∙ der))

-- A meeting with a content, by a closure that wants memory only so.
pub record MeetsWanting {S T E : Type 0} (P : Piece) (rest : S → List ℕ) (form : Bool) (v : ValuesLeft) (r : Result T (DecodeError E)) : Type 0 where
  pub content : Content S
  pub shows : left_of rest content ≡ v
  pub form_is : form_in content ≡ form
  pub wants : IfErr r (λ (e : DecodeError E). OnMemory e (WantsString P rest content))

-- Each meeting is such.
pub record EachWants {S T E : Type 0} (P : Piece) (rest : S → List ℕ) (meets : Meeting T E) : Type 0 where
  pub each : (form : Bool) (tag : TagValue) (v : ValuesLeft) (r : Result T (DecodeError E)) (w : ValuesLeft) → meets form tag v r w → MeetsWanting P rest form v r

pub next_wants : {S T E : Type 0} (P : Piece) (rest : S → List ℕ) {meets : Meeting T E} (old : ValuesLeft) (tag : TagValue) (e : DecodeError E) → EachWants P rest meets → OnMemory e (TaggedErr meets old tag e) → OnMemory e (WantsNext P tag old)
next_wants P rest old tag (content_error x pos) each h = tt
next_wants P rest old tag (Source x) each h = tt
next_wants P rest old tag Memory each h =
    let m = each.each h.form tag h.ran.inner (Err Memory) h.end h.ran.met in
    let w : WantsString P rest m.content = m.wants in
    elim w [
      | in_one k ↦ one_next P rest m.content m.shows m.form_is h.ran.enters k
      | in_parts f never ↦ parts_next P rest m.content m.shows m.form_is h.ran.enters f never
    ]

pub value_wants : {S T A E : Type 0} (P : Piece) (rest : S → List ℕ) {meets : Meeting T E} (old : ValuesLeft) (tag : TagValue) (r : Result A (DecodeError E)) → EachWants P rest meets → IfErr r (λ (e : DecodeError E). OnMemory e (TaggedErr meets old tag e)) → IfErr r (λ (e : DecodeError E). OnMemory e (WantsNext P tag old))
value_wants P rest old tag (Ok x) each h = tt
value_wants P rest old tag (Err e) each h = next_wants P rest old tag e each h

-- In DER the next value is an OCTET STRING.
pub piece_next : {old : ValuesLeft} → HasNext (OctetsOf octet_string_tag AnyOctets) old → HasNext (IsOctetString Der) old
piece_next h = record { tree = h.tree; value = h.value; is = h.is.whole ∙ ap (λ (z : List ℕ). primitive octet_string_tag z) h.is.is.same; next = h.next }

pub der_next : {old : ValuesLeft} → old.mode ≡ Der → HasNext (IsOctetString Der) old → WantsNext IsWhole octet_string_tag old
der_next {old} der h = next_in_one (record {
  tree = h.tree;
  value = h.value;
  is = record { content = h.value; whole = h.is; is = subst (λ (m : Mode). IsWhole m h.value h.value) (sym der) (record { same = refl; fits = tt }) };
  next = h.next;
})
