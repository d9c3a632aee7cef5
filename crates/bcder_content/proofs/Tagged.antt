-- Readers of a value's content, whatever the value's tag: of octets, and of values with a tag.
use Rattle.std.proofs.Common.{◌≡◌, ℕ, Bool, true, false, List, Result, Ok, Err, Option, Some, None, refl, sym, ap, ◌∙◌, subst}
use Rattle.bcder_content.specs.bcder_tree.declared.mode.Mode.{Mode}
use Rattle.bcder_content.specs.bcder_tree.Tags.{TagValue}
use Rattle.bcder_content.specs.bcder_tree.Tree.{Tree, primitive}
use Rattle.bcder_content.specs.bcder_source.declared.error.DecodeError.{DecodeError}
use Rattle.bcder_content.specs.bcder_source.declared.error.DecodeError.TheVariants.{Content as content_error, Source, Memory}
use Rattle.bcder_content.proofs.Opening.{opens_tag}
use Rattle.bcder_primitive.specs.Plain.{OctetsLeft, LacksOctets, ReadsOctetsAs, plain}
use Rattle.bcder_primitive.proofs.Primitives.{weaker_content}
use Rattle.bcder_content.specs.declared.content.Content.{Content}
use Rattle.bcder_content.specs.Contents.{ValuesLeft, tag_of}
use Rattle.bcder_content.specs.Either.{Shows, SameContent, Meeting, none_wanted, any_refused, any_goes_on, TakesCases, Takes, TakesOptCases, TakesOpt, AnyKind, WithTag, ReadsInAs, ReadsContentAs}
use Rattle.bcder_content.specs.Exact.{Gives, Lacks, ReadsAs, ReadsOptAs}
use Rattle.bcder_content.specs.Grammar.{OctetsOf}
use Rattle.bcder_content.specs.Here.{here}
use Rattle.bcder_content.specs.Tagged.{ReadsTagged}
use Rattle.bcder_content.proofs.Anything.{AnyReads, exact_any}
use Rattle.bcder_content.proofs.Inside.{tagged_lacks}
use Rattle.bcder_content.proofs.Took.{took_front}

-- Octets of the grammar are a primitive value of the grammar.

pub octets_lack : {B : Type 0} {P : List ℕ → B → Type 0} {old : OctetsLeft} (tag : TagValue) → LacksOctets P old → LacksOctets (λ (c : List ℕ) (x : B). OctetsOf tag P (primitive tag c) x) old
octets_lack {P = P} tag l = record { none = λ c x p whole. let same : p.content ≡ c = cc in l.none c x (subst (λ (o : List ℕ). P o x) same p.is) whole }

pub octets_read : {A B E : Type 0} (f : A → B) (P : List ℕ → B → Type 0) (tag : TagValue) (old new : OctetsLeft) (r : Result A (DecodeError E)) → ReadsOctetsAs f P old r new → ReadsOctetsAs f (λ (c : List ℕ) (x : B). OctetsOf tag P (primitive tag c) x) old r new
octets_read f P tag old new (Ok x) g = record {
  text = g.text;
  is = record { content = g.text; whole = refl; is = g.is };
  goes = g.goes;
  only = λ on. octets_lack tag (g.only on);
}
octets_read f P tag old new (Err e) l = weaker_content e (octets_lack tag) l

-- The octets of a primitive value were read, whatever its tag.
pub octets_tagged_read : {A B S E : Type 0} {rest : S → List ℕ} {f : A → B} {P : List ℕ → B → Type 0} {old mid new : Content S} {r : Result A (DecodeError E)} → mid ≡ old → old.values.now.constructed ≡ false → SameContent mid new → ReadsOctetsAs f P (plain rest mid.values.now.octets) r (plain rest new.values.now.octets) → ReadsTagged rest f (λ (m : Mode) (tag : TagValue). OctetsOf tag P) old r new
octets_tagged_read {rest = rest} {f} {P} {old} {mid} {new} {r} begun form same h = record {
  same = subst (λ (c : Content _). SameContent c new) begun same;
  reads = λ tag.
      let k = subst (λ (c : Content _). ReadsOctetsAs f P (plain rest c.values.now.octets) r (plain rest new.values.now.octets)) begun h in
      subst (λ (b : Bool). ReadsInAs f (OctetsOf tag P) b tag (here rest old.values.now) r (here rest new.values.now)) (sym form) (octets_read f P tag (plain rest old.values.now.octets) (plain rest new.values.now.octets) r k);
}

-- Values with a tag, by closures that read their contents.

-- A meeting with a content, by a reader of it that knows no tag.
pub record MeetsTagged {A B S E : Type 0} (rest : S → List ℕ) (f : A → B) (P : Mode → TagValue → Tree → B → Type 0) (form : Bool) (v : ValuesLeft) (r : Result A (DecodeError E)) (w : ValuesLeft) : Type 0 where
  pub old : Content S
  pub new : Content S
  pub before : Shows rest old v
  pub behind : Shows rest new w
  pub form_is : old.values.now.constructed ≡ form
  pub reads : (tag : TagValue) → ReadsContentAs rest f (P (here rest old.values.now).mode tag) tag old r new

-- Each meeting is one by such a reader.
pub record EachTagged {A B S E : Type 0} (rest : S → List ℕ) (f : A → B) (P : Mode → TagValue → Tree → B → Type 0) (meets : Meeting A E) : Type 0 where
  pub each : (form : Bool) (tag : TagValue) (v : ValuesLeft) (r : Result A (DecodeError E)) (w : ValuesLeft) → meets form tag v r w → MeetsTagged rest f P form v r w

-- Values of the grammar for a tag have it.
pub record HasTag {B : Type 0} (P : Mode → TagValue → Tree → B → Type 0) : Type 0 where
  pub has : (m : Mode) (tag : TagValue) (t : Tree) (x : B) → P m tag t x → tag_of t ≡ tag

pub octets_have_tag : {B : Type 0} (P : List ℕ → B → Type 0) → HasTag (λ (m : Mode) (tag : TagValue). OctetsOf tag P)
octets_have_tag P = record { has = λ m tag t x p. ap tag_of p.whole }

-- The grammar for the tag that a value has.
abbrev Own : {B : Type 0} → (Mode → TagValue → Tree → B → Type 0) → Mode → Tree → B → Type 0
Own P m t x = P m (tag_of t) t x

own_form : {A B E : Type 0} (f : A → B) (P : Mode → TagValue → Tree → B → Type 0) (m : Mode) (form : Bool) (tag : TagValue) (v : ValuesLeft) (r : Result A (DecodeError E)) (w : ValuesLeft) → ReadsInAs f (P m tag) form tag v r w → ReadsInAs f (Own P m) form tag v r w
own_form f P m true tag v r w h = h
own_form f P m false tag v r w h = h

own_met : {A B S E : Type 0} {rest : S → List ℕ} {f : A → B} {P : Mode → TagValue → Tree → B → Type 0} (m : Mode) (form : Bool) (tag : TagValue) (v : ValuesLeft) (r : Result A (DecodeError E)) (w : ValuesLeft) → v.mode ≡ m → MeetsTagged rest f P form v r w → ReadsInAs f (Own P m) form tag v r w
own_met {rest = rest} {f} {P} m form tag v r w mode met =
    let k = met.old.values.now in
    let l = met.new.values.now in
    let n = (here rest k).mode in
    let one = subst (λ (b : Bool). ReadsInAs f (P n tag) b tag (here rest k) r (here rest l)) met.form_is (met.reads tag) in
    let two = subst (λ (z : ValuesLeft). ReadsInAs f (P z.mode tag) form tag z r (here rest l)) met.before.left_is one in
    let three = subst (λ (z : ValuesLeft). ReadsInAs f (P v.mode tag) form tag v r z) met.behind.left_is two in
    own_form f P m form tag v r w (subst (λ (k : Mode). ReadsInAs f (P k tag) form tag v r w) mode three)

own_lacks : {B : Type 0} (P : Mode → TagValue → Tree → B → Type 0) → HasTag P → (m : Mode) (tag : TagValue) {old : ValuesLeft} → Lacks (Own P m) old → Lacks (P m tag) old
own_lacks P has m tag l = record { none = λ t x p a. l.none t x (subst (λ (u : TagValue). P m u t x) (sym (has.has m tag t x p)) p) a }

module _ {A B S E : Type 0} {rest : S → List ℕ} {f : A → B} {P : Mode → TagValue → Tree → B → Type 0} {meets : Meeting A E} (has : HasTag P) (exact : EachTagged rest f P meets) where
  own_reads : (m : Mode) → AnyReads meets m f (Own P m)
  own_reads m = record { each = λ form tag v r w mode met. own_met m form tag v r w mode (exact.each form tag v r w met) }

  any_lacks : (tag : TagValue) (old new : ValuesLeft) (e : _) (pos : _) → Takes meets AnyKind old (Err (content_error e pos)) new → Lacks (P old.mode tag) old
  any_lacks tag old new e pos all = own_lacks P has old.mode tag (exact_any {r = Err (content_error e pos)} (record { wanted = λ t y s. tt }) (own_reads old.mode) all)

  own_cases : (tag : TagValue) (old new : ValuesLeft) (r : Result A (DecodeError E)) → TakesCases meets (WithTag tag) old r new → ReadsAs f (P old.mode tag) old r new
  own_cases tag old new (Ok x) h =
      let all : Takes meets AnyKind old (Ok x) new = record { cases = (h.0, h.1, h.2, h.3, tt, h.5, h.6) } in
      let given : Gives (Own P old.mode) old (f x) new = exact_any {r = Ok x} (record { wanted = λ t y s. tt }) (own_reads old.mode) all in
      let found = opens_tag given.tree h.5.enters.opens (took_front given.took) in
      record { tree = given.tree; is = subst (λ (u : TagValue). P old.mode u given.tree (f x)) (found.0 ∙ h.4) given.is; took = given.took }
  own_cases tag old new (Err (content_error e pos)) h = elim h [
    | none_wanted n ↦ record { none = λ t y s a. n t a (has.has old.mode tag t y s) }
    | any_refused form u span end on ↦ any_lacks tag old new e pos (record { cases = any_refused form u span end on })
    | any_goes_on form u span end y on unread ↦ any_lacks tag old new e pos (record { cases = any_goes_on form u span end y on unread })
  ]
  own_cases tag old new (Err (Source e)) h = tt
  own_cases tag old new (Err Memory) h = tt

  own_opt_cases : (tag : TagValue) (old new : ValuesLeft) (r : Result (Option A) (DecodeError E)) → TakesOptCases meets tag old r new → ReadsOptAs f tag (P old.mode tag) old r new
  own_opt_cases tag old new (Ok (Some x)) h = own_cases tag old new (Ok x) h.cases
  own_opt_cases tag old new (Ok None) h = h
  own_opt_cases tag old new (Err e) h = tagged_lacks (P old.mode tag) old tag e h.0 (own_cases tag old new (Err e) h.1.cases)

  -- A value of the tag.
  pub exact_tagged : {tag : TagValue} {old new : ValuesLeft} {r : Result A (DecodeError E)} → Takes meets (WithTag tag) old r new → ReadsAs f (P old.mode tag) old r new
  exact_tagged {tag} {old} {new} {r} h = own_cases tag old new r h.cases

  -- A value of the tag, where one is next.
  pub exact_tagged_opt : {tag : TagValue} {old new : ValuesLeft} {r : Result (Option A) (DecodeError E)} → TakesOpt meets tag old r new → ReadsOptAs f tag (P old.mode tag) old r new
  exact_tagged_opt {tag} {old} {new} {r} h = own_opt_cases tag old new r h.cases
