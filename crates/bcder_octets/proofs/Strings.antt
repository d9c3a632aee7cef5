-- Reading strings, by the readers of their contents.
use Rattle.std.proofs.Common.{◌≡◌, ◌↔◌, IsTrue, ℕ, ◌+◌, ◌≤◌, Bool, true, false, List, length, Result, Ok, Err, Option, Some, None, refl, sym, ap, ◌∙◌, subst, arith}
use denote.Ref.{MutBor}
use Rattle.bcder_octets.specs.bcder_tree.declared.mode.Mode.{Mode}
use Rattle.bcder_octets.specs.bcder_tree.declared.mode.Mode.TheVariants.{Ber, Cer, Der}
use Rattle.bcder_octets.specs.bcder_tree.Tags.{TagValue}
use Rattle.bcder_octets.specs.bcder_tree.Tree.{Tree, Trees, primitive, constructed}
use Rattle.bcder_octets.specs.bcder_tree.Strings.{IsString}
use Rattle.bcder_octets.specs.bcder_source.declared.error.DecodeError.{DecodeError}
use Rattle.bcder_octets.specs.bcder_source.declared.error.DecodeError.TheVariants.{Content as content_error, Source, Memory}
use Rattle.bcder_octets.specs.bcder_source.Views.{more_limit}
use Rattle.bcder_octets.specs.bcder_primitive.declared.primitive.Primitive.{Primitive}
use Rattle.bcder_octets.specs.bcder_primitive.Plain.{OctetsLeft, LacksOctets, GivesOctets, ReadsOctetsAs}
use Rattle.bcder_octets.specs.bcder_primitive.Values.{AnyOctets}
use Rattle.bcder_octets.specs.bcder_content.declared.constructed.Constructed.{Constructed}
use Rattle.bcder_octets.specs.bcder_content.declared.content.Content.{Content}
use Rattle.bcder_octets.specs.bcder_content.Contents.{ValuesLeft, tag_of}
use Rattle.bcder_octets.specs.bcder_content.Exact.{ReadsAllAs}
use Rattle.bcder_octets.specs.bcder_content.Here.{here, plain}
use Rattle.bcder_octets.specs.bcder_content.ClosureReads.{Reader}
use Rattle.bcder_octets.specs.bcder_content.Either.{SameContent, left_of, form_in, Shows, ReadsInAs, ReadsContentAs, OctetsRun, RunsOctets, ValuesRun, RunsValues}
use Rattle.bcder_octets.specs.bcder_content.Tagged.{ReadsTagged}
use Rattle.bcder_octets.proofs.of_bcder_content.Failing.{refused_still}
use Rattle.bcder_octets.proofs.of_bcder_content.Inside.{ReadsEach, each_met, PlainEach, plain_met}
use Rattle.bcder_octets.proofs.of_bcder_content.Tagged.{HasTag}
use Rattle.bcder_octets.proofs.Cuts.{not_so}
use Rattle.bcder_octets.specs.Parts.{FitsWhole, IsWhole, AreParts}

-- Contents of primitive values.

pub whole_string : (m : Mode) (tag : TagValue) (content octets : List ℕ) → IsWhole m content octets → IsString m tag (primitive tag content) octets
whole_string Ber tag content octets w = (refl, w.same)
whole_string Cer tag content octets w = (refl, w.same, w.fits)
whole_string Der tag content octets w = ap (λ (z : List ℕ). primitive tag z) w.same

pub string_whole : (m : Mode) (tag : TagValue) (content octets : List ℕ) → IsString m tag (primitive tag content) octets → IsWhole m content octets
string_whole Ber tag content octets s = record { same = s.1; fits = tt }
string_whole Cer tag content octets s = record { same = s.1; fits = s.2 }
string_whole Der tag content octets s = let same : content ≡ octets = cc (s) in record { same = same; fits = tt }

-- Of constructed ones.

parts_string : (m : Mode) (tag : TagValue) (ts : Trees) (octets : List ℕ) → AreParts m ts octets → IsString m tag (constructed tag ts) octets
parts_string Ber tag ts octets p = (refl, p)
parts_string Cer tag ts octets p = (refl, p.segments, p.long)
parts_string Der tag ts octets p = absurd p

string_parts : (m : Mode) (tag : TagValue) (ts : Trees) (octets : List ℕ) → IsString m tag (constructed tag ts) octets → AreParts m ts octets
string_parts Ber tag ts octets s = s.1
string_parts Cer tag ts octets s = record { segments = s.1; long = s.2 }
string_parts Der tag ts octets s = let e : constructed tag ts ≡ primitive tag octets = s in cc

string_tag : (m : Mode) (tag : TagValue) (t : Tree) (octets : List ℕ) → IsString m tag t octets → tag_of t ≡ tag
string_tag Ber tag (primitive u v) octets s = s.0
string_tag Ber tag (constructed u ts) octets s = s.0
string_tag Cer tag (primitive u v) octets s = s.0
string_tag Cer tag (constructed u ts) octets s = s.0
string_tag Der tag t octets s = ap tag_of s

-- A string has the tag that it is read with.
pub string_tagged : HasTag IsString
string_tagged = record { has = string_tag }

-- A refused reading stays so, whatever is done to the content then.
pub refused_string : {S E : Type 0} {rest : S → List ℕ} {old mid new : Content S} {e : DecodeError E} → SameContent mid new → ReadsTagged {A = List ℕ} rest (λ x. x) IsString old (Err e) mid → ReadsTagged {A = List ℕ} rest (λ x. x) IsString old (Err e) new
refused_string {rest = rest} {old} {mid} {new} {e} same h = record {
  same = record { reference = h.same.reference ∙ same.reference };
  reads = λ tag. refused_still (λ (x : List ℕ). x) (IsString (left_of rest old).mode tag) (form_in old) tag (left_of rest old) (left_of rest mid) (left_of rest new) e (h.reads tag);
}

-- Readers of grammars that say the same.

pub octets_same : {E : Type 0} {P Q : List ℕ → List ℕ → Type 0} (old new : OctetsLeft) (r : Result (List ℕ) (DecodeError E)) → ((c x : List ℕ) → P c x → Q c x) → ((c x : List ℕ) → Q c x → P c x) → ReadsOctetsAs (λ x. x) P old r new → ReadsOctetsAs (λ x. x) Q old r new
octets_same old new (Ok x) f g h = record { text = h.text; is = f h.text x h.is; goes = h.goes; only = λ on. record { none = λ t y q w. (h.only on).none t y (g t y q) w } }
octets_same old new (Err (content_error e pos)) f g h = record { none = λ t y q w. h.none t y (g t y q) w }
octets_same old new (Err (Source e)) f g h = tt
octets_same old new (Err Memory) f g h = tt

values_same : {E : Type 0} {P Q : Trees → List ℕ → Type 0} (old new : ValuesLeft) (r : Result (List ℕ) (DecodeError E)) → ((c : Trees) (x : List ℕ) → P c x → Q c x) → ((c : Trees) (x : List ℕ) → Q c x → P c x) → ReadsAllAs (λ x. x) P old r new → ReadsAllAs (λ x. x) Q old r new
values_same old new (Ok x) f g h = record { trees = h.trees; is = f h.trees x h.is; took = h.took; only = λ on. record { none = λ t y q w. (h.only on).none t y (g t y q) w } }
values_same old new (Err (content_error e pos)) f g h = record { none = λ t y q w. h.none t y (g t y q) w }
values_same old new (Err (Source e)) f g h = tt
values_same old new (Err Memory) f g h = tt

-- The content of a primitive value, by a grammar of octets that says the same as one of values.
pub primitive_reads : {F S E : Type 0} {rest : S → List ℕ} {g : Reader F (Primitive S) (List ℕ) E} {op : F} (P : Mode → List ℕ → List ℕ → Type 0) (Q : Mode → TagValue → Tree → List ℕ → Type 0)
    → ((m : Mode) (tag : TagValue) (content octets : List ℕ) → P m content octets → Q m tag (primitive tag content) octets) → ((m : Mode) (tag : TagValue) (content octets : List ℕ) → Q m tag (primitive tag content) octets → P m content octets)
    → (c d : Content S) (r : Result (List ℕ) (DecodeError E)) (tag : TagValue) (v : ValuesLeft) → ((p q : MutBor (Primitive S)) (r : Result (List ℕ) (DecodeError E)) → g.post op (p, tt) (r, (q, tt)) → ReadsOctetsAs (λ x. x) (P (plain rest p.now).mode) (plain rest p.now) r (plain rest q.now))
    → c.values.now.constructed ≡ false → RunsOctets rest g op c r d → Shows rest c v → ReadsContentAs rest (λ x. x) (Q v.mode tag) tag c r d
primitive_reads {F} {S} {E} {rest} {g} {op} P Q to from c d r tag v each form ran shows =
    let k = c.values.now in
    let l = d.values.now in
    let m : Mode = v.mode in
    let mode : (plain rest k.octets).mode ≡ m = ap (λ (w : ValuesLeft). w.mode) shows.left_is in
    let run : OctetsRun rest g op false k r l = subst (λ (b : Bool). OctetsRun rest g op b k r l) form ran.runs in
    let exact : PlainEach m rest g op (λ x. x) (P m) = record { each = λ p q s e h. subst (λ (z : Mode). ReadsOctetsAs (λ x. x) (P z) (plain rest p.now) s (plain rest q.now)) e (each p q s h) } in
    let read = plain_met exact k.octets l.octets r mode run.1 in
    subst (λ (b : Bool). ReadsInAs (λ x. x) (Q m tag) b tag (here rest k) r (here rest l)) (sym form)
    (octets_same (plain rest k.octets) (plain rest l.octets) r (to m tag) (from m tag) read)

-- The content of a constructed one.
pub constructed_read : {F S E : Type 0} {rest : S → List ℕ} {g : Reader F (Constructed S) (List ℕ) E} {op : F} (c d : Content S) (r : Result (List ℕ) (DecodeError E)) (tag : TagValue) (v : ValuesLeft) → ((p q : MutBor (Constructed S)) (r : Result (List ℕ) (DecodeError E)) → g.post op (p, tt) (r, (q, tt)) → ReadsAllAs (λ x. x) (AreParts (here rest p.now).mode) (here rest p.now) r (here rest q.now))
    → c.values.now.constructed ≡ true → RunsValues rest g op c r d → Shows rest c v → ReadsContentAs rest (λ x. x) (IsString v.mode tag) tag c r d
constructed_read {F} {S} {E} {rest} {g} {op} c d r tag v each form ran shows =
    let k = c.values.now in
    let l = d.values.now in
    let m : Mode = v.mode in
    let mode : (here rest k).mode ≡ m = ap (λ (w : ValuesLeft). w.mode) shows.left_is in
    let run : ValuesRun rest g op true k r l = subst (λ (b : Bool). ValuesRun rest g op b k r l) form ran.runs in
    let exact : ReadsEach m rest g op (λ x. x) (AreParts m) = record { each = λ p q s e h. subst (λ (z : Mode). ReadsAllAs (λ x. x) (AreParts z) (here rest p.now) s (here rest q.now)) e (each p q s h) } in
    let read = each_met exact k l r mode run in
    subst (λ (b : Bool). ReadsInAs (λ x. x) (IsString m tag) b tag (here rest k) r (here rest l)) (sym form)
    (values_same (here rest k) (here rest l) r (λ t x w. parts_string m tag t x w) (λ t x s. string_parts m tag t x s) read)

-- A string in one piece.

limit_grows : (n k : ℕ) (old new : Option ℕ) → old ≡ more_limit n new → old ≡ more_limit k (Some 0) → n ≤ k
limit_grows n k old None e f = let no : None ≡ Some (k + 0) = sym e ∙ f in absurd cc
limit_grows n k old (Some m) e f = let same : Some (n + m) ≡ Some (k + 0) = sym e ∙ f in let sizes : n + m ≡ k + 0 = cc in omega arith

fits_shorter : (m : Mode) (t x : List ℕ) → length x ≤ length t → FitsWhole m t → FitsWhole m x
fits_shorter Ber t x short f = tt
fits_shorter Cer t x short f = omega arith
fits_shorter Der t x short f = tt

pub whole_lacks : {m : Mode} {old : OctetsLeft} → LacksOctets AnyOctets old → LacksOctets (IsWhole m) old
whole_lacks l = record { none = λ t y w h. l.none t y (record { same = w.same }) h }

pub whole_gives : {m : Mode} {old new : OctetsLeft} {x : List ℕ} → GivesOctets AnyOctets old x new → FitsWhole m x → GivesOctets (IsWhole m) old x new
whole_gives {m} g f = record {
  text = g.text;
  is = record { same = g.is.same; fits = subst (FitsWhole m) (sym g.is.same) f };
  goes = g.goes;
  only = λ on. whole_lacks (g.only on);
}

pub too_long : {m : Mode} {old new : OctetsLeft} {x : List ℕ} → (FitsWhole m x → ⊥) → GivesOctets AnyOctets old x new → LacksOctets (IsWhole m) old
too_long {m} {old} {new} {x} never g = record {
  none = λ t y w h.
      let ends : old.limit ≡ more_limit (length t) (Some 0) = subst (λ (l : Option ℕ). old.limit ≡ more_limit (length t) l) h.drained.ends h.goes.moved.limit in
      let grows : length g.text ≤ length t = limit_grows (length g.text) (length t) old.limit new.limit g.goes.moved.limit ends in
      never (fits_shorter m t x (omega (arith, grows, ap length g.is.same)) w.fits);
}

-- A value that isn't primitive is constructed.
pub not_primitive : {r : Bool} (form : Bool) → IsTrue r ↔ (form ≡ false) → r ≡ false → form ≡ true
not_primitive true told is = refl
not_primitive false told is = absurd (not_so told is refl)
