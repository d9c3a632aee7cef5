-- Reading strings whose octets are a text.
use Rattle.std.proofs.Common.{◌≡◌, ℕ, Bool, true, false, List, Result, Ok, Err, IsErr, Option, sym, ◌∙◌, subst}
use Rattle.std.specs.Prelude.{IsErrAnd}
use Rattle.bcder.specs.bcder_tree.declared.mode.Mode.{Mode}
use Rattle.bcder.specs.bcder_tree.Tags.{TagValue, octet_string_tag}
use Rattle.bcder.specs.bcder_tree.Tree.{primitive}
use Rattle.bcder.specs.bcder_tree.Strings.{IsString}
use Rattle.bcder.specs.Texts.{IsText}
use Rattle.bcder.specs.bcder_source.declared.error.DecodeError.{DecodeError}
use Rattle.bcder.specs.bcder_content.declared.content.Content.{Content}
use Rattle.bcder.specs.bcder_content.Contents.{ValuesLeft}
use Rattle.bcder.specs.bcder_content.Exact.{ReadsAs, ReadsOptAs}
use Rattle.bcder.specs.bcder_content.Here.{here}
use Rattle.bcder.specs.bcder_content.Memory.{OnMemory, TaggedErr}
use Rattle.bcder.specs.bcder_content.Either.{SameContent, Meeting, form_in, left_of, Takes, TakesOpt, WithTag, ReadsInAs}
use Rattle.bcder.specs.bcder_content.Tagged.{ReadsTagged}
use Rattle.bcder.proofs.of_bcder_content.Failing.{refused_still}
use Rattle.bcder.proofs.of_bcder_content.Tagged.{HasTag, EachTagged, exact_tagged, exact_tagged_opt}
use Rattle.bcder.proofs.of_bcder_content.Within.{Within, content_gives, content_stop, content_unfit}
use Rattle.bcder_octets.proofs.Meaning.{one_string}
use Rattle.bcder_octets.proofs.Strings.{string_tagged, whole_string, string_whole}
use Rattle.bcder_octets.proofs.Wanting.{EachWants, next_wants}
use Rattle.bcder.specs.Restricted.{IsRestricted, IsWholeText, WantsText}

-- A restricted string has the tag that it is read with,
pub text_tagged : {Has : ℕ → Type 0} {spell : ℕ → List ℕ} → HasTag (IsRestricted Has spell)
text_tagged = record { has = λ m tag t x p. string_tagged.has m tag t x p.is }

-- and is a string.
is_string : (Has : ℕ → Type 0) (spell : ℕ → List ℕ) (m : Mode) (tag : TagValue) → Within (IsRestricted Has spell m tag) (IsString m tag)
is_string Has spell m tag t x p = (x, p.is)

-- Octets in one piece, as a primitive value.
pub whole_text : {Has : ℕ → Type 0} {spell : ℕ → List ℕ} (m : Mode) (tag : TagValue) (content octets : List ℕ) → IsWholeText Has spell m content octets → IsRestricted Has spell m tag (primitive tag content) octets
whole_text m tag content octets w = record { is = whole_string m tag content octets w.whole; meets = w.text }

pub text_whole : {Has : ℕ → Type 0} {spell : ℕ → List ℕ} (m : Mode) (tag : TagValue) (content octets : List ℕ) → IsRestricted Has spell m tag (primitive tag content) octets → IsWholeText Has spell m content octets
text_whole m tag content octets s = record { whole = string_whole m tag content octets s.is; text = s.meets }

-- A refused reading stays so, whatever is done to the content then.
pub refused_text : {S E : Type 0} {rest : S → List ℕ} {Has : ℕ → Type 0} {spell : ℕ → List ℕ} {old mid new : Content S} {e : DecodeError E} → SameContent mid new → ReadsTagged {A = List ℕ} {S = S} {E = E} rest (λ x. x) (IsRestricted Has spell) old (Err e) mid → ReadsTagged {A = List ℕ} {S = S} {E = E} rest (λ x. x) (IsRestricted Has spell) old (Err e) new
refused_text {rest = rest} {Has} {spell} {old} {mid} {new} {e} same h = record {
  same = record { reference = h.same.reference ∙ same.reference };
  reads = λ tag. refused_still (λ (x : List ℕ). x) (IsRestricted Has spell (left_of rest old).mode tag) (form_in old) tag (left_of rest old) (left_of rest mid) (left_of rest new) e (h.reads tag);
}

-- The octets are a text.
pub text_given : {S E : Type 0} {rest : S → List ℕ} {Has : ℕ → Type 0} {spell : ℕ → List ℕ} {old new : Content S} {x : List ℕ} → ReadsTagged {A = List ℕ} {S = S} {E = E} rest (λ x. x) IsString old (Ok x) new → IsText Has spell x → ReadsTagged {A = List ℕ} {S = S} {E = E} rest (λ x. x) (IsRestricted Has spell) old (Ok x) new
text_given {E = E} {rest = rest} {Has} {spell} {old} {new} {x} h text = record {
  same = h.same;
  reads = λ tag. let v = here rest old.values.now in content_gives E (λ (y : List ℕ). y) (λ (y : List ℕ). y) (IsString v.mode tag) (IsRestricted Has spell v.mode tag) old.values.now.constructed tag (here rest old.values.now) (here rest new.values.now)
      (λ t is. record { is = is; meets = text }) (is_string Has spell v.mode tag) (h.reads tag);
}

-- No string is there.
pub text_stopped : {S E : Type 0} {rest : S → List ℕ} {Has : ℕ → Type 0} {spell : ℕ → List ℕ} {old new : Content S} (r : Result (List ℕ) (DecodeError E)) {e : DecodeError E} → IsErr r × IsErrAnd r (λ x. x ≡ e) → ReadsTagged {A = List ℕ} {S = S} {E = E} rest (λ x. x) IsString old (Err e) new → ReadsTagged {A = List ℕ} {S = S} {E = E} rest (λ x. x) (IsRestricted Has spell) old r new
text_stopped {rest = rest} {Has} {spell} {old} {new} r {e} a h = record {
  same = h.same;
  reads = λ tag. let v = here rest old.values.now in content_stop (λ (y : List ℕ). y) (λ (y : List ℕ). y) (IsString v.mode tag) (IsRestricted Has spell v.mode tag) old.values.now.constructed tag (here rest old.values.now) (here rest new.values.now)
      r e a (is_string Has spell v.mode tag) (h.reads tag);
}

-- A string is there, whose octets are no text.
pub text_refused : {S E : Type 0} {rest : S → List ℕ} {Has : ℕ → Type 0} {spell : ℕ → List ℕ} {old mid new : Content S} {x : List ℕ} (e : DecodeError E) → (IsText Has spell x → ⊥) → SameContent mid new → ReadsTagged {A = List ℕ} {S = S} {E = E} rest (λ x. x) IsString old (Ok x) mid → ReadsTagged {A = List ℕ} {S = S} {E = E} rest (λ x. x) (IsRestricted Has spell) old (Err e) new
text_refused {rest = rest} {Has} {spell} {old} {mid} {new} {x} e never same h = record {
  same = record { reference = h.same.reference ∙ same.reference };
  reads = λ tag. let v = here rest old.values.now in content_unfit (λ (y : List ℕ). y) (λ (y : List ℕ). y) (IsString v.mode tag) (IsRestricted Has spell v.mode tag) old.values.now.constructed tag (here rest old.values.now) (here rest mid.values.now) (here rest new.values.now)
      e (λ t z p is. never (subst (IsText Has spell) (sym (one_string v.mode tag t x z is p.is)) p.meets)) (is_string Has spell v.mode tag) (h.reads tag);
}

-- What was read is a text.
text_in : (E : Type 0) {Has : ℕ → Type 0} {spell : ℕ → List ℕ} (m : Mode) (tag : TagValue) (form : Bool) (old new : ValuesLeft) (x : List ℕ) → ReadsInAs {E = E} (λ x. x) (IsRestricted Has spell m tag) form tag old (Ok x) new → IsText Has spell x
text_in E m tag true old new x g = g.is.meets
text_in E m tag false old new x g = g.is.meets

pub is_text : {S E : Type 0} {rest : S → List ℕ} {Has : ℕ → Type 0} {spell : ℕ → List ℕ} {old new : Content S} {x : List ℕ} → ReadsTagged {A = List ℕ} {S = S} {E = E} rest (λ x. x) (IsRestricted Has spell) old (Ok x) new → IsText Has spell x
is_text {E = E} {rest = rest} {Has} {spell} {old} {new} {x} h =
    let v = here rest old.values.now in
    text_in E v.mode octet_string_tag old.values.now.constructed v (here rest new.values.now) x (h.reads octet_string_tag)

-- Values with the tag.

pub text_taken : {S E : Type 0} {rest : S → List ℕ} {Has : ℕ → Type 0} {spell : ℕ → List ℕ} {meets : Meeting (List ℕ) E} {tag own : TagValue} {old new : ValuesLeft} {r : Result (List ℕ) (DecodeError E)} → tag ≡ own → Takes meets (WithTag tag) old r new → EachTagged rest (λ x. x) (IsRestricted Has spell) meets → ReadsAs (λ x. x) (IsRestricted Has spell old.mode own) old r new
text_taken {Has = Has} {spell} {old = old} {new} {r} e h exact = subst (λ (t : TagValue). ReadsAs (λ x. x) (IsRestricted Has spell old.mode t) old r new) e (exact_tagged text_tagged exact h)

pub text_taken_opt : {S E : Type 0} {rest : S → List ℕ} {Has : ℕ → Type 0} {spell : ℕ → List ℕ} {meets : Meeting (List ℕ) E} {tag own : TagValue} {old new : ValuesLeft} {r : Result (Option (List ℕ)) (DecodeError E)} → tag ≡ own → TakesOpt meets tag old r new → EachTagged rest (λ x. x) (IsRestricted Has spell) meets → ReadsOptAs (λ x. x) own (IsRestricted Has spell old.mode own) old r new
text_taken_opt {Has = Has} {spell} {old = old} {new} {r} e h exact = subst (λ (t : TagValue). ReadsOptAs (λ x. x) t (IsRestricted Has spell old.mode t) old r new) e (exact_tagged_opt text_tagged exact h)

-- A text that is wanted under its own tag.
pub text_wants : {S T E : Type 0} {rest : S → List ℕ} {Has : ℕ → Type 0} {spell : ℕ → List ℕ} {meets : Meeting T E} {tag own : TagValue} (old : ValuesLeft) (e : DecodeError E) → tag ≡ own → EachWants (IsWholeText Has spell) rest meets → OnMemory e (TaggedErr meets old tag e) → OnMemory e (WantsText Has spell own old)
text_wants {rest = rest} {Has} {spell} {tag = tag} old e same each h =
    subst (λ (t : TagValue). OnMemory e (WantsText Has spell t old)) same (next_wants (IsWholeText Has spell) rest old tag e each h)
