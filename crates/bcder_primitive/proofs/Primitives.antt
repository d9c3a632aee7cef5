-- What a reading of a whole primitive content was.
use Rattle.std.proofs.Common.{◌≡◌, ℕ, zero, suc, ◌⊎◌, inl, inr, ◌+◌, ◌≤◌, Bool, true, false, List, ◌++◌, length, take, drop, Option, Some, None, Result, Ok, Err, refl, sym, ap, ◌∙◌, subst, arith}
use Rattle.std.specs.Result.{IsErr, IsErrAnd}
use Rattle.std.proofs.lemmas.List.{take-append-drop, length-take-le}
use Rattle.std.proofs.Math.Seq.{take-append_seam}
use Rattle.bcder_source.specs.Errors.{OnContent, OnlyContent, OnlyOctets}
use Rattle.bcder_source.specs.declared.error.DecodeError.{DecodeError}
use Rattle.bcder_source.specs.declared.error.DecodeError.TheVariants.{Content, Source, Memory}
use Rattle.bcder_source.specs.Views.{more_limit, Moved}
use Rattle.bcder_source.specs.Limits.{IsSpent}
use Rattle.bcder_primitive.specs.Values.{IsUnsigned, IsValue}
use Rattle.bcder_primitive.specs.Plain.{OctetsLeft, octets_in, Drained, WholeOctets, LacksOctets, GivesOctets, ReadsOctetsAs}

-- Where no source is read, none fails.
pub only_content : {E : Type 0} (F : Type 0) (e : DecodeError E) → OnlyOctets e F → OnlyContent e F
only_content F (Content error pos) h = h
only_content F (Source error) h = absurd h
only_content F Memory h = h

-- A refusal by what stands in front says less.
pub weaker : {E : Type 0} {F G : Type 0} (e : DecodeError E) → (F → G) → OnlyContent e F → OnContent e G
weaker (Content error pos) f h = f h
weaker (Source error) f h = tt
weaker Memory f h = absurd h

pub weaker_content : {E : Type 0} {F G : Type 0} (e : DecodeError E) → (F → G) → OnContent e F → OnContent e G
weaker_content (Content error pos) f h = f h
weaker_content (Source error) f h = tt
weaker_content Memory f h = tt

-- An error that `?` passes on.
pub through : {A B E : Type 0} (f : A → B) (P : List ℕ → B → Type 0) (old new : OctetsLeft) (r : Result A (DecodeError E)) (e : DecodeError E) → IsErr r → IsErrAnd r (λ x. x ≡ e) → OnContent e (LacksOctets P old) → ReadsOctetsAs f P old r new
through f P old new (Ok x) e i a h = absurd cc
through {E = E} f P old new (Err x) e i a h = subst (λ (y : DecodeError E). OnContent y (LacksOctets P old)) (sym a) h

-- All octets of a content are as many as its limit says, and stand in front.
pub whole_is : {p : OctetsLeft} {text : List ℕ} {n : ℕ} → p.limit ≡ Some n → WholeOctets p text → (text ≡ take n p.rest) × (length text ≡ n)
whole_is {p} {text} {n} e w =
    let limit : Some n ≡ more_limit (length text) (Some 0) = sym e ∙ w.goes.moved.limit ∙ ap (more_limit (length text)) w.drained.ends in
    let same : n ≡ length text + 0 = cc in
    let long : length text ≡ n = omega arith in
    (sym (take-append_seam text w.behind.rest) ∙ ap (λ (z : List ℕ). take (length text) z) (sym w.goes.moved.rest) ∙ ap (λ (z : ℕ). take z p.rest) long, long)

-- All octets of a content are one row.
pub same_octets : {p : OctetsLeft} {s t : List ℕ} → WholeOctets p s → WholeOctets p t → s ≡ t
same_octets {p} {s} {t} v w =
    let limit : p.limit ≡ Some (length t + 0) = w.goes.moved.limit ∙ ap (more_limit (length t)) w.drained.ends in
    (whole_is limit v).0 ∙ sym (whole_is limit w).0

-- What lacks its octets lacks all.
pub lacks_whole : {A : Type 0} (P : List ℕ → A → Type 0) {p : OctetsLeft} {n : ℕ} → p.limit ≡ Some n → ((x : A) → P (take n p.rest) x → ⊥) → LacksOctets P p
lacks_whole {A} P {p} {n} e none = record { none = λ text x is w. none x (subst (λ (z : List ℕ). P z x) (whole_is e w).0 is) }

-- The grammar has only few octets, and no such content is there.
pub lacks_few : {A E : Type 0} (P : List ℕ → A → Type 0) (p : OctetsLeft) {most : ℕ} (e : DecodeError E) → ((text : List ℕ) (x : A) → P text x → length text ≤ most)
    → OnlyContent e ((text : List ℕ) → length text ≤ most → WholeOctets p text → ⊥) → OnContent e (LacksOctets P p)
lacks_few P p e few h = weaker e (λ none. record { none = λ text x is w. none text (few text x is) w }) h

-- All octets of a content were read, and they are of the grammar.
pub gives_whole : {A : Type 0} (P : List ℕ → A → Type 0) {old new : OctetsLeft} {n : ℕ} {x : A} → old.failed ≡ false → old.limit ≡ Some n → n ≤ length old.rest → P (take n old.rest) x
    → new ≡ record old { rest = drop n old.rest; limit = Some 0 } → GivesOctets P old x new
gives_whole {A} P {old} {new} {n} {x} sound limit there is e =
    let long : length (take n old.rest) ≡ n = length-take-le n old.rest there in
    let rest : new.rest ≡ drop n old.rest = ap (λ (v : OctetsLeft). v.rest) e in
    let ends : new.limit ≡ Some 0 = ap (λ (v : OctetsLeft). v.limit) e in
    let fails : new.failed ≡ old.failed = ap (λ (v : OctetsLeft). v.failed) e in
    record {
      text = take n old.rest;
      is = is;
      goes = record {
        moved = record {
          rest = sym (take-append-drop n old.rest) ∙ ap (λ (z : List ℕ). take n old.rest ++ z) (sym rest);
          limit = limit ∙ ap (λ (z : ℕ). Some z) (omega (arith, long)) ∙ ap (more_limit (length (take n old.rest))) (sym ends);
        };
        mode = ap (λ (v : OctetsLeft). v.mode) e;
        before = sound;
        behind = fails ∙ sound;
      };
      only = λ goes_on. absurd (goes_on (record { sound = fails ∙ sound; ends = ends }));
    }

-- What was read ends the content, or nothing does.
pub spent_only : {A : Type 0} (P : List ℕ → A → Type 0) {old new : OctetsLeft} {text : List ℕ} → Moved (octets_in old) text (octets_in new) → IsSpent new.limit new.rest → new.failed ≡ false → (Drained new → ⊥) → LacksOctets P old
spent_only {A} P {old} {new} {text} moved spent sound goes_on = at new.limit refl
  where
    at : (l : Option ℕ) → new.limit ≡ l → LacksOctets P old
    at None e = record {
      none = λ t x is w.
          let limit : None ≡ more_limit (length t) (Some 0) = sym (moved.limit ∙ ap (more_limit (length text)) e) ∙ w.goes.moved.limit ∙ ap (more_limit (length t)) w.drained.ends in
          absurd cc;
    }
    at (Some n) e =
        let h : n ≡ 0 = subst (λ (l : Option ℕ). IsSpent l new.rest) e spent in
        absurd (goes_on (record { sound = sound; ends = e ∙ ap (λ (z : ℕ). Some z) h }))

-- All that is left was read.
pub gives_rest : {A : Type 0} (P : List ℕ → A → Type 0) {old new : OctetsLeft} {text : List ℕ} {x : A} → P text x → old.failed ≡ false → Moved (octets_in old) text (octets_in new) → IsSpent new.limit new.rest
    → new.mode ≡ old.mode → new.failed ≡ old.failed → GivesOctets P old x new
gives_rest P {text = text} is sound moved spent mode kept = record { text = text; is = is; goes = record { moved = moved; mode = mode; before = sound; behind = kept ∙ sound }; only = spent_only P moved spent (kept ∙ sound) }

-- The octets of the whole content are of no value of the grammar.
pub refused_whole : {A E : Type 0} (P : List ℕ → A → Type 0) {p q : OctetsLeft} {n : ℕ} {s : List ℕ} (e : DecodeError E) → q ≡ p → p.limit ≡ Some n → s ≡ take n q.rest → ((x : A) → P s x → ⊥) → OnlyContent e (Unit {0}) → OnContent e (LacksOctets P p)
refused_whole {A} P {p} {q} {n} {s} e same limit front none h =
    let all : s ≡ take n p.rest = front ∙ ap (λ (v : OctetsLeft). take n v.rest) same in
    weaker e (λ u. lacks_whole P limit (λ x is. none x (subst (λ (z : List ℕ). P z x) (sym all) is))) h

-- A content that has ended, or not.
ended_or_not : (p : OctetsLeft) → Drained p ⊎ (Drained p → ⊥)
ended_or_not p = at p.failed p.limit refl refl
  where
    at : (b : Bool) (l : Option ℕ) → p.failed ≡ b → p.limit ≡ l → Drained p ⊎ (Drained p → ⊥)
    at true l e f = inr (λ d. let h : true ≡ false = sym e ∙ d.sound in absurd cc)
    at false None e f = inr (λ d. let h : None ≡ Some 0 = sym f ∙ d.ends in absurd cc)
    at false (Some zero) e f = inl (record { sound = e; ends = f })
    at false (Some (suc n)) e f = inr (λ d. let h : Some (suc n) ≡ Some 0 = sym f ∙ d.ends in let k : suc n ≡ 0 = cc in absurd (omega arith))

-- The value that was read is that very value.
pub value_given : {A : Type 0} (P : List ℕ → A → Type 0) {old new : OctetsLeft} {x y : A} → x ≡ y → GivesOctets P old x new → GivesOctets (IsValue P y) old tt new
value_given {A} P {old} {y = y} e g = record {
  text = g.text;
  is = record { is = subst (λ (z : A). P g.text z) e g.is };
  goes = g.goes;
  only = λ goes_on. record { none = λ t x is w. (g.only goes_on).none t y is.is w };
}

-- Another value was read, so the content isn't of that one.
pub other_value : {A : Type 0} (P : List ℕ → A → Type 0) {old new : OctetsLeft} {x y : A} → ((t : List ℕ) → P t x → P t y → x ≡ y) → (x ≡ y → ⊥) → GivesOctets P old x new → LacksOctets (IsValue P y) old
other_value {A} P {old} {new} {x} {y} one other g =
    elim (ended_or_not new) [
      | inl d ↦ record {
        none = λ t u is w.
            let whole : WholeOctets old g.text = record { behind = new; goes = g.goes; drained = d } in
            other (one t (subst (λ (z : List ℕ). P z x) (same_octets whole w) g.is) is.is);
      }
      | inr goes_on ↦ record { none = λ t u is w. (g.only goes_on).none t y is.is w }
    ]

-- A content is one number.
pub one_unsigned : {bound : ℕ} (t : List ℕ) (x y : ℕ) → IsUnsigned bound t x → IsUnsigned bound t y → x ≡ y
one_unsigned t x y a b = sym a.value ∙ b.value
