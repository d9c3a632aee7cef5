-- Lines of a text: at most one stands in front, and where.
use Rattle.std.proofs.Common.{◌≡◌, ◌≢◌, ◌⊎◌, inl, inr, ℕ, suc, ◌+◌, ◌<◌, ◌==◌, Bool, true, false, not, cond, List, [], ◌∷◌, ◌++◌, length, take, drop, refl, sym, ap, ◌∙◌, subst, append-nil, append_assoc, arith, eqb-true, length-append, All}
use Rattle.std.specs.List.{position_or_len}
use Rattle.std.proofs.lemmas.List.Elements.{All-nil, All-cons, All-append, All-head, All-tail}
use Rattle.std.proofs.lemmas.Bool.Decides.{nat_tests}
use Rattle.objects_payload.specs.Locators.{NoReturnAtEnd, EndsLine, AreLines, IsComment}
use Rattle.objects_payload.proofs.Locators.{same_before, to_feed}
use Rattle.objects_payload.specs.Lines.{IsEndedBy, HasLine, NoLine, HasComment, NoComment, HasComments}

-- No LF.
abbrev Plain : List ℕ → Type 0
Plain text = All (λ c. c ≢ 10) text

plain_left : (a b : List ℕ) → Plain (a ++ b) → Plain a
plain_left [] b h = All-nil (λ c. c ≢ 10)
plain_left (c ∷ a) b h = All-cons (λ c. c ≢ 10) c a (All-head (λ c. c ≢ 10) c (a ++ b) h) (plain_left a b (All-tail (λ c. c ≢ 10) c (a ++ b) h))

plain_right : (a b : List ℕ) → Plain (a ++ b) → Plain b
plain_right [] b h = h
plain_right (c ∷ a) b h = plain_right a b (All-tail (λ c. c ≢ 10) c (a ++ b) h)

no_feed : (a b : List ℕ) → Plain (a ++ 10 ∷ b) → ⊥
no_feed a b h = All-head (λ c. c ≢ 10) 10 b (plain_right a (10 ∷ b) h) refl

-- The first LF.

abbrev is_feed : ℕ → Bool
is_feed c = c == 10

feeds : (c : ℕ) → is_feed c ≡ true → c ≡ 10
feeds c e = eqb-true c 10 e

feeds_not : (c : ℕ) → is_feed c ≡ false → c ≢ 10
feeds_not c e f = grind (arith, nat_tests)

-- It stands at this place, and none before it.
pub record FeedsAt (n : ℕ) (text : List ℕ) : Type 0 where
  pub before : Plain (take n text)
  pub whole : text ≡ take n text ++ 10 ∷ drop (n + 1) text

feeds_later : (c : ℕ) (text : List ℕ) (n : ℕ) → c ≢ 10 → FeedsAt n text → FeedsAt (suc n) (c ∷ text)
feeds_later c text n h f = record {
  before = All-cons (λ c. c ≢ 10) c (take n text) h f.before;
  whole = let more : suc n + 1 ≡ suc (n + 1) = omega arith in
      ap (λ (z : List ℕ). c ∷ z) f.whole ∙ ap (λ (k : ℕ). c ∷ (take n text ++ 10 ∷ drop k (c ∷ text))) (sym more);
}

later : (c : ℕ) (text : List ℕ) → c ≢ 10 → FeedsAt (position_or_len is_feed text) text → FeedsAt (1 + position_or_len is_feed text) (c ∷ text)
later c text h f =
    let one : suc (position_or_len is_feed text) ≡ 1 + position_or_len is_feed text = omega arith in
    subst (λ (n : ℕ). FeedsAt n (c ∷ text)) one (feeds_later c text (position_or_len is_feed text) h f)

feeds_at : (text : List ℕ) → position_or_len is_feed text < length text → FeedsAt (position_or_len is_feed text) text
feeds_at [] h = absurd (omega arith)
feeds_at (c ∷ text) h =
    let P : Bool → Type 0 = λ b. (b ≡ true → c ≡ 10) → (b ≡ false → c ≢ 10) → cond (not b) (1 + position_or_len is_feed text) 0 < suc (length text) → FeedsAt (cond (not b) (1 + position_or_len is_feed text) 0) (c ∷ text) in
    (elim (is_feed c) as P [
      | true ↦ λ y n h. record { before = All-nil (λ c. c ≢ 10); whole = ap (λ (z : ℕ). z ∷ text) (y refl) }
      | false ↦ λ y n h. later c text (n refl) (feeds_at text (omega (arith, h)))
    ]) (feeds c) (feeds_not c) h

-- The first LF stands at the place that was found.
pub feeds_here : (text : List ℕ) (n : ℕ) → n ≡ position_or_len (λ c. c == 10) text → n < length text → FeedsAt n text
feeds_here text n e h = subst (λ (k : ℕ). FeedsAt k text) (sym e) (feeds_at text (subst (λ (k : ℕ). k < length text) e h))

no_line : (text : List ℕ) → position_or_len is_feed text ≡ length text → NoLine text
no_line [] h = All-nil (λ c. c ≢ 10)
no_line (c ∷ text) h =
    let P : Bool → Type 0 = λ b. (b ≡ false → c ≢ 10) → cond (not b) (1 + position_or_len is_feed text) 0 ≡ suc (length text) → NoLine (c ∷ text) in
    (elim (is_feed c) as P [
      | true ↦ λ n h. absurd (omega (arith, h))
      | false ↦ λ n h. All-cons (λ c. c ≢ 10) c text (n refl) (no_line text (omega (arith, h)))
    ]) (feeds_not c) h

pub feeds_nowhere : (text : List ℕ) (n : ℕ) → n ≡ position_or_len (λ c. c == 10) text → n ≡ length text → NoLine text
feeds_nowhere text n e h = no_line text (sym e ∙ h)

-- CR at the end.

pub no_return : (line : List ℕ) → ((front : List ℕ) → line ≢ front ++ 13 ∷ []) → NoReturnAtEnd line
no_return [] h = tt
no_return (c ∷ []) h = λ e. h [] (ap (λ (z : ℕ). z ∷ []) e)
no_return (c ∷ d ∷ line) h = no_return (d ∷ line) (λ front e. h (c ∷ front) (ap (λ (z : List ℕ). c ∷ z) e))

returns_not : (line : List ℕ) → NoReturnAtEnd (line ++ 13 ∷ []) → ⊥
returns_not [] n = n refl
returns_not (c ∷ []) n = n refl
returns_not (c ∷ d ∷ line) n = returns_not (d ∷ line) n

-- A line in front, by what stands before LF.

pub line_is : (line rest ended text : List ℕ) → Plain ended → IsEndedBy ended line → text ≡ ended ++ 10 ∷ rest → HasLine line rest text
line_is line rest ended text p (inl e) w =
    record {
      front = line ++ 10 ∷ [];
      ends = record { one_line = subst Plain e.0 p; end = inl (refl, e.1) };
      whole = w ∙ ap (λ (z : List ℕ). z ++ 10 ∷ rest) e.0 ∙ sym (append_assoc line (10 ∷ []) rest);
    }
line_is line rest ended text p (inr e) w =
    record {
      front = line ++ 13 ∷ 10 ∷ [];
      ends = record { one_line = plain_left line (13 ∷ []) (subst Plain e p); end = inr refl };
      whole = w ∙ ap (λ (z : List ℕ). z ++ 10 ∷ rest) e ∙ append_assoc line (13 ∷ []) (10 ∷ rest) ∙ sym (append_assoc line (13 ∷ 10 ∷ []) rest);
    }

-- What stands before LF.
record Ended (line rest text : List ℕ) : Type 0 where
  pub ended : List ℕ
  pub plain : Plain ended
  pub is : IsEndedBy ended line
  pub whole : text ≡ ended ++ 10 ∷ rest

ended_from : (line rest text front : List ℕ) → Plain line → text ≡ front ++ rest → ((front ≡ line ++ 10 ∷ []) × NoReturnAtEnd line) ⊎ (front ≡ line ++ 13 ∷ 10 ∷ []) → Ended line rest text
ended_from line rest text front p w (inl e) = record {
  ended = line;
  plain = p;
  is = inl (refl, e.1);
  whole = w ∙ ap (λ (z : List ℕ). z ++ rest) e.0 ∙ append_assoc line (10 ∷ []) rest;
}
ended_from line rest text front p w (inr e) = record {
  ended = line ++ 13 ∷ [];
  plain = All-append (λ c. c ≢ 10) line (13 ∷ []) p (All-cons (λ c. c ≢ 10) 13 [] (λ f. omega (arith, f)) (All-nil (λ c. c ≢ 10)));
  is = inr refl;
  whole = w ∙ ap (λ (z : List ℕ). z ++ rest) e ∙ append_assoc line (13 ∷ 10 ∷ []) rest ∙ sym (append_assoc line (13 ∷ []) (10 ∷ rest));
}

ended : (line rest text : List ℕ) → HasLine line rest text → Ended line rest text
ended line rest text h = ended_from line rest text h.front h.ends.one_line h.whole h.ends.end

pub line_not : (line rest text : List ℕ) → NoLine text → HasLine line rest text → ⊥
line_not line rest text n h = let e = ended line rest text h in no_feed e.ended rest (subst Plain e.whole n)

-- What stands before LF decides the line.
one_ended : (k l a b : List ℕ) → a ≡ b → IsEndedBy a k → IsEndedBy b l → k ≡ l
one_ended k l a b e (inl f) (inl g) = sym f.0 ∙ e ∙ g.0
one_ended k l a b e (inl f) (inr g) = absurd (returns_not l (subst NoReturnAtEnd (sym f.0 ∙ e ∙ g) f.1))
one_ended k l a b e (inr f) (inl g) = absurd (returns_not k (subst NoReturnAtEnd (sym g.0 ∙ sym e ∙ f) g.1))
one_ended k l a b e (inr f) (inr g) = same_before k l (sym f ∙ e ∙ g)

-- One line stands in front.
pub one_line : (k l u v text : List ℕ) → HasLine k u text → HasLine l v text → (k ≡ l) × (u ≡ v)
one_line k l u v text p q =
    let a = ended k u text p in
    let b = ended l v text q in
    let t = to_feed a.ended b.ended u v a.plain b.plain (sym a.whole ∙ b.whole) in
    (one_ended k l a.ended b.ended t.0 a.is b.is, t.1)

-- What is after a line is shorter.
pub shorter : (line rest text : List ℕ) → HasLine line rest text → length rest < length text
shorter line rest text h = let e = ended line rest text h in let k = ap length e.whole ∙ length-append e.ended (10 ∷ rest) in omega (arith, k)

-- One line more.
pub lines_more : (lines : List (List ℕ)) (line a b : List ℕ) → AreLines lines a → EndsLine line b → AreLines (lines ++ line ∷ []) (a ++ b)
lines_more [] line a b h e = (b, [], e, refl, ap (λ (z : List ℕ). z ++ b) h ∙ sym (append-nil b))
lines_more (l ∷ lines) line a b h e = (h.0, h.1 ++ b, h.2, lines_more lines line h.1 b h.3 e, ap (λ (z : List ℕ). z ++ b) h.4 ∙ append_assoc h.0 h.1 b)

-- Comments.

pub no_comments : (text : List ℕ) → HasComments text text
no_comments text = record { comments = []; head = []; whole = refl; head_is = refl; comments_are = All-nil IsComment }

pub comment_more : (text rest behind : List ℕ) → HasComments rest text → HasComment behind rest → HasComments behind text
comment_more text rest behind h c = record {
  comments = h.comments ++ c.line ∷ [];
  head = h.head ++ c.has.front;
  whole = h.whole ∙ ap (λ (z : List ℕ). h.head ++ z) c.has.whole ∙ sym (append_assoc h.head c.has.front behind);
  head_is = lines_more h.comments c.line h.head c.has.front h.head_is c.has.ends;
  comments_are = All-append IsComment h.comments (c.line ∷ []) h.comments_are (All-cons IsComment c.line [] c.is (All-nil IsComment));
}

-- The line in front is none.
pub comment_not : (line rest text : List ℕ) → HasLine line rest text → (IsComment line → ⊥) → NoComment text
comment_not line rest text h n k u g c = n (subst IsComment (one_line k line u rest text g h).0 c)

-- No line is there.
pub comment_none : (text : List ℕ) → NoLine text → NoComment text
comment_none text n k u g c = line_not k u text n g
