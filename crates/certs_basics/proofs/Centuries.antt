-- The text of a UTCTime with its century in front is the text of the same moment in GeneralizedTime.
use Rattle.std.proofs.Common.{◌≡◌, ℕ, ◌+◌, ◌/◌, ◌%◌, ◌<◌, ◌≤◌, inl, inr, List, [], ◌∷◌, length, drop, get_or, suc, zero, Option, Some, None, IfSome, IfNone, sym, ap, ◌∙◌, subst, arith}
use Rattle.std.proofs.Math.Seq.{drop-cons}
use Rattle.std.proofs.lemmas.Bool.{cases_lt}
use Rattle.std.proofs.lemmas.Bool.Decides.{nat_tests}
use Rattle.std.proofs.lemmas.List.{drop_all}
use Rattle.certs_basics.specs.bcder_tree.Tags.{generalized_time_tag, utc_time_tag}
use Rattle.certs_basics.specs.bcder_tree.Tree.{primitive}
use Rattle.certs_basics.specs.declared.time.text.Form.{Form}
use Rattle.certs_basics.specs.declared.time.text.Form.TheVariants.{Utc, Generalized}
use Rattle.certs_basics.specs.Times.{Civil, IsMoment, moment_text}
use Rattle.certs_basics.specs.Forms.{IsShortMoment, IsShortYear, Tells, length_of, short_text, with_century_of, time_tree}

-- Without the century, the texts are one.
drop_century : (c : Civil) (a b : ℕ) (text : List ℕ) → a ∷ b ∷ text ≡ moment_text c → text ≡ short_text c
drop_century c a b text e =
    let tens : 48 + c.year / 10 % 10 ≡ 48 + c.year % 100 / 10 % 10 = omega arith in
    let ones : 48 + c.year % 10 ≡ 48 + c.year % 100 % 10 = omega arith in
    cc

add_century : (c : Civil) (a b : ℕ) (text : List ℕ) → text ≡ short_text c → a ≡ 48 + c.year / 10 / 10 / 10 % 10 → b ≡ 48 + c.year / 10 / 10 % 10 → a ∷ b ∷ text ≡ moment_text c
add_century c a b text e p q =
    let tens : 48 + c.year / 10 % 10 ≡ 48 + c.year % 100 / 10 % 10 = omega arith in
    let ones : 48 + c.year % 10 ≡ 48 + c.year % 100 % 10 = omega arith in
    cc

-- A year's digits.
pub record HasYear (a b t year : ℕ) : Type 0 where
  pub thousands : a ≡ 48 + year / 10 / 10 / 10 % 10
  pub hundreds : b ≡ 48 + year / 10 / 10 % 10
  pub tens : t ≡ 48 + year / 10 % 10

pub year_digits : (c : Civil) (a b t : ℕ) (text : List ℕ) → a ∷ b ∷ t ∷ text ≡ moment_text c → HasYear a b t c.year
year_digits c a b t text e = record { thousands = cc; hundreds = cc; tens = cc }

-- The years 1950 to 2049 by their first three digits.
pub early : {t year : ℕ} → HasYear 50 48 t year → year < 10000 → t < 53 → IsShortYear year
early h r lt = let a = h.thousands in let b = h.hundreds in let t = h.tens in (omega arith, omega arith)

pub late : {t year : ℕ} → HasYear 49 57 t year → year < 10000 → 53 ≤ t → IsShortYear year
late h r le = let a = h.thousands in let b = h.hundreds in let t = h.tens in (omega arith, omega arith)

-- The century that stands in front.
century_early : (t : ℕ) (text : List ℕ) → t < 53 → with_century_of (t ∷ text) ≡ 50 ∷ 48 ∷ t ∷ text
century_early t text lt = grind (arith, nat_tests)

century_late : (t : ℕ) (text : List ℕ) → 53 ≤ t → with_century_of (t ∷ text) ≡ 49 ∷ 57 ∷ t ∷ text
century_late t text le = grind (arith, nat_tests)

-- So the moment of the one text is that of the other.
pub short_moment : (t : ℕ) (text : List ℕ) (s : ℕ) → IsMoment (with_century_of (t ∷ text)) s → IsShortMoment (t ∷ text) s
short_moment t text s m = elim (cases_lt t 53) [
  | inl lt ↦
      let e : 50 ∷ 48 ∷ t ∷ text ≡ moment_text m.civil = sym (century_early t text lt) ∙ m.text_is in
      record {
        civil = m.civil;
        real = m.real;
        year = early (year_digits m.civil 50 48 t text e) m.real.year lt;
        text_is = drop_century m.civil 50 48 (t ∷ text) e;
        seconds_are = m.seconds_are;
      }
  | inr le ↦
      let e : 49 ∷ 57 ∷ t ∷ text ≡ moment_text m.civil = sym (century_late t text le) ∙ m.text_is in
      record {
        civil = m.civil;
        real = m.real;
        year = late (year_digits m.civil 49 57 t text e) m.real.year le;
        text_is = drop_century m.civil 49 57 (t ∷ text) e;
        seconds_are = m.seconds_are;
      }
]

tens_of : (c : Civil) (t : ℕ) (text : List ℕ) → t ∷ text ≡ short_text c → t ≡ 48 + c.year % 100 / 10 % 10
tens_of c t text e = cc

pub whole_moment : (t : ℕ) (text : List ℕ) (s : ℕ) → IsShortMoment (t ∷ text) s → IsMoment (with_century_of (t ∷ text)) s
whole_moment t text s m =
    let tens = tens_of m.civil t text m.text_is in
    let from = m.year.0 in
    let to = m.year.1 in
    elim (cases_lt t 53) [
      | inl lt ↦ record {
        civil = m.civil;
        real = m.real;
        text_is = century_early t text lt ∙ add_century m.civil 50 48 (t ∷ text) m.text_is (omega arith) (omega arith);
        seconds_are = m.seconds_are;
      }
      | inr le ↦ record {
        civil = m.civil;
        real = m.real;
        text_is = century_late t text le ∙ add_century m.civil 49 57 (t ∷ text) m.text_is (omega arith) (omega arith);
        seconds_are = m.seconds_are;
      }
    ]

-- So a whole text with its century states the moment, or none.
short_of : (text : List ℕ) (s : ℕ) → IsMoment (with_century_of text) s → IsShortMoment text s
short_of [] s m = let bad : [] ≡ moment_text m.civil = m.text_is in absurd cc
short_of (t ∷ text) s m = short_moment t text s m

whole_of : (text : List ℕ) (s : ℕ) → IsShortMoment text s → IsMoment (with_century_of text) s
whole_of [] s m = let bad : [] ≡ short_text m.civil = m.text_is in absurd cc
whole_of (t ∷ text) s m = whole_moment t text s m

pub short_found : (text whole : List ℕ) (r : Option ℕ) → whole ≡ with_century_of text → IfSome r (IsMoment whole) → IfSome r (IsShortMoment text)
short_found text whole None e h = tt
short_found text whole (Some s) e h = short_of text s (subst (λ (v : List ℕ). IsMoment v s) e h)

pub short_none : (text whole : List ℕ) (r : Option ℕ) → whole ≡ with_century_of text → IfNone r ((s : ℕ) → IsMoment whole s → ⊥) → IfNone r ((s : ℕ) → IsShortMoment text s → ⊥)
short_none text whole None e h = λ s m. h s (subst (λ (v : List ℕ). IsMoment v s) (sym e) (whole_of text s m))
short_none text whole (Some s) e h = tt

-- A text of 13 octets, one by one.
gets : ℕ → ℕ → List ℕ → List ℕ
gets zero i text = []
gets (suc n) i text = get_or text i 0 ∷ gets n (suc i) text

gets_all : (n i : ℕ) (text : List ℕ) → length text ≡ i + n → drop i text ≡ gets n i text
unfolding gets
gets_all zero i text h = drop_all i text (omega arith)
gets_all (suc n) i text h = drop-cons text i 0 (omega arith) ∙ ap (λ t. get_or text i 0 ∷ t) (gets_all n (suc i) text (omega arith))

abbrev pub Spelled : ℕ → ℕ → List ℕ → List ℕ
Spelled a b text = a ∷ b ∷ get_or text 0 0 ∷ get_or text 1 0 ∷ get_or text 2 0 ∷ get_or text 3 0 ∷ get_or text 4 0 ∷ get_or text 5 0 ∷ get_or text 6 0 ∷ get_or text 7 0 ∷ get_or text 8 0 ∷ get_or text 9 0 ∷ get_or text 10 0 ∷ get_or text 11 0 ∷ get_or text 12 0 ∷ []

spelled_early : (text : List ℕ) → length text ≡ 13 → get_or text 0 0 < 53 → Spelled 50 48 text ≡ with_century_of text
unfolding gets
spelled_early text long lt = sym (ap with_century_of (gets_all 13 0 text long) ∙ century_early (get_or text 0 0) (gets 12 1 text) lt)

spelled_late : (text : List ℕ) → length text ≡ 13 → 53 ≤ get_or text 0 0 → Spelled 49 57 text ≡ with_century_of text
unfolding gets
spelled_late text long le = sym (ap with_century_of (gets_all 13 0 text long) ∙ century_late (get_or text 0 0) (gets 12 1 text) le)

pub century_spelled_early : (text first : List ℕ) → length text ≡ 13 → get_or text 0 0 < 53 → first ≡ 50 ∷ 48 ∷ [] → Spelled (get_or first 0 0) (get_or first 1 0) text ≡ with_century_of text
century_spelled_early text first long lt e = ap (λ (v : List ℕ). Spelled (get_or v 0 0) (get_or v 1 0) text) e ∙ spelled_early text long lt

pub century_spelled_late : (text first : List ℕ) → length text ≡ 13 → 53 ≤ get_or text 0 0 → first ≡ 49 ∷ 57 ∷ [] → Spelled (get_or first 0 0) (get_or first 1 0) text ≡ with_century_of text
century_spelled_late text first long le e = ap (λ (v : List ℕ). Spelled (get_or v 0 0) (get_or v 1 0) text) e ∙ spelled_late text long le

-- Each form has texts of one length.
pub moment_length : (text : List ℕ) (s : ℕ) → IsMoment text s → length text ≡ 15
moment_length text s m = ap length m.text_is

pub short_length : (text : List ℕ) (s : ℕ) → IsShortMoment text s → length text ≡ 13
short_length text s m = ap length m.text_is

pub tells_length : (form : Form) (text : List ℕ) (s : ℕ) → Tells form text s → length text ≡ length_of form
tells_length Utc text s m = short_length text s m
tells_length Generalized text s m = moment_length text s m

-- What is written in the form that the year wants.
pub short_tree : (c : Civil) → IsShortYear c.year → time_tree c ≡ primitive utc_time_tag (short_text c)
short_tree c y = let from = y.0 in let to = y.1 in grind (arith, nat_tests)

pub whole_tree : (c : Civil) → (IsShortYear c.year → ⊥) → time_tree c ≡ primitive generalized_time_tag (moment_text c)
whole_tree c n = elim (cases_lt c.year 1950) [
  | inl lt ↦ grind (arith, nat_tests)
  | inr le ↦ elim (cases_lt c.year 2050) [
    | inl lt ↦ absurd (n (le, lt))
    | inr ge ↦ grind (arith, nat_tests)
  ]
]
