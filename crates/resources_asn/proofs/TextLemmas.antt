-- Texts of AS numbers.
use Rattle.std.proofs.Common.{◌≡◌, ◌≢◌, ℕ, zero, suc, ◌<◌, ◌≤◌, ◌⊎◌, ◌↔◌, Bool, true, false, cond, ◌==◌, List, [], ◌∷◌, ◌++◌, length, take, drop, get_or, decimal, inl, inr, sym, subst, ap, ◌∙◌, arith, refl, length-append}
use Rattle.std.specs.Prelude.{codes}
use Rattle.std.specs.Char.{to_ascii_lowercase}
use Rattle.std.specs.Int.{IsInRange}
use Rattle.std.specs.Str.{IsCharBoundary}
use Rattle.std.specs.Str.Parse.{IsNumeral, AllDigits, digits_value, without_leading_plus}
use Rattle.std.proofs.lemmas.Bool.{cases_lt, eqb-true}
use Rattle.std.proofs.lemmas.Fmt.{decimal_is_IsNumeral}
use Rattle.std.proofs.Math.Nat.{eq-or-lt_of_le}
use Rattle.std.proofs.lemmas.List.{length-map, take-append-drop}
use Rattle.std.proofs.Math.Seq.{take-append_seam, drop-append_seam}
use Rattle.std.proofs.lemmas.Str.{IsCharBoundary-before_ascii}
use Rattle.std.proofs.lemmas.Str.Ascii.{lowercase_is}
use Rattle.std.proofs.lemmas.Str.Parse.{without_leading_plus_none, digit_at}
use Rattle.resources_ip_prefix.specs.Cuts.{LacksByte}
use Rattle.resources_ip_prefix.proofs.Printed.{lacks_both}
use Rattle.resources_asn.specs.Numbers.{last_number}
use Rattle.resources_asn.specs.Texts.{IsDigitText, IsLetters, IsAsnText}

two_letters : (front : List ℕ) → IsLetters front → length front ≡ 2
two_letters front l = sym (length-map front to_ascii_lowercase) ∙ ap length l

-- Digits begin with a digit or a plus.
abbrev Begins : List ℕ → Type 0
Begins text = (0 < length text) × ((get_or text 0 0 ≡ 43) ⊎ IsInRange 48 57 (get_or text 0 0))

first_digit : (c : ℕ) (cs : List ℕ) → (c ≡ 43 → ⊥) → IsNumeral 10 (without_leading_plus (c ∷ cs)) → IsInRange 48 57 c
first_digit c cs other h =
    let plain : IsNumeral 10 (c ∷ cs) = subst (λ (ds : List ℕ). IsNumeral 10 ds) (without_leading_plus_none (c ∷ cs) other) h in
    digit_at (c ∷ cs) 0 plain.1 (omega arith)

begins : (text : List ℕ) (n : ℕ) → IsDigitText text n → Begins text
begins [] n d = absurd (let h = d.numeral.0 in omega arith)
begins (c ∷ cs) n d = (
  omega arith,
  elim (cases_lt c 43) [
    | inl l ↦ inr (first_digit c cs (λ e. omega arith) d.numeral)
    | inr g ↦ elim (eq-or-lt_of_le g) [ inl e ↦ inl (sym e) | inr m ↦ inr (first_digit c cs (λ e. omega arith) d.numeral) ]
  ],
)

begins_low : (text : List ℕ) → Begins text → get_or text 0 0 < 65
begins_low text (some, inl e) = omega arith
begins_low text (some, inr r) = let h = r.1 in omega arith

-- So no digits begin with the letters.
no_letters : (front digits : List ℕ) (n : ℕ) → IsLetters front → IsDigitText (front ++ digits) n → ⊥
no_letters [] digits n l d = omega (arith, two_letters [] l)
no_letters (a ∷ front) digits n l d =
    let low : a < 65 = begins_low (a ∷ front ++ digits) (begins (a ∷ front ++ digits) n d) in
    let same : to_ascii_lowercase a ≡ a = (lowercase_is a).1 low in
    let letter : to_ascii_lowercase a ≡ 97 = ap (λ (xs : List ℕ). get_or xs 0 0) l in
    omega arith

-- And a text may be cut in front of digits.
may_cut : (front digits : List ℕ) (n : ℕ) → length front ≡ 2 → IsDigitText digits n → IsCharBoundary (front ++ digits) 2
may_cut [] digits n e d = absurd (omega arith)
may_cut (a ∷ []) digits n e d = absurd (omega arith)
may_cut (a ∷ b ∷ []) digits n e d =
    let first = begins digits n d in
    let some = first.0 in
    let low = begins_low digits first in
    IsCharBoundary-before_ascii (a ∷ b ∷ digits) 2 (omega arith) (omega arith)
may_cut (a ∷ b ∷ c ∷ front) digits n e d = absurd (omega arith)

-- The letters are the first two bytes.
cut_front : (text front digits : List ℕ) → text ≡ front ++ digits → IsLetters front → take 2 text ≡ front
cut_front text front digits e l =
    ap (take 2) e ∙ ap (λ k. take k (front ++ digits)) (sym (two_letters front l)) ∙ take-append_seam front digits

cut_digits : (text front digits : List ℕ) → text ≡ front ++ digits → IsLetters front → drop 2 text ≡ digits
cut_digits text front digits e l =
    ap (drop 2) e ∙ ap (λ k. drop k (front ++ digits)) (sym (two_letters front l)) ∙ drop-append_seam front digits

-- Where the letters stand, the digits are what comes after them.
pub behind_letters : (text front digits : List ℕ) → front ≡ take 2 text → digits ≡ drop 2 text → IsLetters front → (n : ℕ) → IsAsnText text n ↔ IsDigitText digits n
behind_letters text front digits f g l n =
    let whole : text ≡ front ++ digits = sym (take-append-drop 2 text) ∙ ap (λ xs. xs ++ drop 2 text) (sym f) ∙ ap (λ ys. front ++ ys) (sym g) in (
      λ t. elim t [
        | inl d ↦ absurd (no_letters front digits n l (subst (λ (x : List ℕ). IsDigitText x n) whole d))
        | inr w ↦ subst (λ (x : List ℕ). IsDigitText x n) (sym (cut_digits text w.0 w.1 w.2 w.3) ∙ sym g) w.4
      ],
      λ d. inr (front, digits, whole, l, d),
    )

-- Where they don't stand, the whole text has to be digits.
without_letters : (text : List ℕ) → ((front digits : List ℕ) (n : ℕ) → text ≡ front ++ digits → IsLetters front → IsDigitText digits n → ⊥) → (n : ℕ) → IsAsnText text n ↔ IsDigitText text n
without_letters text none n = (λ t. elim t [ inl d ↦ d | inr w ↦ absurd (none w.0 w.1 n w.2 w.3 w.4) ], λ d. inl d)

pub other_letters : (text front : List ℕ) → front ≡ take 2 text → (IsLetters front → ⊥) → (n : ℕ) → IsAsnText text n ↔ IsDigitText text n
other_letters text front f other =
    without_letters text (λ a b n e l d. other (subst (λ (x : List ℕ). IsLetters x) (sym (cut_front text a b e l) ∙ sym f) l))

pub no_cut : (text : List ℕ) → (IsCharBoundary text 2 → ⊥) → (n : ℕ) → IsAsnText text n ↔ IsDigitText text n
no_cut text none =
    without_letters text (λ a b n e l d. none (subst (λ (x : List ℕ). IsCharBoundary x 2) (sym e) (may_cut a b n (two_letters a l) d)))

-- ---- what a text of an AS number is made of

digits_lack_at : (c : ℕ) → c < 48 → c ≢ 43 → (a : ℕ) (cs : List ℕ) (b : Bool) → b ≡ (a == 43) → AllDigits 10 (drop (cond b 1 0) (a ∷ cs)) → LacksByte c (a ∷ cs)
digits_lack_at c low other a cs true e h zero l f = other (sym f ∙ eqb-true a 43 (sym e))
digits_lack_at c low other a cs true e h (suc i) l f = let d = (digit_at cs i h (omega arith)).0 in omega arith
digits_lack_at c low other a cs false e h i l f = let d = (digit_at (a ∷ cs) i h l).0 in omega arith

digits_lack : (c : ℕ) → c < 48 → c ≢ 43 → (text : List ℕ) (n : ℕ) → IsDigitText text n → LacksByte c text
digits_lack c low other [] n d = λ i l e. omega arith
digits_lack c low other (a ∷ cs) n d = digits_lack_at c low other a cs (a == 43) refl d.numeral.1

letter_lacks : (c : ℕ) → c < 48 → (a : ℕ) (letter : ℕ) → 64 < letter → to_ascii_lowercase a ≡ letter → a ≢ c
letter_lacks c low a letter high is e =
    let small : a < 65 = omega arith in
    let same : to_ascii_lowercase a ≡ a = (lowercase_is a).1 small in
    omega arith

letters_lack : (c : ℕ) → c < 48 → (front : List ℕ) → length front ≡ 2 → IsLetters front → LacksByte c front
letters_lack c low [] e l i h = absurd (omega arith)
letters_lack c low (a ∷ []) e l i h = absurd (omega arith)
letters_lack c low (a ∷ b ∷ []) e l zero h = letter_lacks c low a 97 (omega arith) (ap (λ (xs : List ℕ). get_or xs 0 0) l)
letters_lack c low (a ∷ b ∷ []) e l (suc zero) h = letter_lacks c low b 115 (omega arith) (ap (λ (xs : List ℕ). get_or xs 1 0) l)
letters_lack c low (a ∷ b ∷ []) e l (suc (suc i)) h = absurd (omega arith)
letters_lack c low (a ∷ b ∷ d ∷ front) e l i h = absurd (omega arith)

-- No byte below the digits stands there, but a plus.
pub asn_lacks : (c : ℕ) → c < 48 → c ≢ 43 → (text : List ℕ) (n : ℕ) → IsAsnText text n → LacksByte c text
asn_lacks c low other text n (inl d) = digits_lack c low other text n d
asn_lacks c low other text n (inr w) =
    subst (LacksByte c) (sym w.2) (lacks_both c w.0 w.1 (letters_lack c low w.0 (two_letters w.0 w.3) w.3) (digits_lack c low other w.1 n w.4))

-- Some byte does.
pub asn_some : (n : ℕ) → IsAsnText [] n → ⊥
asn_some n (inl d) = let some = (begins [] n d).0 in omega arith
asn_some n (inr w) = omega (arith, two_letters w.0 w.3, ap length w.2, length-append w.0 w.1)

-- A text is that of one number.
pub asn_once : (text : List ℕ) (m n : ℕ) → IsAsnText text m → IsAsnText text n → m ≡ n
asn_once text m n (inl d) (inl e) = sym d.value ∙ e.value
asn_once text m n (inl d) (inr w) = absurd (no_letters w.0 w.1 m w.3 (subst (λ (x : List ℕ). IsDigitText x m) w.2 d))
asn_once text m n (inr v) (inl e) = absurd (no_letters v.0 v.1 n v.3 (subst (λ (x : List ℕ). IsDigitText x n) v.2 e))
asn_once text m n (inr v) (inr w) =
    let same : v.1 ≡ w.1 = sym (cut_digits text v.0 v.1 v.2 v.3) ∙ cut_digits text w.0 w.1 w.2 w.3 in
    sym v.4.value ∙ ap (λ (x : List ℕ). digits_value 10 (without_leading_plus x)) same ∙ w.4.value

-- What is printed of a number writes it.
pub asn_printed : (n : ℕ) → n ≤ last_number → IsAsnText (codes "AS" ++ decimal n) n
asn_printed n within =
    let number = decimal_is_IsNumeral n (omega arith) in
    let first = digit_at (decimal n) 0 number.0.1 number.0.0 in
    let bare = without_leading_plus_none (decimal n) (λ e. let low = first.0 in omega arith) in
    inr (codes "AS", decimal n, refl, refl, record { numeral = rw bare number.0; value = rw bare number.1; fits = omega arith })
