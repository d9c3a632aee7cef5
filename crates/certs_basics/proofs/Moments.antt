-- A text of digits states one list of numbers, and so one moment.
use Rattle.std.proofs.Common.{◌≡◌, ◌≢◌, ℕ, zero, suc, ◌+◌, ◌*◌, ◌/◌, ◌%◌, ◌<◌, inl, inr, List, [], ◌∷◌, length, get_or, set, get_or-set_other, get_or-set_same, length-set, below_more, Option, None, Some, IfSome, IfNone, SomeIff, refl, sym, ap, ◌∙◌, arith, pos}
use Rattle.std.proofs.lemmas.Bool.{cases_lt}
use Rattle.std.proofs.lemmas.Grind.{same_number_lists}
use Rattle.jiff_core.proofs.CalendarLemmas.{days_in_month_bounds}
use Rattle.certs_basics.specs.Pairs.{pair_text, IsPairs}
use Rattle.certs_basics.proofs.Calendar.{one_date}
use Rattle.certs_basics.specs.Times.{Civil, IsReal, IsMoment, digits, moment_text, seconds_of}

-- A text of numbers has two octets for each, and one more.
pair_text-length : (p : List ℕ) → length (pair_text p) ≡ 2 * length p + 1
unfolding pair_text
pair_text-length [] = refl
pair_text-length (n ∷ ns) = omega (arith, pair_text-length ns)

-- The last of them is the `Z`.
pair_text-end : (p : List ℕ) → get_or (pair_text p) (2 * length p) 0 ≡ 90
unfolding pair_text
pair_text-end [] = refl
pair_text-end (n ∷ ns) =
    let next : 2 * suc (length ns) ≡ suc (suc (2 * length ns)) = omega arith in
    rw next (pair_text-end ns)

-- The number at k has the digits at 2 * k and 2 * k + 1.
pair_text-at : (p : List ℕ) (k : ℕ) → k < length p → (get_or (pair_text p) (2 * k) 0 ≡ 48 + get_or p k 0 / 10 % 10) × (get_or (pair_text p) (2 * k + 1) 0 ≡ 48 + get_or p k 0 % 10)
unfolding pair_text
pair_text-at [] k h = absurd (omega arith)
pair_text-at (n ∷ ns) zero h = (refl, refl)
pair_text-at (n ∷ ns) (suc k) h =
    let here : 2 * suc k ≡ suc (suc (2 * k)) = omega arith in
    let next : 2 * suc k + 1 ≡ suc (suc (2 * k + 1)) = omega arith in
    (rw here (pair_text-at ns k (omega arith)).0, rw next (pair_text-at ns k (omega arith)).1)

-- The text has there the digits of the number at k.
abbrev pub HasDigits : List ℕ → List ℕ → ℕ → Type 0
HasDigits text p k = digits 2 (get_or p k 0) ≡ get_or text (2 * k) 0 ∷ get_or text (2 * k + 1) 0 ∷ []

-- And the number has only those two.
abbrev pub IsPairAt : List ℕ → List ℕ → ℕ → Type 0
IsPairAt text p k = (get_or p k 0 < 100) × HasDigits text p k

-- A text of seven numbers has 15 octets, and ends in `Z`.
pub pairs_shape : (text p : List ℕ) → IsPairs text p → (length text ≡ 15) × (get_or text 14 0 ≡ 90)
pairs_shape text p h =
    let end : 2 * length p ≡ 14 = omega (arith, h.count) in
    rw h.text_is (omega (arith, pair_text-length p, h.count), rw end at (pair_text-end p))

-- Each of the numbers is small and has its digits in the text.
pub pairs_at : (text p : List ℕ) (k : ℕ) → IsPairs text p → k < 7 → IsPairAt text p k
pairs_at text p k h lt =
    let at = pair_text-at p k (omega (arith, h.count)) in
    (h.small k (omega (arith, h.count)), rw (h.text_is, at.0, at.1))

-- Where a text has a number's digits, it agrees with the numbers' text.
same_pair : (text p : List ℕ) (j : ℕ) → j < length p → HasDigits text p j → (get_or text (2 * j) 0 ≡ get_or (pair_text p) (2 * j) 0) × (get_or text (2 * j + 1) 0 ≡ get_or (pair_text p) (2 * j + 1) 0)
same_pair text p j lt h = let at = pair_text-at p j lt in (cc, cc)

-- If it has them all and the `Z`, it agrees everywhere.
same_at : (text p : List ℕ) → length p ≡ 7 → get_or text 14 0 ≡ 90 → ((k : ℕ) → k < 7 → HasDigits text p k) → (k : ℕ) → k < 15 → get_or text k 0 ≡ get_or (pair_text p) k 0
same_at text p count last each k lt =
    let end : 2 * length p ≡ 14 = omega arith in
    let pair = λ (h : k < 14). same_pair text p (k / 2) (omega arith) (each (k / 2) (omega arith)) in
    elim (cases_lt k 14) [
      | inr ge ↦ let is : k ≡ 14 = omega arith in rw is (last ∙ sym (rw end at (pair_text-end p)))
      | inl before ↦ elim (cases_lt (k % 2) 1) [
        | inl even ↦ let is : k ≡ 2 * (k / 2) = omega arith in rw is (pair before).0
        | inr odd ↦ let is : k ≡ 2 * (k / 2) + 1 = omega arith in rw is (pair before).1
      ]
    ]

-- Such a text of 15 octets is the numbers' text.
pub pair_text_from : (text p : List ℕ) → length p ≡ 7 → length text ≡ 15 → get_or text 14 0 ≡ 90 → ((k : ℕ) → k < 7 → HasDigits text p k) → text ≡ pair_text p
pair_text_from text p count long last each =
    same_number_lists text (pair_text p) (omega (arith, pair_text-length p)) (λ k h. same_at text p count last each k (omega arith))

-- And if the numbers are small, the text states them.
pub pairs_from : (text p : List ℕ) → length p ≡ 7 → length text ≡ 15 → get_or text 14 0 ≡ 90 → ((k : ℕ) → k < 7 → IsPairAt text p k) → IsPairs text p
pairs_from text p count long last each = record {
  count = count;
  small = λ k h. (each k (omega arith)).0;
  text_is = pair_text_from text p count long last (λ k h. (each k h).1);
}

-- A write of two octets leaves the others.
pub digits_written : (text : List ℕ) (i a b j : ℕ) → j ≢ 2 * i → j ≢ 2 * i + 1 → get_or (set (set text (2 * i) a) (2 * i + 1) b) j 0 ≡ get_or text j 0
digits_written text i a b j p q = rw (get_or-set_other, get_or-set_other)

-- What is written of the numbers below i + 1, from what is written of those below i.
pub digits_more : (text p : List ℕ) (i a b : ℕ) → length text ≡ 15 → i < 7 → a ≡ 48 + get_or p i 0 / 10 % 10 → b ≡ 48 + get_or p i 0 % 10 → ((k : ℕ) → k < i → HasDigits text p k) → (k : ℕ) → k < i + 1 → HasDigits (set (set text (2 * i) a) (2 * i + 1) b) p k
digits_more text p i a b long lt tens ones each =
    below_more _ _
    (λ k h. rw (digits_written text i a b (2 * k) (omega arith) (omega arith), digits_written text i a b (2 * k + 1) (omega arith) (omega arith)) (each k h))
    (let ne : 2 * i ≢ 2 * i + 1 = omega arith in
    let first : 2 * i < length text = omega arith in
    let second : 2 * i + 1 < length (set text (2 * i) a) = omega (arith, length-set text (2 * i) a) in
    rw (get_or-set_same, get_or-set_other, get_or-set_same) cc)

-- What is read of the numbers below i + 1, from what is read of those below i.
pub pairs_more : (text p : List ℕ) (i n : ℕ) → length p ≡ 7 → i < 7 → n < 100 → digits 2 n ≡ get_or text (2 * i) 0 ∷ get_or text (2 * i + 1) 0 ∷ [] → ((k : ℕ) → k < i → IsPairAt text p k) → (k : ℕ) → k < i + 1 → IsPairAt text (set p i n) k
pairs_more text p i n long lt small e each =
    below_more _ _
    (λ k h. let ne : k ≢ i = omega arith in rw get_or-set_other (each k h))
    (let inside : i < length p = omega arith in rw get_or-set_same (small, e))

-- Two digits are those of one number below 100.
same_number : (m n : ℕ) → m < 100 → n < 100 → digits 2 m ≡ digits 2 n → m ≡ n
same_number m n p q e =
    let tens : 48 + m / 10 % 10 ≡ 48 + n / 10 % 10 = cc in
    let ones : 48 + m % 10 ≡ 48 + n % 10 = cc in
    omega arith

-- A text is only one list of numbers.
pub pairs_injective : (text p q : List ℕ) → IsPairs text p → IsPairs text q → p ≡ q
pairs_injective text p q h g =
    let same = λ (k : ℕ) (lt : k < 7). let a = pairs_at text p k h lt in let b = pairs_at text q k g lt in same_number _ _ a.0 b.0 (a.1 ∙ sym b.1) in
    same_number_lists p q (h.count ∙ sym g.count) (λ k lt. same k (omega (arith, h.count)))

-- The numbers of a moment's text.
abbrev pub civil_pairs : Civil → List ℕ
civil_pairs c = c.year / 100 ∷ c.year % 100 ∷ c.month ∷ c.day ∷ c.hour ∷ c.minute ∷ c.second ∷ []

-- A moment's text is the text of its numbers.
pub moment_pairs : (c : Civil) → moment_text c ≡ pair_text (civil_pairs c)
unfolding pair_text
moment_pairs c =
    let y = c.year in
    let a : 48 + y / 10 / 10 / 10 % 10 ≡ 48 + y / 100 / 10 % 10 = omega arith in
    let b : 48 + y / 10 / 10 % 10 ≡ 48 + y / 100 % 10 = omega arith in
    let d : 48 + y / 10 % 10 ≡ 48 + y % 100 / 10 % 10 = omega arith in
    let e : 48 + y % 10 ≡ 48 + y % 100 % 10 = omega arith in
    cc

-- The numbers of a real moment are below 100.
pairs_below : (c : Civil) → IsReal c → (k : ℕ) → k < 7 → get_or (civil_pairs c) k 0 < 100
pairs_below c r zero h = omega arith
pairs_below c r (suc zero) h = omega arith
pairs_below c r (suc (suc zero)) h = omega arith
pairs_below c r (suc (suc (suc zero))) h = omega (arith, days_in_month_bounds (pos c.year) c.month)
pairs_below c r (suc (suc (suc (suc zero)))) h = omega arith
pairs_below c r (suc (suc (suc (suc (suc zero))))) h = omega arith
pairs_below c r (suc (suc (suc (suc (suc (suc zero)))))) h = omega arith
pairs_below c r (suc (suc (suc (suc (suc (suc (suc k))))))) h = absurd (omega arith)

-- A real moment's text is a text of its seven numbers.
pub moment_is_pairs : (text : List ℕ) (c : Civil) → IsReal c → text ≡ moment_text c → IsPairs text (civil_pairs c)
moment_is_pairs text c r e = record { count = refl; small = pairs_below c r; text_is = e ∙ moment_pairs c }

-- The numbers tell the moment.
pub civil_same : (a b : Civil) → civil_pairs a ≡ civil_pairs b → a ≡ b
civil_same a b e =
    let centuries : a.year / 100 ≡ b.year / 100 = cc in
    let years : a.year % 100 ≡ b.year % 100 = cc in
    let year : a.year ≡ b.year = omega arith in
    let month : a.month ≡ b.month = cc in
    let day : a.day ≡ b.day = cc in
    let hour : a.hour ≡ b.hour = cc in
    let minute : a.minute ≡ b.minute = cc in
    let second : a.second ≡ b.second = cc in
    λ i. record { year = year i; month = month i; day = day i; hour = hour i; minute = minute i; second = second i }

-- The moment that seven numbers tell.
abbrev pub civil_of : List ℕ → Civil
civil_of p = record { year = get_or p 0 0 * 100 + get_or p 1 0; month = get_or p 2 0; day = get_or p 3 0; hour = get_or p 4 0; minute = get_or p 5 0; second = get_or p 6 0 }

-- The moment of seven numbers has each of them.
civil_at : (p : List ℕ) → get_or p 1 0 < 100 → (k : ℕ) → k < 7 → get_or (civil_pairs (civil_of p)) k 0 ≡ get_or p k 0
civil_at p small zero h = omega arith
civil_at p small (suc zero) h = omega arith
civil_at p small (suc (suc zero)) h = refl
civil_at p small (suc (suc (suc zero))) h = refl
civil_at p small (suc (suc (suc (suc zero)))) h = refl
civil_at p small (suc (suc (suc (suc (suc zero))))) h = refl
civil_at p small (suc (suc (suc (suc (suc (suc zero)))))) h = refl
civil_at p small (suc (suc (suc (suc (suc (suc (suc k))))))) h = absurd (omega arith)

-- So its numbers are those.
civil_of_pairs : (text p : List ℕ) → IsPairs text p → civil_pairs (civil_of p) ≡ p
civil_of_pairs text p h =
    same_number_lists (civil_pairs (civil_of p)) p (sym h.count) (civil_at p (pairs_at text p 1 h (omega arith)).0)

-- A text of seven numbers states the moment that they give if it is real, and else none.
pub moment_told : (text p : List ℕ) (year : ℕ) (r : Option ℕ) → IsPairs text p → year ≡ (civil_of p).year → SomeIff r (IsReal (record (civil_of p) { year = year })) (seconds_of (record (civil_of p) { year = year })) → IfSome r (IsMoment text) × IfNone r ((seconds : ℕ) → IsMoment text seconds → ⊥)
moment_told text p year None h e told = (
  tt,
  λ seconds m. let numbers = pairs_injective text (civil_pairs m.civil) p (moment_is_pairs text m.civil m.real m.text_is) h in
      told (rw (e, ← civil_same m.civil (civil_of p) (numbers ∙ sym (civil_of_pairs text p h))) m.real),
)
moment_told text p year (Some t) h e told = (
  record {
    civil = civil_of p;
    real = rw e at told.0;
    text_is = h.text_is ∙ ap pair_text (sym (civil_of_pairs text p h)) ∙ sym (moment_pairs (civil_of p));
    seconds_are = rw e at told.1;
  },
  tt,
)

-- A text states one moment.
pub one_civil : (text : List ℕ) (a b : Civil) → IsReal a → IsReal b → text ≡ moment_text a → text ≡ moment_text b → a ≡ b
one_civil text a b r s p q =
    civil_same a b (pairs_injective text (civil_pairs a) (civil_pairs b) (moment_is_pairs text a r p) (moment_is_pairs text b s q))

-- And so one number of seconds.
pub one_moment : (text : List ℕ) (a b : ℕ) → IsMoment text a → IsMoment text b → a ≡ b
one_moment text a b p q =
    p.seconds_are ∙ ap seconds_of (one_civil text p.civil q.civil p.real q.real p.text_is q.text_is) ∙ sym q.seconds_are

-- The text of a moment's numbers states it.
pub moment_written : (text : List ℕ) (c : Civil) (seconds : ℕ) → IsReal c → text ≡ pair_text (civil_pairs c) → seconds ≡ seconds_of c → IsMoment text seconds
moment_written text c seconds r e s = record { civil = c; real = r; text_is = e ∙ sym (moment_pairs c); seconds_are = s }

-- A number of seconds is of one moment.
pub one_civil_by_seconds : (a b : Civil) → IsReal a → IsReal b → seconds_of a ≡ seconds_of b → a ≡ b
one_civil_by_seconds a b r s e =
    let date = one_date a b r s (omega arith) in
    let hour : a.hour ≡ b.hour = omega arith in
    let minute : a.minute ≡ b.minute = omega arith in
    let second : a.second ≡ b.second = omega arith in
    λ i. record { year = date.0 i; month = date.1 i; day = date.2 i; hour = hour i; minute = minute i; second = second i }

-- And so it has one text.
pub one_text : (a b : List ℕ) (seconds : ℕ) → IsMoment a seconds → IsMoment b seconds → a ≡ b
one_text a b seconds p q =
    p.text_is ∙ ap moment_text (one_civil_by_seconds p.civil q.civil p.real q.real (sym p.seconds_are ∙ q.seconds_are)) ∙ sym q.text_is
