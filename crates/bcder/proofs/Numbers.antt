-- Subidentifiers one after the other, and the numbers that they are.
use Rattle.std.proofs.Common.{◌≡◌, ℕ, zero, suc, ◌+◌, ◌*◌, ◌%◌, ◌^◌, ◌<◌, ◌≤◌, inl, inr, List, [], ◌∷◌, ◌++◌, length, take, drop, get_or, refl, sym, ap, ◌∙◌, arith, All, add-one, append_assoc}
use Rattle.std.specs.Prelude.{min}
use Rattle.std.proofs.lemmas.Bool.{cases_lt, cond_below, cond_above}
use Rattle.std.proofs.lemmas.List.{append-nil, take_more}
use Rattle.std.proofs.lemmas.List.Elements.{All-head, All-tail}
use Rattle.bcder.specs.Subidentifiers.{base128_behind, base128, IsSubidentifier, InTurn}
use Rattle.bcder.specs.declared.oid.component.Place.{Place}
use Rattle.bcder.specs.declared.oid.component.Place.TheVariants.{First, Second, Later}
use Rattle.bcder.specs.Components.{numbers_behind, number_at, IsRoot, AreComponents, first_of, second_of, split_first, components_of, HasComponents}

-- Bit 8 is set on each octet.
abbrev pub High : List ℕ → Type 0
High v = All (λ a. 128 ≤ a) v

-- One octet more.
pub base128_push : (b : ℕ) (v : List ℕ) (a : ℕ) → base128_behind b (v ++ a ∷ []) ≡ base128_behind b v * 128 + a % 128
base128_push b [] a = refl
base128_push b (c ∷ v) a = base128_push (b * 128 + c % 128) v a

-- An octet with bit 8 set goes on, and one with bit 8 clear ends.
goes_on : (n a : ℕ) (v : List ℕ) → 128 ≤ a → numbers_behind n (a ∷ v) ≡ numbers_behind (n * 128 + a % 128) v
goes_on n a v h = sym (cond_above a 128 ((n * 128 + a % 128) ∷ numbers_behind 0 v) (numbers_behind (n * 128 + a % 128) v) (numbers_behind (n * 128 + a % 128) v) h refl)

ends_here : (n a : ℕ) (v : List ℕ) → a < 128 → numbers_behind n (a ∷ v) ≡ (n * 128 + a % 128) ∷ numbers_behind 0 v
ends_here n a v h = sym (cond_below a 128 ((n * 128 + a % 128) ∷ numbers_behind 0 v) (numbers_behind (n * 128 + a % 128) v) h)

-- Octets with bit 8 set belong to the next number.
pub through_high : (n : ℕ) (front rest : List ℕ) → High front → numbers_behind n (front ++ rest) ≡ numbers_behind (base128_behind n front) rest
through_high n [] rest h = refl
through_high n (a ∷ v) rest h =
    goes_on n a (v ++ rest) (All-head (λ a. 128 ≤ a) a v h) ∙ through_high (n * 128 + a % 128) v rest (All-tail (λ a. 128 ≤ a) a v h)

-- Where no octet ends a number there is none.
pub none_ends : (n : ℕ) (v : List ℕ) → High v → numbers_behind n v ≡ []
none_ends n v h = ap (numbers_behind n) (sym (append-nil v)) ∙ through_high n v [] h

-- One subidentifier in front.
pub past_first : (first rest : List ℕ) (n : ℕ) → IsSubidentifier first n → numbers_behind 0 (first ++ rest) ≡ n ∷ numbers_behind 0 rest
past_first first rest n s =
    let whole : first ++ rest ≡ s.front ++ (s.last ∷ rest) = ap (λ (z : List ℕ). z ++ rest) s.whole ∙ append_assoc s.front (s.last ∷ []) rest in
    let value : base128_behind 0 s.front * 128 + s.last % 128 ≡ n = sym (base128_push 0 s.front s.last) ∙ ap base128 (sym s.whole) ∙ s.value in
    ap (numbers_behind 0) whole ∙ through_high 0 s.front (s.last ∷ rest) s.more ∙ ends_here (base128_behind 0 s.front) s.last rest s.ends ∙ ap (λ (z : ℕ). z ∷ numbers_behind 0 rest) value

-- The numbers of subidentifiers, after which one may have begun that doesn't end.
pub numbers_are : (whole begun ns : List ℕ) → InTurn IsSubidentifier whole ns → High begun → numbers_behind 0 (whole ++ begun) ≡ ns
numbers_are whole begun [] t h = ap (λ (z : List ℕ). numbers_behind 0 (z ++ begun)) t ∙ none_ends 0 begun h
numbers_are whole begun (n ∷ ns) t h =
    let split : whole ++ begun ≡ t.0 ++ (t.1 ++ begun) = ap (λ (z : List ℕ). z ++ begun) t.2 ∙ append_assoc t.0 t.1 begun in
    ap (numbers_behind 0) split ∙ past_first t.0 (t.1 ++ begun) n t.3 ∙ ap (λ (z : List ℕ). n ∷ z) (numbers_are t.1 begun ns t.4 h)

-- The first octet with bit 8 clear ends the first subidentifier.
cut_behind : (n : ℕ) (s : List ℕ) (k : ℕ) → k < length s → get_or s k 0 < 128 → ((i : ℕ) → i < k → 128 ≤ get_or s i 0) → numbers_behind n s ≡ base128_behind n (take (suc k) s) ∷ numbers_behind 0 (drop (suc k) s)
cut_behind n [] k there low high = absurd (let h : k < 0 = there in omega arith)
cut_behind n (a ∷ s) zero there low high = ends_here n a s low
cut_behind n (a ∷ s) (suc k) there low high =
    let first : 128 ≤ a = high 0 (omega arith) in
    let near : k < length s = omega arith in
    goes_on n a s first ∙ cut_behind (n * 128 + a % 128) s k near low (λ i h. let g : suc i < suc k = omega arith in high (suc i) g)

pub cut_at : (s : List ℕ) (k : ℕ) → k < length s → get_or s k 0 < 128 → ((i : ℕ) → i < k → 128 ≤ get_or s i 0) → numbers_behind 0 s ≡ base128 (take (k + 1) s) ∷ numbers_behind 0 (drop (k + 1) s)
cut_at s k there low high = rw add-one (cut_behind 0 s k there low high)

-- Octets that all have bit 8 set, by their places.
high_tail : (a : ℕ) (v : List ℕ) → ((i : ℕ) → i < length (a ∷ v) → 128 ≤ get_or (a ∷ v) i 0) → (i : ℕ) → i < length v → 128 ≤ get_or v i 0
high_tail a v h i l = h (suc i) (let g : suc i < suc (length v) = omega arith in g)

pub none_ends_at : (n : ℕ) (v : List ℕ) → ((i : ℕ) → i < length v → 128 ≤ get_or v i 0) → numbers_behind n v ≡ []
none_ends_at n [] h = refl
none_ends_at n (a ∷ v) h =
    let first : 128 ≤ a = h 0 (let g : 0 < suc (length v) = omega arith in g) in
    goes_on n a v first ∙ none_ends_at (n * 128 + a % 128) v (high_tail a v h)

-- The two components of a first subidentifier, and no others.
root_of : (n : ℕ) → IsRoot n (first_of n) (second_of n)
root_of n = record { sum = omega arith; first = omega arith; second = λ h. omega arith }

first_is : (n x y : ℕ) → IsRoot n x y → x ≡ first_of n
first_is n x y r =
    let s = r.sum in
    let f = r.first in
    elim (cases_lt x 2) [ inl l ↦ let g = r.second l in omega arith | inr g ↦ omega arith ]

pub split_is : (ns : List ℕ) → AreComponents ns (split_first ns)
split_is [] = refl
split_is (n ∷ ns) = (root_of n, refl)

pub components_are : (ns cs : List ℕ) → AreComponents ns cs → cs ≡ split_first ns
components_are [] cs h = h
components_are (n ∷ ns) [] h = absurd h
components_are (n ∷ ns) (x ∷ []) h = absurd h
components_are (n ∷ ns) (x ∷ y ∷ cs) h =
    let e : x ≡ first_of n = first_is n x y h.0 in
    let s = h.0.sum in
    let d : y ≡ second_of n = omega arith in
    ap (λ (z : ℕ). z ∷ y ∷ cs) e ∙ ap (λ (z : ℕ). first_of n ∷ z ∷ cs) d ∙ ap (λ (z : List ℕ). first_of n ∷ second_of n ∷ z) h.1

-- Octets have one list of components.
pub one_list : (octets cs : List ℕ) → HasComponents octets cs → cs ≡ components_of octets
one_list octets cs h =
    components_are h.numbers cs h.components ∙ ap split_first (sym (numbers_are h.whole h.begun h.numbers h.spelled h.unended) ∙ ap (numbers_behind 0) (sym h.split))

-- One octet more of a slice.
pub base128_more : (s : List ℕ) (i : ℕ) → i < length s → base128 (take (i + 1) s) ≡ base128 (take i s) * 128 + get_or s i 0 % 128
base128_more s i h = ap base128 (take_more s i 0 h) ∙ base128_push 0 (take i s) (get_or s i 0)

-- A number that is capped at 2^33 shows a component below 2^32, and whether it is one.
pub far_at : (p : Place) (n : ℕ) → 2 ^ 32 ≤ number_at p (min n (2 ^ 33)) → 2 ^ 32 ≤ number_at p n
far_at First n h = omega arith
far_at Second n h = omega arith
far_at Later n h = omega arith

pub near_at : (p : Place) (n : ℕ) → number_at p (min n (2 ^ 33)) < 2 ^ 32 → number_at p n ≡ number_at p (min n (2 ^ 33))
near_at First n h = omega arith
near_at Second n h = omega arith
near_at Later n h = omega arith
