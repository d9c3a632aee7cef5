-- A text of a length that is known is read from the octets that lie at hand.
use Rattle.std.proofs.Common.{◌≡◌, ℕ, ◌+◌, ◌<◌, ◌≤◌, suc, zero, true, false, inl, inr, List, [], ◌∷◌, length, take, Option, Some, None, refl, sym, ap, ◌∙◌, subst, take_at, take_all, arith}
use Rattle.std.proofs.lemmas.Bool.{cases_lt}
use Rattle.std.proofs.lemmas.List.{length-take}
use Rattle.std.specs.Prelude.{min}
use Rattle.certs_basics.specs.bcder_source.Views.{Moved, left, limited, more_limit}
use Rattle.certs_basics.specs.bcder_primitive.Plain.{OctetsLeft, octets_in, GoesBy, WholeOctets, LacksOctets, GivesOctets}

-- Each text of P has that length.
pub record IsFixed {A : Type 0} (P : List ℕ → A → Type 0) (n : ℕ) : Type 0 where
  pub long : (text : List ℕ) (x : A) → P text x → length text ≡ n

take_take : (n m : ℕ) (xs : List ℕ) → n ≤ m → take n (take m xs) ≡ take n xs
take_take zero m xs h = refl
take_take (suc n) zero xs h = absurd (omega arith)
take_take (suc n) (suc m) [] h = refl
take_take (suc n) (suc m) (x ∷ xs) h = ap (λ (z : List ℕ). x ∷ z) (take_take n m xs (omega arith))

-- A front of the octets up to a limit is one of all.
limited_front : (l : Option ℕ) (n : ℕ) (rest : List ℕ) → n ≤ length (limited l rest) → take n (limited l rest) ≡ take n rest
limited_front None n rest h = refl
limited_front (Some m) n rest h = take_take n m rest (omega (arith, length-take m rest))

-- A content of n octets is limited to them.
more_none : (n : ℕ) (l : Option ℕ) → more_limit n l ≡ more_limit n (Some 0) → l ≡ Some 0
more_none n None e = absurd cc
more_none n (Some m) e = let sums : n + m ≡ n + 0 = cc in ap (λ (z : ℕ). Some z) (omega arith)

whole_limit : {p : OctetsLeft} {text : List ℕ} → WholeOctets p text → p.limit ≡ more_limit (length text) (Some 0)
whole_limit {p} {text} w = w.goes.moved.limit ∙ ap (more_limit (length text)) w.drained.ends

-- A content that failed has no text.
pub failed_lacks : {A : Type 0} {P : List ℕ → A → Type 0} {p : OctetsLeft} → p.failed ≡ true → LacksOctets P p
failed_lacks e = record { none = λ text x d w. let bad : true ≡ false = sym e ∙ w.goes.before in absurd cc }

-- What lies at hand is a text, and is gone past.
pub fixed_gives : {A : Type 0} {P : List ℕ → A → Type 0} {old mid new : OctetsLeft} {slice : List ℕ} {x : A} (n k : ℕ) → IsFixed P n → P slice x → old.failed ≡ false → mid ≡ old → slice ≡ take k (left (octets_in mid)) → k ≤ length (left (octets_in mid)) → Moved (octets_in mid) (take n mid.rest) (octets_in new) → new.mode ≡ mid.mode → new.failed ≡ mid.failed → GivesOctets P old x new
fixed_gives {P = P} {old} {mid} {new} {slice} {x} n k fixed is sound same shown there moved mode failed =
    let long : length slice ≡ n = fixed.long slice x is in
    let counted : length slice ≡ min k (length (left (octets_in mid))) = ap length shown ∙ length-take k (left (octets_in mid)) in
    let count : k ≡ n = omega arith in
    let enough : n ≤ length (left (octets_in mid)) = omega arith in
    let front : slice ≡ take n mid.rest = shown ∙ ap (λ (c : ℕ). take c (left (octets_in mid))) count ∙ limited_front mid.limit n mid.rest enough in
    let size : length (take n mid.rest) ≡ n = ap length (sym front) ∙ long in
    record {
      text = take n mid.rest;
      is = subst (λ (z : List ℕ). P z x) front is;
      goes = subst (λ (p : OctetsLeft). GoesBy p (take n mid.rest) new) same
          (record { moved = moved; mode = mode; before = ap (λ (p : OctetsLeft). p.failed) same ∙ sound; behind = failed ∙ ap (λ (p : OctetsLeft). p.failed) same ∙ sound });
      only = λ goes_on. record {
        none = λ text y d w.
            let whole : old.limit ≡ more_limit n (Some 0) = whole_limit w ∙ ap (λ (c : ℕ). more_limit c (Some 0)) (fixed.long text y d) in
            let now : mid.limit ≡ more_limit n new.limit = moved.limit ∙ ap (λ (c : ℕ). more_limit c new.limit) size in
            let end : new.limit ≡ Some 0 = more_none n new.limit (sym now ∙ ap (λ (p : OctetsLeft). p.limit) same ∙ whole) in
            goes_on (record { sound = failed ∙ ap (λ (p : OctetsLeft). p.failed) same ∙ sound; ends = end });
      };
    }

by_le : (n k : ℕ) → (k < n → n ≤ k) → n ≤ k
by_le n k f = elim (cases_lt k n) [ inl less ↦ f less | inr le ↦ le ]

-- What lies at hand is no text, though so many octets were asked for.
pub fixed_lacks : {A : Type 0} {P : List ℕ → A → Type 0} {old mid : OctetsLeft} {slice : List ℕ} (n count k : ℕ) → IsFixed P n → mid ≡ old → slice ≡ take k (left (octets_in mid)) → k ≤ length (left (octets_in mid)) → count ≡ k → (count < n → count ≡ length (left (octets_in mid))) → ((x : A) → P slice x → ⊥) → LacksOctets P old
fixed_lacks {A} {P} {old} {mid} {slice} n count k fixed same shown there asked enough refuses = record {
  none = λ text x d w.
      let u : WholeOctets mid text = subst (λ (p : OctetsLeft). WholeOctets p text) (sym same) w in
      let long : length text ≡ n = fixed.long text x d in
      let limit : mid.limit ≡ Some (length text + 0) = whole_limit u in
      let all : left (octets_in mid) ≡ text = ap (λ (l : Option ℕ). limited l mid.rest) limit ∙ ap (take (length text + 0)) u.goes.moved.rest ∙ take_at text u.behind.rest (length text + 0) (omega arith) in
      let size : length (left (octets_in mid)) ≡ n = ap length all ∙ long in
      let few : k ≤ n = omega arith in
      let many : n ≤ k = by_le n k (λ less. let whole = enough (subst (λ (z : ℕ). z < n) (sym asked) less) in omega arith) in
      let front : slice ≡ text = shown ∙ ap (take k) all ∙ take_all k text (omega arith) in
      refuses x (subst (λ (z : List ℕ). P z x) (sym front) d);
}
