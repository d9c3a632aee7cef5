-- All octets of a primitive content, which are at hand.
use Rattle.std.proofs.Common.{◌≡◌, ℕ, ◌≤◌, Some, false, List, length, take, drop, refl, sym, ap, ◌∙◌, subst}
use Rattle.bcder_primitive.specs.Plain.{OctetsLeft, GoesBy, WholeOctets, LacksOctets, GivesOctets}
use Rattle.bcder_primitive.specs.Values.{AnyOctets}
use Rattle.bcder_content.proofs.of_bcder_primitive.Primitives.{gives_whole, lacks_whole}
use Rattle.bcder_content.specs.Ahead.{HasOctets}

-- Octets at hand are all that is left, where they are as many as the limit says.
pub whole_there : {p : OctetsLeft} {n : ℕ} → p.failed ≡ false → p.limit ≡ Some n → n ≤ length p.rest → WholeOctets p (take n p.rest)
whole_there {p} {n} sound limit there =
    let given : GivesOctets AnyOctets p (take n p.rest) (record p { rest = drop n p.rest; limit = Some 0 }) = gives_whole AnyOctets sound limit there (record { same = refl }) refl in
    record { behind = record p { rest = drop n p.rest; limit = Some 0 }; goes = subst (λ (z : List ℕ). GoesBy p z (record p { rest = drop n p.rest; limit = Some 0 })) given.is.same given.goes; drained = record { sound = sound; ends = refl } }

-- So all that is left is of the grammar, where they are.
pub has_whole : {A : Type 0} (P : List ℕ → A → Type 0) {p q : OctetsLeft} {n : ℕ} {s : List ℕ} {x : A} → q ≡ p → p.failed ≡ false → p.limit ≡ Some n → n ≤ length q.rest → s ≡ take n q.rest → P s x → HasOctets P p
has_whole {A} P {p} {q} {n} {s} {x} same sound limit there front is =
    let rest : q.rest ≡ p.rest = ap (λ (v : OctetsLeft). v.rest) same in
    let near : n ≤ length p.rest = subst (λ (z : List ℕ). n ≤ length z) rest there in
    record {
      text = take n p.rest;
      value = x;
      is = subst (λ (z : List ℕ). P z x) (front ∙ ap (take n) rest) is;
      whole = whole_there sound limit near;
    }

-- All octets of a content were passed over, which are of the grammar.
pub gives_front : {A : Type 0} (P : List ℕ → A → Type 0) {old mid new : OctetsLeft} {n : ℕ} {s : List ℕ} {x : A} → mid ≡ old → old.failed ≡ false → old.limit ≡ Some n → s ≡ take n mid.rest → n ≤ length mid.rest → P s x
    → new ≡ record mid { rest = drop n mid.rest; limit = Some 0 } → GivesOctets P old x new
gives_front {A} P {old} {mid} {new} {n} {s} {x} same sound limit front there is e =
    let rest : mid.rest ≡ old.rest = ap (λ (v : OctetsLeft). v.rest) same in
    let all : s ≡ take n old.rest = front ∙ ap (take n) rest in
    let near : n ≤ length old.rest = subst (λ (z : List ℕ). n ≤ length z) rest there in
    gives_whole P sound limit near (subst (λ (z : List ℕ). P z x) all is) (e ∙ ap (λ (v : OctetsLeft). record v { rest = drop n v.rest; limit = Some 0 }) same)

-- There are no such octets.
pub lacks_any : {A : Type 0} (P : List ℕ → A → Type 0) (p : OctetsLeft) → ((text : List ℕ) → WholeOctets p text → ⊥) → LacksOctets P p
lacks_any P p none = record { none = λ text x is w. none text w }

-- Octets at hand that aren't of the grammar.
pub lacks_front : {A : Type 0} (P : List ℕ → A → Type 0) {old mid : OctetsLeft} {n : ℕ} {s : List ℕ} → mid ≡ old → old.limit ≡ Some n → s ≡ take n mid.rest → ((x : A) → P s x → ⊥) → LacksOctets P old
lacks_front {A} P {old} {mid} {n} {s} same limit front none =
    let all : s ≡ take n old.rest = front ∙ ap (λ (v : OctetsLeft). take n v.rest) same in
    lacks_whole P limit (λ x is. none x (subst (λ (z : List ℕ). P z x) (sym all) is))
