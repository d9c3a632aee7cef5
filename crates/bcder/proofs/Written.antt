-- Subidentifiers as they are written: the fewest octets.
use Rattle.std.proofs.Common.{◌≡◌, ◌≢◌, ℕ, ◌+◌, ◌*◌, ◌/◌, ◌%◌, ◌<◌, ◌≤◌, List, [], ◌∷◌, ◌++◌, refl, sym, ap, ◌∙◌, subst, arith, append_assoc}
use Rattle.std.proofs.lemmas.List.{append-nil}
use Rattle.std.proofs.lemmas.List.Elements.{All-push}
use Rattle.bcder.specs.Subidentifiers.{base128, IsShort, IsShortest, InTurn}
use Rattle.bcder.specs.Components.{AreComponents}
use Rattle.bcder.specs.OidTexts.{HighOctets, Spells}
use Rattle.bcder.proofs.Numbers.{base128_push}

-- Octets that were put after others, and one more after these.
pub longer : (old text mid new : List ℕ) (a : ℕ) → new ≡ mid ++ a ∷ [] → mid ≡ old ++ text → new ≡ old ++ (text ++ a ∷ [])
longer old text mid new a e f = e ∙ ap (λ (z : List ℕ). z ++ a ∷ []) f ∙ append_assoc old text (a ∷ [])

-- One octet after others.
short_push : (v : List ℕ) (a : ℕ) → IsShort v → (v ≡ [] → a ≢ 128) → IsShort (v ++ a ∷ [])
short_push [] a s h = h refl
short_push (b ∷ v) a s h = s

empty_none : (v : List ℕ) (n : ℕ) → base128 v ≡ n → v ≡ [] → n ≡ 0
empty_none v n e z = sym e ∙ ap base128 z

-- One octet more of a subidentifier, but the last.
pub high_more : (v : List ℕ) (n : ℕ) → 0 < n → HighOctets v (n / 128) → HighOctets (v ++ (128 + n % 128) ∷ []) n
high_more v n h o = record {
  more = All-push (λ a. 128 ≤ a) v (128 + n % 128) o.more (omega arith);
  value = base128_push 0 v (128 + n % 128) ∙ (let e = o.value in omega arith);
  short = short_push v (128 + n % 128) o.short (λ z f. let e = empty_none v (n / 128) o.value z in omega arith);
}

-- The last octet.
pub shortest : (v : List ℕ) (n : ℕ) → HighOctets v (n / 128) → IsShortest (v ++ (n % 128) ∷ []) n
shortest v n o = record {
  is = record {
    front = v;
    last = n % 128;
    whole = refl;
    more = o.more;
    ends = omega arith;
    value = base128_push 0 v (n % 128) ∙ (let e = o.value in omega arith);
  };
  short = short_push v (n % 128) o.short (λ z f. omega arith);
}

-- One more subidentifier.
pub turn_push : (octets text ns : List ℕ) (n : ℕ) → InTurn IsShortest octets ns → IsShortest text n → InTurn IsShortest (octets ++ text) (ns ++ n ∷ [])
turn_push octets text [] n t q = (text, [], ap (λ (z : List ℕ). z ++ text) t ∙ sym (append-nil text), q, refl)
turn_push octets text (m ∷ ns) n t q = (t.0, t.1 ++ text, ap (λ (z : List ℕ). z ++ text) t.2 ∙ append_assoc t.0 t.1 text, t.3, turn_push t.1 text ns n t.4 q)

-- The octets of components.
pub spells : (octets : List ℕ) (x y : ℕ) (others cs : List ℕ) → cs ≡ x ∷ y ∷ others → x ≤ 2 → (x < 2 → y < 40) → InTurn IsShortest octets ((40 * x + y) ∷ others) → Spells octets cs
spells octets x y others cs e f s t = record {
  numbers = (40 * x + y) ∷ others;
  spelled = t;
  components = subst (λ (z : List ℕ). AreComponents ((40 * x + y) ∷ others) z) (sym e) (record { sum = refl; first = f; second = s }, refl);
}
