-- Verdicts in a table that ascends.
use Rattle.std.proofs.Common.{◌≡◌, ◌↔◌, ℕ, suc, inl, inr, Bool, true, false, IsTrue, ◌&&◌, ◌++◌, List, [], ◌∷◌, length, All, Option, Some, None, bytes_eq, refl, sym, ap, ◌∙◌, subst, arith}
use Rattle.std.proofs.lemmas.Slice.Eq.{bytes_eq-Decides}
use Rattle.std.specs.Cmp.{both_ways}
use Rattle.std.specs.List.{list_any}
use Rattle.std.specs.Prelude.{MatchOption, is_some}
use Rattle.rpki_standing.specs.rpki_bundle.declared.parts.Verdict.{Verdict}
use Rattle.rpki_standing.specs.rpki_bundle.Bundle.{verdict_row}
use Rattle.rpki_standing.specs.rpki_bundle.Lawful.{IsLawfulVerdict}
use Rattle.rpki_standing.specs.certs_basics.HandedIn.{Digests}
use Rattle.rpki_standing.specs.certs_basics.Keys.{KeyValue, encoded}
use Rattle.rpki_rules.specs.Words.{Mem}
use Rattle.rpki_rules.specs.World.{table}
use Rattle.rpki_rules.proofs.Lists.{any_mem, mem_any}
use Rattle.rpki_standing.specs.Places.{IsPlace}
use Rattle.rpki_standing.proofs.Places.{mem_place, place_mem}

-- Rows whose fronts are equally long are equal by parts.
parts : (a b x y : List ℕ) → length a ≡ length b → a ++ x ≡ b ++ y → (a ≡ b) × (x ≡ y)
parts [] [] x y l e = (refl, e)
parts [] (b ∷ bs) x y l e = absurd (omega arith)
parts (a ∷ p) [] x y l e = absurd (omega arith)
parts (a ∷ p) (b ∷ q) x y l e =
    let head : a ≡ b = cc in
    let tail : p ++ x ≡ q ++ y = cc in
    let r = parts p q x y (omega arith) tail in
    let front : p ≡ q = r.0 in
    (ap (λ (z : ℕ). z ∷ p) head ∙ ap (λ (z : List ℕ). b ∷ z) front, r.1)

same_fields : (x y : Verdict) → x.key ≡ y.key → x.message ≡ y.message → x.signature ≡ y.signature → x ≡ y
same_fields x y k m s = λ i. record { key = k i; message = m i; signature = s i }

-- The 96 octets tell the verdict.
one_row : (v w : Verdict) → IsLawfulVerdict v → IsLawfulVerdict w → verdict_row v ≡ verdict_row w → v ≡ w
one_row v w p q e =
    let first = parts v.key w.key (v.message ++ v.signature) (w.message ++ w.signature) (p.0 ∙ sym q.0) e in
    let second = parts v.message w.message v.signature w.signature (p.1 ∙ sym q.1) first.1 in
    same_fields v w first.0 second.0 second.1

-- Found is what stands there.
found_is : (vs : List Verdict) (v : Verdict) (r : Option ℕ) (answer : Bool) → ((w : Verdict) → Mem vs w → IsLawfulVerdict w) → IsLawfulVerdict v → answer ≡ is_some r
    → MatchOption r ((k : ℕ) → IsPlace verdict_row vs (verdict_row v) k → ⊥) (IsPlace verdict_row vs (verdict_row v))
    → IsTrue answer ↔ Mem vs v
found_is vs v None answer each digests e h =
    (λ t. let wrong : false ≡ true = sym e ∙ t in absurd cc, λ m. let p = mem_place verdict_row vs v m in absurd (h p.0 (p.1 (verdict_row v) refl)))
found_is vs v (Some k) answer each digests e h =
    (λ t. let p = place_mem verdict_row vs (verdict_row v) k h in subst (λ (w : Verdict). Mem vs w) (one_row p.0 v (each p.0 p.1) digests p.2) p.1, λ m. e)

-- What holds of all holds of each.
all_mem : {X : Type 0} (P : X → Type 0) (xs : List X) (x : X) → All P xs → Mem xs x → P x
all_mem P [] x h m = absurd m
all_mem P (y ∷ ys) x h (inl e) = subst P e (h 0 y (omega arith))
all_mem P (y ∷ ys) x h (inr m) = all_mem P ys x (λ k d l. h (suc k) d (omega (arith, l))) m

pub found_told : (us vs : List Verdict) (v : Verdict) (r : Option ℕ) (answer : Bool) → us ≡ vs → All IsLawfulVerdict vs → IsLawfulVerdict v → answer ≡ is_some r
    → MatchOption r ((k : ℕ) → IsPlace verdict_row us (verdict_row v) k → ⊥) (IsPlace verdict_row us (verdict_row v))
    → IsTrue answer ↔ Mem vs v
found_told us vs v r answer same each digests e h =
    found_is vs v r answer (λ w m. all_mem IsLawfulVerdict vs w each m) digests e
    (subst (λ (ws : List Verdict). MatchOption r ((k : ℕ) → IsPlace verdict_row ws (verdict_row v) k → ⊥) (IsPlace verdict_row ws (verdict_row v))) same h)

both : (a b : Bool) → a && b ≡ true → (a ≡ true) × (b ≡ true)
both true b e = (refl, e)
both false b e = absurd cc

all_true : (a b : Bool) → a ≡ true → b ≡ true → a && b ≡ true
all_true true b e f = f
all_true false b e f = absurd cc

-- The table's test answers whether the verdict stands there.
pub table_told : (vs : List Verdict) (d : Digests) (key : KeyValue) (has_null : Bool) (message signature : List ℕ) (v : Verdict) (answer : Bool)
    → v.key ≡ d.sha256 (encoded key) → v.message ≡ d.sha256 message → v.signature ≡ d.sha256 signature
    → (IsTrue answer ↔ Mem vs v) → answer ≡ table d vs key has_null message signature
table_told vs d key has_null message signature v answer ek em es h =
    let k = d.sha256 (encoded key) in let m = d.sha256 message in let s = d.sha256 signature in
    let test : Verdict → Bool = λ w. bytes_eq w.key k && (bytes_eq w.message m && bytes_eq w.signature s) in
    let passes : test v ≡ true = all_true _ _ ((bytes_eq-Decides v.key k).1 ek) (all_true _ _ ((bytes_eq-Decides v.message m).1 em) ((bytes_eq-Decides v.signature s).1 es)) in
    both_ways answer (list_any test vs)
    (λ t. mem_any test vs v (h.0 t) passes)
    (λ t.
    let f = any_mem test vs t in
    let w = f.0 in
    let x = both (bytes_eq w.key k) (bytes_eq w.message m && bytes_eq w.signature s) f.2 in
    let y = both (bytes_eq w.message m) (bytes_eq w.signature s) x.1 in
    let same : w ≡ v = same_fields w v ((bytes_eq-Decides w.key k).0 x.0 ∙ sym ek) ((bytes_eq-Decides w.message m).0 y.0 ∙ sym em) ((bytes_eq-Decides w.signature s).0 y.1 ∙ sym es) in
    h.1 (subst (λ (z : Verdict). Mem vs z) same f.1))
