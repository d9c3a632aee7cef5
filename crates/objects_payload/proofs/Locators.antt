-- Octets are one trust anchor locator at most.
use Rattle.std.proofs.Common.{◌≡◌, ◌≢◌, ◌⊎◌, inl, inr, ℕ, zero, suc, ◌+◌, ◌*◌, ◌-◌, ◌/◌, ◌%◌, ◌<◌, Bool, true, false, List, [], ◌∷◌, ◌++◌, refl, sym, ap, ◌∙◌, subst, append_assoc, arith}
use Rattle.std.specs.Prelude.{◌==◌, ◌&&◌, not, if◌then◌else◌, nat_lt, map, filter, codes, All}
use Rattle.std.proofs.lemmas.List.Elements.{All-nil, All-cons, All-append, All-head, All-tail}
use Rattle.std.proofs.lemmas.Bool.{cases_eq}
use Rattle.std.proofs.lemmas.Bool.Decides.{nat_tests}
use Rattle.objects_payload.specs.certs_basics.Uris.{lower, IsUri}
use Rattle.objects_payload.specs.bcder_tree.declared.mode.Mode.TheVariants.{Der}
use Rattle.objects_payload.specs.certs_basics.Keys.{KeyValue, IsKey}
use Rattle.objects_payload.specs.bcder_content.Texts.{ReadsFront}
use Rattle.objects_payload.proofs.of_certs_basics.Values.{key_one}
use Rattle.objects_payload.proofs.of_certs_extension.Values.{reads_one}
use Rattle.objects_payload.specs.Locators.{NoReturnAtEnd, EndsLine, AreLines, IsComment, letter, base64, is_dropped, LocatorText}

-- Lines.

-- Up to the first LF.
pub to_feed : (r s u v : List ℕ) → All (λ c. c ≢ 10) r → All (λ c. c ≢ 10) s → r ++ 10 ∷ u ≡ s ++ 10 ∷ v → (r ≡ s) × (u ≡ v)
to_feed [] [] u v f g e = (refl, cc)
to_feed [] (d ∷ s) u v f g e = let k : d ≡ 10 = cc in absurd (All-head (λ c. c ≢ 10) d s g k)
to_feed (c ∷ r) [] u v f g e = let k : c ≡ 10 = cc in absurd (All-head (λ c. c ≢ 10) c r f k)
to_feed (c ∷ r) (d ∷ s) u v f g e =
    let k : c ≡ d = cc in
    let w : r ++ 10 ∷ u ≡ s ++ 10 ∷ v = cc in
    let t = to_feed r s u v (All-tail (λ c. c ≢ 10) c r f) (All-tail (λ c. c ≢ 10) d s g) w in
    let z : r ≡ s = t.0 in
    (cc, t.1)

-- A line with CR after it has no LF either.
with_return : (r : List ℕ) → All (λ c. c ≢ 10) r → All (λ c. c ≢ 10) (r ++ 13 ∷ [])
with_return r f = All-append (λ c. c ≢ 10) r (13 ∷ []) f (All-cons (λ c. c ≢ 10) 13 [] (λ e. omega (arith, e)) (All-nil (λ c. c ≢ 10)))

no_return : (r : List ℕ) → NoReturnAtEnd (r ++ 13 ∷ []) → ⊥
no_return [] n = n refl
no_return (c ∷ []) n = n refl
no_return (c ∷ d ∷ r) n = no_return (d ∷ r) n

pub same_before : (r s : List ℕ) → r ++ 13 ∷ [] ≡ s ++ 13 ∷ [] → r ≡ s
same_before [] [] e = refl
same_before [] (d ∷ []) e = absurd cc
same_before [] (d ∷ f ∷ s) e = absurd cc
same_before (c ∷ []) [] e = absurd cc
same_before (c ∷ d ∷ r) [] e = absurd cc
same_before (c ∷ r) (d ∷ s) e =
    let k : c ≡ d = cc in
    let w : r ++ 13 ∷ [] ≡ s ++ 13 ∷ [] = cc in
    let z : r ≡ s = same_before r s w in
    cc

behind_line : (line a u : List ℕ) → a ≡ line ++ 10 ∷ [] → a ++ u ≡ line ++ 10 ∷ u
behind_line line a u e = ap (λ (z : List ℕ). z ++ u) e ∙ append_assoc line (10 ∷ []) u

behind_return : (line a u : List ℕ) → a ≡ line ++ 13 ∷ 10 ∷ [] → a ++ u ≡ (line ++ 13 ∷ []) ++ 10 ∷ u
behind_return line a u e = ap (λ (z : List ℕ). z ++ u) e ∙ append_assoc line (13 ∷ 10 ∷ []) u ∙ sym (append_assoc line (13 ∷ []) (10 ∷ u))

-- One line stands in front.
one_line : (k l a b u v : List ℕ) → EndsLine k a → EndsLine l b → a ++ u ≡ b ++ v → (k ≡ l) × (u ≡ v)
one_line k l a b u v p q e = at p.end q.end
  where
    at : ((a ≡ k ++ 10 ∷ []) × NoReturnAtEnd k) ⊎ (a ≡ k ++ 13 ∷ 10 ∷ []) → ((b ≡ l ++ 10 ∷ []) × NoReturnAtEnd l) ⊎ (b ≡ l ++ 13 ∷ 10 ∷ []) → (k ≡ l) × (u ≡ v)
    at (inl f) (inl g) = to_feed k l u v p.one_line q.one_line (sym (behind_line k a u f.0) ∙ e ∙ behind_line l b v g.0)
    at (inl f) (inr g) =
        let t = to_feed k (l ++ 13 ∷ []) u v p.one_line (with_return l q.one_line) (sym (behind_line k a u f.0) ∙ e ∙ behind_return l b v g) in
        absurd (no_return l (subst NoReturnAtEnd t.0 f.1))
    at (inr f) (inl g) =
        let t = to_feed (k ++ 13 ∷ []) l u v (with_return k p.one_line) q.one_line (sym (behind_return k a u f) ∙ e ∙ behind_line l b v g.0) in
        absurd (no_return k (subst NoReturnAtEnd (sym t.0) g.1))
    at (inr f) (inr g) =
        let t = to_feed (k ++ 13 ∷ []) (l ++ 13 ∷ []) u v (with_return k p.one_line) (with_return l q.one_line) (sym (behind_return k a u f) ∙ e ∙ behind_return l b v g) in
        (same_before k l t.0, t.1)

-- Neither a comment nor the empty line is a URI.
begins : (scheme text uri : List ℕ) (first : ℕ) (others : List ℕ) → uri ≡ scheme ++ text → map lower scheme ≡ first ∷ others → (c : ℕ) × (behind : List ℕ) × (uri ≡ c ∷ behind) × (lower c ≡ first)
begins [] text uri first others w e = absurd cc
begins (c ∷ scheme) text uri first others w e = (c, scheme ++ text, w, cc)

pub uri_begins : (uri : List ℕ) → IsUri uri → (c : ℕ) × (behind : List ℕ) × (uri ≡ c ∷ behind) × (lower c ≢ 35)
uri_begins uri (inl r) = let b = begins r.scheme _ uri 114 (codes "sync://") r.whole r.scheme_is in (b.0, b.1, b.2, λ e. omega (arith, b.3, e))
uri_begins uri (inr r) = let b = begins r.scheme _ uri 104 (codes "ttps://") r.whole r.scheme_is in (b.0, b.1, b.2, λ e. omega (arith, b.3, e))

pub no_comment : (uri : List ℕ) → IsUri uri → IsComment uri → ⊥
no_comment uri u h =
    let b = uri_begins uri u in
    let k : IsComment (b.0 ∷ b.1) = subst IsComment b.2 h in
    b.3 (ap lower k)

pub not_empty : IsUri [] → ⊥
not_empty u = let b = uri_begins [] u in let k : [] ≡ b.0 ∷ b.1 = b.2 in absurd cc

-- URIs, the empty line, and what is after.
uris_one : (xs ys : List (List ℕ)) (a b c d u v : List ℕ) → AreLines xs a → AreLines ys b → All IsUri xs → All IsUri ys → EndsLine [] c → EndsLine [] d → a ++ (c ++ u) ≡ b ++ (d ++ v) → (xs ≡ ys) × (u ≡ v)
uris_one [] [] a b c d u v p q f g h i e =
    (refl, (one_line [] [] c d u v h i (ap (λ (z : List ℕ). z ++ (c ++ u)) (sym p) ∙ e ∙ ap (λ (z : List ℕ). z ++ (d ++ v)) q)).1)
uris_one [] (y ∷ ys) a b c d u v p q f g h i e =
    let w : c ++ u ≡ q.0 ++ (q.1 ++ (d ++ v)) = ap (λ (z : List ℕ). z ++ (c ++ u)) (sym p) ∙ e ∙ ap (λ (z : List ℕ). z ++ (d ++ v)) q.4 ∙ append_assoc q.0 q.1 (d ++ v) in
    let t = one_line [] y c q.0 u (q.1 ++ (d ++ v)) h q.2 w in
    absurd (not_empty (subst IsUri (sym t.0) (All-head IsUri y ys g)))
uris_one (x ∷ xs) [] a b c d u v p q f g h i e =
    let w : d ++ v ≡ p.0 ++ (p.1 ++ (c ++ u)) = ap (λ (z : List ℕ). z ++ (d ++ v)) (sym q) ∙ sym e ∙ ap (λ (z : List ℕ). z ++ (c ++ u)) p.4 ∙ append_assoc p.0 p.1 (c ++ u) in
    let t = one_line [] x d p.0 v (p.1 ++ (c ++ u)) i p.2 w in
    absurd (not_empty (subst IsUri (sym t.0) (All-head IsUri x xs f)))
uris_one (x ∷ xs) (y ∷ ys) a b c d u v p q f g h i e =
    let w : p.0 ++ (p.1 ++ (c ++ u)) ≡ q.0 ++ (q.1 ++ (d ++ v)) = sym (append_assoc p.0 p.1 (c ++ u)) ∙ ap (λ (z : List ℕ). z ++ (c ++ u)) (sym p.4) ∙ e ∙ ap (λ (z : List ℕ). z ++ (d ++ v)) q.4 ∙ append_assoc q.0 q.1 (d ++ v) in
    let t = one_line x y p.0 q.0 (p.1 ++ (c ++ u)) (q.1 ++ (d ++ v)) p.2 q.2 w in
    let r = uris_one xs ys p.1 q.1 c d u v p.3 q.3 (All-tail IsUri x xs f) (All-tail IsUri y ys g) h i t.1 in
    (ap (λ (z : List ℕ). z ∷ xs) t.0 ∙ ap (λ (zs : List (List ℕ)). y ∷ zs) r.0, r.1)

-- Comments in front of them; there is a URI after the comments, so none is taken for one.
lines_one : (cs ds xs ys : List (List ℕ)) (k l a b c d u v : List ℕ) → AreLines cs k → AreLines ds l → All IsComment cs → All IsComment ds → AreLines xs a → AreLines ys b → All IsUri xs → All IsUri ys → xs ≢ [] → ys ≢ [] → EndsLine [] c → EndsLine [] d → k ++ (a ++ (c ++ u)) ≡ l ++ (b ++ (d ++ v)) → (xs ≡ ys) × (u ≡ v)
lines_one [] [] xs ys k l a b c d u v m n o r p q f g s t h i e =
    uris_one xs ys a b c d u v p q f g h i (ap (λ (z : List ℕ). z ++ (a ++ (c ++ u))) (sym m) ∙ e ∙ ap (λ (z : List ℕ). z ++ (b ++ (d ++ v))) n)
lines_one [] (y ∷ ds) [] ys k l a b c d u v m n o r p q f g s t h i e = absurd (s refl)
lines_one [] (y ∷ ds) (x ∷ xs) ys k l a b c d u v m n o r p q f g s t h i e =
    let w : p.0 ++ (p.1 ++ (c ++ u)) ≡ n.0 ++ (n.1 ++ (b ++ (d ++ v))) = sym (append_assoc p.0 p.1 (c ++ u)) ∙ ap (λ (z : List ℕ). z ++ (c ++ u)) (sym p.4) ∙ ap (λ (z : List ℕ). z ++ (a ++ (c ++ u))) (sym m) ∙ e ∙ ap (λ (z : List ℕ). z ++ (b ++ (d ++ v))) n.4 ∙ append_assoc n.0 n.1 (b ++ (d ++ v)) in
    let z = one_line x y p.0 n.0 (p.1 ++ (c ++ u)) (n.1 ++ (b ++ (d ++ v))) p.2 n.2 w in
    absurd (no_comment x (All-head IsUri x xs f) (subst IsComment (sym z.0) (All-head IsComment y ds r)))
lines_one (x ∷ cs) [] xs [] k l a b c d u v m n o r p q f g s t h i e = absurd (t refl)
lines_one (x ∷ cs) [] xs (y ∷ ys) k l a b c d u v m n o r p q f g s t h i e =
    let w : q.0 ++ (q.1 ++ (d ++ v)) ≡ m.0 ++ (m.1 ++ (a ++ (c ++ u))) = sym (append_assoc q.0 q.1 (d ++ v)) ∙ ap (λ (z : List ℕ). z ++ (d ++ v)) (sym q.4) ∙ ap (λ (z : List ℕ). z ++ (b ++ (d ++ v))) (sym n) ∙ sym e ∙ ap (λ (z : List ℕ). z ++ (a ++ (c ++ u))) m.4 ∙ append_assoc m.0 m.1 (a ++ (c ++ u)) in
    let z = one_line y x q.0 m.0 (q.1 ++ (d ++ v)) (m.1 ++ (a ++ (c ++ u))) q.2 m.2 w in
    absurd (no_comment y (All-head IsUri y ys g) (subst IsComment (sym z.0) (All-head IsComment x cs o)))
lines_one (x ∷ cs) (y ∷ ds) xs ys k l a b c d u v m n o r p q f g s t h i e =
    let w : m.0 ++ (m.1 ++ (a ++ (c ++ u))) ≡ n.0 ++ (n.1 ++ (b ++ (d ++ v))) = sym (append_assoc m.0 m.1 (a ++ (c ++ u))) ∙ ap (λ (z : List ℕ). z ++ (a ++ (c ++ u))) (sym m.4) ∙ e ∙ ap (λ (z : List ℕ). z ++ (b ++ (d ++ v))) n.4 ∙ append_assoc n.0 n.1 (b ++ (d ++ v)) in
    let z = one_line x y m.0 n.0 (m.1 ++ (a ++ (c ++ u))) (n.1 ++ (b ++ (d ++ v))) m.2 n.2 w in
    lines_one cs ds xs ys m.1 n.1 a b c d u v m.3 n.3 (All-tail IsComment x cs o) (All-tail IsComment y ds r) p q f g s t h i z.1

-- Base 64.

-- The six bits of a letter; 64 for `=`.
value : ℕ → ℕ
value c =
    if nat_lt 96 c then c - 71
    else (if nat_lt 64 c then c - 65
    else (if c == 61 then 64
    else (if nat_lt 47 c then c + 4
    else (if c == 43 then 62 else 63))))

both_true : (a b : Bool) → (a && b) ≡ true → (a ≡ true) × (b ≡ true)
both_true true true e = (refl, refl)
both_true true false e = absurd cc
both_true false b e = absurd cc

is_equal : (m n : ℕ) → (m == n) ≡ true → m ≡ n
is_equal m n e = grind (arith, nat_tests)

-- A test that holds of each number below a bound.
holds_below : (ℕ → Bool) → ℕ → Bool
holds_below p zero = true
holds_below p (suc n) = p n && holds_below p n

told_below : (p : ℕ → Bool) (n k : ℕ) → holds_below p n ≡ true → k < n → p k ≡ true
unfolding holds_below
told_below p zero k e h = absurd (omega arith)
told_below p (suc n) k e h = elim (cases_eq k n) [
  | inl same ↦ rw same (both_true (p n) (holds_below p n) e).0
  | inr other ↦ told_below p n k (both_true (p n) (holds_below p n) e).1 (omega arith)
]

value_of_letter : (n : ℕ) → n < 64 → value (letter n) ≡ n
unfolding value holds_below
value_of_letter n h = is_equal _ _ (told_below (λ k. value (letter k) == k) 64 n refl h)

same_letter : (m n : ℕ) → m < 64 → n < 64 → letter m ≡ letter n → m ≡ n
same_letter m n h g e = sym (value_of_letter m h) ∙ ap value e ∙ value_of_letter n g

no_padding : {A : Type 0} (n : ℕ) → n < 64 → letter n ≡ 61 → A
unfolding value
no_padding n h e = let k : 64 ≡ n = ap value (sym e) ∙ value_of_letter n h in absurd (omega (arith, k))

one_decoded : (v w : List ℕ) → All (λ a. a < 256) v → All (λ a. a < 256) w → base64 v ≡ base64 w → v ≡ w
one_decoded [] [] f g e = refl
one_decoded [] (x ∷ []) f g e = absurd cc
one_decoded [] (x ∷ y ∷ []) f g e = absurd cc
one_decoded [] (x ∷ y ∷ z ∷ w) f g e = absurd cc
one_decoded (a ∷ []) [] f g e = absurd cc
one_decoded (a ∷ b ∷ []) [] f g e = absurd cc
one_decoded (a ∷ b ∷ c ∷ v) [] f g e = absurd cc
one_decoded (a ∷ []) (x ∷ []) f g e =
    let p = All-head (λ a. a < 256) a [] f in
    let q = All-head (λ a. a < 256) x [] g in
    let l1 : letter (a / 4) ≡ letter (x / 4) = cc in
    let l2 : letter (a % 4 * 16) ≡ letter (x % 4 * 16) = cc in
    let n1 = same_letter (a / 4) (x / 4) (omega (arith, p)) (omega (arith, q)) l1 in
    let n2 = same_letter (a % 4 * 16) (x % 4 * 16) (omega arith) (omega arith) l2 in
    let s : a ≡ x = omega (arith, n1, n2) in
    cc
one_decoded (a ∷ []) (x ∷ y ∷ []) f g e =
    let q = All-head (λ a. a < 256) y [] (All-tail (λ a. a < 256) x (y ∷ []) g) in
    let l : letter (y % 16 * 4) ≡ 61 = cc in no_padding (y % 16 * 4) (omega arith) l
one_decoded (a ∷ []) (x ∷ y ∷ z ∷ w) f g e =
    let q = All-head (λ a. a < 256) z w (All-tail (λ a. a < 256) y (z ∷ w) (All-tail (λ a. a < 256) x (y ∷ z ∷ w) g)) in
    let l : letter (z % 64) ≡ 61 = cc in no_padding (z % 64) (omega arith) l
one_decoded (a ∷ b ∷ []) (x ∷ []) f g e =
    let l : letter (b % 16 * 4) ≡ 61 = cc in no_padding (b % 16 * 4) (omega arith) l
one_decoded (a ∷ b ∷ c ∷ v) (x ∷ []) f g e =
    let l : letter (c % 64) ≡ 61 = cc in no_padding (c % 64) (omega arith) l
one_decoded (a ∷ b ∷ []) (x ∷ y ∷ z ∷ w) f g e =
    let l : letter (z % 64) ≡ 61 = cc in no_padding (z % 64) (omega arith) l
one_decoded (a ∷ b ∷ c ∷ v) (x ∷ y ∷ []) f g e =
    let l : letter (c % 64) ≡ 61 = cc in no_padding (c % 64) (omega arith) l
one_decoded (a ∷ b ∷ []) (x ∷ y ∷ []) f g e =
    let p = All-head (λ a. a < 256) a (b ∷ []) f in
    let q = All-head (λ a. a < 256) x (y ∷ []) g in
    let p2 = All-head (λ a. a < 256) b [] (All-tail (λ a. a < 256) a (b ∷ []) f) in
    let q2 = All-head (λ a. a < 256) y [] (All-tail (λ a. a < 256) x (y ∷ []) g) in
    let l1 : letter (a / 4) ≡ letter (x / 4) = cc in
    let l2 : letter (a % 4 * 16 + b / 16) ≡ letter (x % 4 * 16 + y / 16) = cc in
    let l3 : letter (b % 16 * 4) ≡ letter (y % 16 * 4) = cc in
    let n1 = same_letter (a / 4) (x / 4) (omega (arith, p)) (omega (arith, q)) l1 in
    let n2 = same_letter (a % 4 * 16 + b / 16) (x % 4 * 16 + y / 16) (omega (arith, p2)) (omega (arith, q2)) l2 in
    let n3 = same_letter (b % 16 * 4) (y % 16 * 4) (omega arith) (omega arith) l3 in
    let s : a ≡ x = omega (arith, n1, n2, p2, q2) in
    let t : b ≡ y = omega (arith, n2, n3, p2, q2) in
    cc
one_decoded (a ∷ b ∷ c ∷ v) (x ∷ y ∷ z ∷ w) f g e =
    let f1 = All-tail (λ a. a < 256) a (b ∷ c ∷ v) f in
    let g1 = All-tail (λ a. a < 256) x (y ∷ z ∷ w) g in
    let f2 = All-tail (λ a. a < 256) b (c ∷ v) f1 in
    let g2 = All-tail (λ a. a < 256) y (z ∷ w) g1 in
    let p = All-head (λ a. a < 256) a (b ∷ c ∷ v) f in
    let q = All-head (λ a. a < 256) x (y ∷ z ∷ w) g in
    let p2 = All-head (λ a. a < 256) b (c ∷ v) f1 in
    let q2 = All-head (λ a. a < 256) y (z ∷ w) g1 in
    let p3 = All-head (λ a. a < 256) c v f2 in
    let q3 = All-head (λ a. a < 256) z w g2 in
    let l1 : letter (a / 4) ≡ letter (x / 4) = cc in
    let l2 : letter (a % 4 * 16 + b / 16) ≡ letter (x % 4 * 16 + y / 16) = cc in
    let l3 : letter (b % 16 * 4 + c / 64) ≡ letter (y % 16 * 4 + z / 64) = cc in
    let l4 : letter (c % 64) ≡ letter (z % 64) = cc in
    let rest : base64 v ≡ base64 w = cc in
    let n1 = same_letter (a / 4) (x / 4) (omega (arith, p)) (omega (arith, q)) l1 in
    let n2 = same_letter (a % 4 * 16 + b / 16) (x % 4 * 16 + y / 16) (omega (arith, p2)) (omega (arith, q2)) l2 in
    let n3 = same_letter (b % 16 * 4 + c / 64) (y % 16 * 4 + z / 64) (omega (arith, p3)) (omega (arith, q3)) l3 in
    let n4 = same_letter (c % 64) (z % 64) (omega arith) (omega arith) l4 in
    let s : a ≡ x = omega (arith, n1, n2, p2, q2) in
    let t : b ≡ y = omega (arith, n2, n3, p2, q2, p3, q3) in
    let r : c ≡ z = omega (arith, n3, n4, p3, q3) in
    let o : v ≡ w = one_decoded v w (All-tail (λ a. a < 256) c v f2) (All-tail (λ a. a < 256) z w g2) rest in
    cc

four : (a b c d : List ℕ) → a ++ b ++ c ++ d ≡ a ++ (b ++ (c ++ d))
four a b c d = append_assoc (a ++ b) c d ∙ append_assoc a b (c ++ d)

-- Octets are one locator at most.
pub one_locator : (octets : List ℕ) (us us' : List (List ℕ)) (k k' : KeyValue) → LocatorText octets us k → LocatorText octets us' k' → (us ≡ us') × (k ≡ k')
one_locator octets us us' k k' p q =
    let r = lines_one p.comments q.comments us us' p.head q.head p.middle q.middle p.empty q.empty p.tail q.tail p.head_is q.head_is p.comments_are q.comments_are p.middle_is q.middle_is p.uris_are q.uris_are p.some q.some p.empty_is q.empty_is (sym (four p.head p.middle p.empty p.tail) ∙ sym p.whole ∙ q.whole ∙ four q.head q.middle q.empty q.tail) in
    let d = one_decoded p.decoded q.decoded p.decoded_octets q.decoded_octets (sym p.tail_is ∙ ap (λ (z : List ℕ). filter (λ c. not (is_dropped c)) z) r.1 ∙ q.tail_is) in
    (r.0, reads_one key_one q.decoded k k' (subst (λ (z : List ℕ). ReadsFront (IsKey Der) z k) d p.key_is) q.key_is)
