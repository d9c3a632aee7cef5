-- The law of reading: what was consumed, and what is left after it.
use Rattle.std.proofs.Common.{◌≡◌, ℕ, suc, ◌+◌, ◌-◌, ◌≤◌, List, [], ◌∷◌, ◌++◌, length, take, drop, Option, Some, None, refl, sym, ap, ◌∙◌, append_assoc, add_assoc, length-append, arith}
use Rattle.std.proofs.lemmas.List.{take-append-drop, length-take-le}
use Rattle.std.proofs.Math.Seq.{drop-append_seam}
use Rattle.bcder_source.specs.Views.{View, limited, left, more_limit, Moved}

-- The octets in front of a limit that counts them.
take_sum : (a s : List ℕ) (m : ℕ) → take (length a + m) (a ++ s) ≡ a ++ take m s
take_sum [] s m = ap (λ (k : ℕ). take k s) (omega arith)
take_sum (x ∷ a) s m =
    let n : length (x ∷ a) + m ≡ suc (length a + m) = omega arith in
    ap (λ (k : ℕ). take k (x ∷ (a ++ s))) n ∙ ap (λ (z : List ℕ). x ∷ z) (take_sum a s m)

pub limited_sum : (a s : List ℕ) (l : Option ℕ) → limited (more_limit (length a) l) (a ++ s) ≡ a ++ limited l s
limited_sum a s None = refl
limited_sum a s (Some m) = take_sum a s m

-- Limits add up.
pub more_more : (n m : ℕ) (l : Option ℕ) → more_limit (n + m) l ≡ more_limit n (more_limit m l)
more_more n m None = refl
more_more n m (Some k) = ap (λ (z : ℕ). Some z) (add_assoc n m k)

-- What was consumed stood in front of what might be read, and what may be read comes after it.
pub left_moved : {old new : View} {text : List ℕ} → Moved old text new → left old ≡ text ++ left new
left_moved {old} {new} {text} m =
    ap (λ (l : Option ℕ). limited l old.rest) m.limit ∙ ap (λ (s : List ℕ). limited (more_limit (length text) new.limit) s) m.rest ∙ limited_sum text new.rest new.limit

-- Nothing consumed changes nothing.
pub moved_none : {v : View} → Moved v [] v
moved_none {v} = record { rest = refl; limit = at v.limit }
  where
    at : (l : Option ℕ) → l ≡ more_limit 0 l
    at None = refl
    at (Some n) = ap (λ (z : ℕ). Some z) (omega arith)

-- Two consumptions, one after the other, are one.
pub moved_both : {a b c : View} {x y : List ℕ} → Moved a x b → Moved b y c → Moved a (x ++ y) c
moved_both {a} {b} {c} {x} {y} m n = record {
  rest = m.rest ∙ ap (λ (z : List ℕ). x ++ z) n.rest ∙ sym (append_assoc x y c.rest);
  limit = m.limit ∙ ap (λ (z : Option ℕ). more_limit (length x) z) n.limit ∙ sym (more_more (length x) (length y) c.limit) ∙ ap (λ (z : ℕ). more_limit z c.limit) (sym (length-append x y));
}

-- A step of so many octets under a limit.
pub moved_on : (s r : List ℕ) (n l : ℕ) → r ≡ drop n s → n ≤ length s → n ≤ l → Moved (record { rest = s; limit = Some l }) (take n s) (record { rest = r; limit = Some (l - n) })
moved_on s r n l e there within = record {
  rest = sym (take-append-drop n s) ∙ ap (λ (z : List ℕ). take n s ++ z) (sym e);
  limit = ap (λ (z : ℕ). Some z) (omega (arith, length-take-le n s there));
}

-- What may be read after a step.
pub drop_moved : {old new : View} (n : ℕ) → n ≤ length old.rest → Moved old (take n old.rest) new → left new ≡ drop n (left old)
drop_moved {old} {new} n there m =
    let e : length (take n old.rest) ≡ n = length-take-le n old.rest there in
    sym (drop-append_seam (take n old.rest) (left new)) ∙ ap (λ (k : ℕ). drop k (take n old.rest ++ left new)) e ∙ ap (λ (z : List ℕ). drop n z) (sym (left_moved m))
