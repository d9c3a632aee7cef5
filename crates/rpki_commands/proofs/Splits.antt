-- A list in two parts.
use Rattle.std.proofs.Common.{◌≡◌, ℕ, List, ◌++◌, take, drop, sym, ap, ◌∙◌}
use Rattle.std.proofs.lemmas.List.{take-append-drop}

pub split_whole : (n : ℕ) (s a b : List ℕ) → a ≡ take n s → b ≡ drop n s → s ≡ a ++ b
split_whole n s a b p q = sym (take-append-drop n s) ∙ ap (λ (x : List ℕ). x ++ drop n s) (sym p) ∙ ap (λ (y : List ℕ). a ++ y) (sym q)
