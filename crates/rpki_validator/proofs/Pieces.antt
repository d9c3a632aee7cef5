-- What a write leaves of a text.
use Rattle.std.proofs.Common.{◌≡◌, ℕ, ◌-◌, List, ◌++◌, length, take, drop, append_assoc, take-append-drop}
use Rattle.std.proofs.lemmas.List.{take_rest}

-- A front of the rest joins what was taken, and `&rest[count..]` is left.
pub takes_more : (text taken rest : List ℕ) (count : ℕ) → text ≡ taken ++ rest
    → text ≡ (taken ++ take count rest) ++ take (length rest - count) (drop count rest)
takes_more text taken rest count whole = rw (take_rest rest count, append_assoc, take-append-drop) whole
