-- How printed components follow on each other.
use Rattle.std.proofs.Common.{◌≡◌, ℕ, List, [], ◌∷◌, ◌++◌, map, sym, ap, ◌∙◌, append_assoc}
use Rattle.std.specs.List.{join_with_byte}
use Rattle.std.proofs.lemmas.List.{append-nil}
use Rattle.bcder.specs.Components.{components_of}
use Rattle.bcder.specs.Printed.{component_text, behind_dots, oid_text}

-- The first component, and each other one after a dot.
joined : (n : ℕ) (ns : List ℕ) → component_text n ++ behind_dots ns ≡ join_with_byte 46 (map component_text (n ∷ ns))
joined n [] = append-nil (component_text n)
joined n (m ∷ ns) = ap (λ (z : List ℕ). component_text n ++ (46 ∷ z)) (joined m ns)

pub all_joined : (octets all : List ℕ) (n : ℕ) (ns : List ℕ) → all ≡ components_of octets → all ≡ n ∷ ns → component_text n ++ behind_dots ns ≡ oid_text octets
all_joined octets all n ns e f = joined n ns ∙ ap (λ (z : List ℕ). join_with_byte 46 (map component_text z)) (sym f ∙ e)

-- One more component.
pub one_more : (text start left rest : List ℕ) (n : ℕ) → text ++ behind_dots left ≡ behind_dots start → left ≡ n ∷ rest → (text ++ (46 ∷ component_text n)) ++ behind_dots rest ≡ behind_dots start
one_more text start left rest n e f = append_assoc text (46 ∷ component_text n) (behind_dots rest) ∙ ap (λ (z : List ℕ). text ++ behind_dots z) (sym f) ∙ e
