-- Spellings of different modes: each is one of BER, and none is a proper front of another.
use Rattle.std.proofs.Common.{◌≡◌, ℕ, Bool, List, [], ◌∷◌, ◌++◌, sym, append-nil}
use Rattle.bcder_tree.specs.declared.mode.Mode.{Mode}
use Rattle.bcder_tree.specs.declared.mode.Mode.TheVariants.{Ber}
use Rattle.bcder_tree.specs.Tags.{TagValue}
use Rattle.bcder_tree.specs.Octets.{IsLength}
use Rattle.bcder_tree.specs.Tree.{Tree, Trees, primitive, constructed, none, more, IsHeader, IsConstructed, definite, indefinite, Spells, SpellsAll}
use Rattle.bcder_tree.specs.Front.{Front}
use Rattle.bcder_tree.proofs.Trees.{one_tree}

ber_length : (m : Mode) (l : List ℕ) (n : ℕ) → IsLength m l n → IsLength Ber l n
ber_length m [] n h = h
ber_length m (a ∷ []) n h = h
ber_length m (a ∷ b ∷ []) n h = (h.0, h.1, h.2, tt)
ber_length m (a ∷ b ∷ c ∷ []) n h = (h.0, h.1, h.2, h.3, tt)
ber_length m (a ∷ b ∷ c ∷ d ∷ []) n h = (h.0, h.1, h.2, h.3, h.4, tt)
ber_length m (a ∷ b ∷ c ∷ d ∷ e ∷ []) n h = (h.0, h.1, h.2, h.3, h.4, h.5, tt)
ber_length m (a ∷ b ∷ c ∷ d ∷ e ∷ f ∷ _) n h = h

-- A header of any mode is one of BER.
pub ber_header : {m : Mode} {h : List ℕ} {k : Bool} {t : TagValue} {n : ℕ} → IsHeader m h k t n → IsHeader Ber h k t n
ber_header {m} {n = n} h = record { identifier = h.identifier; size = h.size; whole = h.whole; tag = h.tag; identifier_is = h.identifier_is; size_is = ber_length m h.size n h.size_is }

ber_constructed : {m : Mode} {a : List ℕ} {t : TagValue} {c : List ℕ} → IsConstructed m a t c → IsConstructed Ber a t c
ber_constructed x =
    elim x [
      | definite p h i e ↦ definite tt h (ber_header i) e
      | indefinite p i g k e ↦ indefinite tt i g k e
    ]

mutual
  -- What spells a tree in any mode spells it in BER.
  pub to_ber : (m : Mode) (t : Tree) (octets : List ℕ) → Spells m t octets → Spells Ber t octets
  to_ber m (primitive t v) octets h = record { header = h.header; header_is = ber_header h.header_is; whole = h.whole }
  to_ber m (constructed t ts) octets h = (h.0, ber_constructed h.1, all_to_ber m ts h.0 h.2)

  -- What spells trees in any mode spells them in BER.
  pub all_to_ber : (m : Mode) (ts : Trees) (octets : List ℕ) → SpellsAll m ts octets → SpellsAll Ber ts octets
  all_to_ber m none octets h = h
  all_to_ber m (more t ts) octets h = (h.0, h.1, to_ber m t h.0 h.2, all_to_ber m ts h.1 h.3, h.4)

-- No spelling is a proper front of another, whatever their modes.
pub no_proper_front : (m n : Mode) (t u : Tree) (a b x : List ℕ) → Spells m t a → Spells n u b → b ≡ a ++ x → x ≡ []
no_proper_front m n t u a b x h g e =
    let f : Front m b t x = record { text = a; spelled = h; whole = e } in
    let all : Front n b u [] = record { text = b; spelled = g; whole = sym (append-nil b) } in
    (one_tree t u f all).1
