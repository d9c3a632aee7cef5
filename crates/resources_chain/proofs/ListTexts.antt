-- Texts of lists, piece by piece.
use Rattle.std.proofs.Common.{◌≡◌, ◌≢◌, ℕ, suc, ◌⊎◌, List, [], ◌∷◌, ◌++◌, inl, inr, arith, sym, ap, ◌∙◌, subst, refl, append_assoc, append-nil}
use Rattle.std.specs.Prelude.{codes}
use Rattle.std.specs.List.{join_by, flat_map}
use Rattle.resources_chain.specs.Sets.{Run, InRuns, AreMaximal, IsRunsOf}
use Rattle.resources_chain.specs.Lists.{HasNoComma, CutsPiece, IsListText, IsSetText, Leaves, IsFirstPiece, HasFault, IsNoListText}
use Rattle.resources_chain.proofs.SetLemmas.{one_list}

-- A text is cut in one way.

comma_same : (a x b y : List ℕ) → HasNoComma a → HasNoComma b → a ++ 44 ∷ x ≡ b ++ 44 ∷ y → (a ≡ b) × (x ≡ y)
comma_same [] x [] y l m e = (refl, cc)
comma_same [] x (b ∷ bs) y l m e = absurd (m 0 (omega arith) (let h : 44 ≡ b = cc in sym h))
comma_same (a ∷ ds) x [] y l m e = absurd (l 0 (omega arith) (let h : a ≡ 44 = cc in h))
comma_same (a ∷ ds) x (b ∷ bs) y l m e =
    let heads : a ≡ b = cc in
    let tails : ds ++ 44 ∷ x ≡ bs ++ 44 ∷ y = cc in
    let rest = comma_same ds x bs y (λ i h. l (suc i) (omega arith)) (λ i h. m (suc i) (omega arith)) tails in
    (λ i. heads i ∷ rest.0 i, rest.1)

comma_there : (a x : List ℕ) → ¬ (HasNoComma (a ++ 44 ∷ x))
comma_there [] x l = l 0 (omega arith) refl
comma_there (a ∷ ds) x l = comma_there ds x (λ i h. l (suc i) (omega arith))

pub not_cut : (text piece rest : List ℕ) → CutsPiece text piece rest → HasNoComma text → ⊥
not_cut text piece rest c l = comma_there piece c.behind (subst (λ (t : List ℕ). HasNoComma t) c.whole l)

same_behind : (b r s : List ℕ) → (b ≡ 32 ∷ r) ⊎ ((b ≡ r) × ((tail : List ℕ) → b ≢ 32 ∷ tail)) → (b ≡ 32 ∷ s) ⊎ ((b ≡ s) × ((tail : List ℕ) → b ≢ 32 ∷ tail)) → r ≡ s
same_behind b r s (inl e) (inl f) = cc
same_behind b r s (inl e) (inr f) = absurd (f.1 r e)
same_behind b r s (inr e) (inl f) = absurd (e.1 s f)
same_behind b r s (inr e) (inr f) = sym e.0 ∙ f.0

pub cut_one : (text p r q s : List ℕ) → CutsPiece text p r → CutsPiece text q s → (p ≡ q) × (r ≡ s)
cut_one text p r q s c d =
    let parts = comma_same p c.behind q d.behind c.first d.first (sym c.whole ∙ d.whole) in
    (parts.0, same_behind d.behind r s (subst (λ (b : List ℕ). (b ≡ 32 ∷ r) ⊎ ((b ≡ r) × ((tail : List ℕ) → b ≢ 32 ∷ tail))) parts.1 c.space) d.space)

module _ (Writes : List ℕ → Run → Type 0) where
  -- One more piece is read.
  pub leaves_more : (text : List ℕ) (runs : List Run) (rest piece behind : List ℕ) (r : Run) → Leaves Writes text runs rest → CutsPiece rest piece behind → Writes piece r → Leaves Writes text (runs ++ r ∷ []) behind
  leaves_more text [] rest piece behind r e c w = (piece, behind, subst (λ (t : List ℕ). CutsPiece t piece behind) (sym e) c, w, refl)
  leaves_more text (s ∷ runs) rest piece behind r (p, b, d, v, l) c w = (p, b, d, v, leaves_more b runs rest piece behind r l c w)

  -- And the last.
  pub leaves_last : (text : List ℕ) (runs : List Run) (rest : List ℕ) (r : Run) → Leaves Writes text runs rest → HasNoComma rest → Writes rest r → IsListText Writes text (runs ++ r ∷ [])
  leaves_last text [] rest r e n w = subst (λ (t : List ℕ). HasNoComma t × Writes t r) (sym e) (n, w)
  leaves_last text (s ∷ []) rest r (p, b, d, v, e) n w = (p, b, d, v, subst (λ (t : List ℕ). HasNoComma t × Writes t r) (sym e) (n, w))
  leaves_last text (s ∷ t ∷ runs) rest r (p, b, d, v, l) n w = (p, b, d, v, leaves_last b (t ∷ runs) rest r l n w)

  -- A piece is faulty: one that a comma stands behind, or the last.
  pub fault_next : {Faulty : List ℕ → Type 0} (text : List ℕ) (runs : List Run) (rest piece behind : List ℕ) → Leaves Writes text runs rest → CutsPiece rest piece behind → Faulty piece → HasFault Writes Faulty text
  fault_next text runs rest piece behind l c f = record { runs = runs; rest = rest; piece = piece; leaves = l; first = inr (behind, c); faulty = f }

  pub fault_last : {Faulty : List ℕ → Type 0} (text : List ℕ) (runs : List Run) (rest : List ℕ) → Leaves Writes text runs rest → HasNoComma rest → Faulty rest → HasFault Writes Faulty text
  fault_last text runs rest l n f = record { runs = runs; rest = rest; piece = rest; leaves = l; first = inl (n, refl); faulty = f }

  -- Where a piece writes one run and the empty text none, a text is that of one list and of one set.
  module _ (once : (text : List ℕ) (r s : Run) → Writes text r → Writes text s → r ≡ s) (some : (r : Run) → ¬ (Writes [] r)) where
    no_cut_of_none : (piece rest : List ℕ) → ¬ (CutsPiece [] piece rest)
    no_cut_of_none piece rest c = not_cut [] piece rest c (λ k h. absurd (omega (arith, h)))

    pub list_once : (text : List ℕ) (a b : List Run) → IsListText Writes text a → IsListText Writes text b → a ≡ b
    list_once text [] [] h k = refl
    list_once text [] (s ∷ []) h k = absurd (some s (subst (λ (t : List ℕ). Writes t s) h k.1))
    list_once text [] (s ∷ t ∷ b) h k = absurd (no_cut_of_none k.0 k.1 (subst (λ (x : List ℕ). CutsPiece x k.0 k.1) h k.2))
    list_once text (r ∷ []) [] h k = absurd (some r (subst (λ (t : List ℕ). Writes t r) k h.1))
    list_once text (r ∷ []) (s ∷ []) h k = ap (λ (x : Run). x ∷ []) (once text r s h.1 k.1)
    list_once text (r ∷ []) (s ∷ t ∷ b) h k = absurd (not_cut text k.0 k.1 k.2 h.0)
    list_once text (r ∷ q ∷ a) [] h k = absurd (no_cut_of_none h.0 h.1 (subst (λ (x : List ℕ). CutsPiece x h.0 h.1) k h.2))
    list_once text (r ∷ q ∷ a) (s ∷ []) h k = absurd (not_cut text h.0 h.1 h.2 k.0)
    list_once text (r ∷ q ∷ a) (s ∷ t ∷ b) h k =
        let cut = cut_one text h.0 h.1 k.0 k.1 h.2 k.2 in
        let head : r ≡ s = once k.0 r s (subst (λ (x : List ℕ). Writes x r) cut.0 h.3) k.3 in
        let tail : (q ∷ a) ≡ (t ∷ b) = list_once k.1 (q ∷ a) (t ∷ b) (subst (λ (x : List ℕ). IsListText Writes x (q ∷ a)) cut.1 h.4) k.4 in
        λ i. head i ∷ tail i

    pub set_once : (text : List ℕ) (a b : List Run) → IsSetText Writes text a → IsSetText Writes text b → a ≡ b
    set_once text a b h k =
        let same = list_once text h.runs k.runs h.are k.are in
        let union = subst (λ (runs : List Run). IsRunsOf (InRuns runs) a) same h.union in
        one_list a b union.maximal k.union.maximal (λ n. (λ x. (k.union.same n).1 ((union.same n).0 x), λ x. (union.same n).1 ((k.union.same n).0 x)))

  -- Where a faulty piece writes no run, a text with one is that of no list.
  module _ (Faulty : List ℕ → Type 0) (bad : (piece : List ℕ) (r : Run) → Faulty piece → ¬ (Writes piece r)) where
    first_bad : (text piece : List ℕ) (r : Run) (runs : List Run) → IsFirstPiece text piece → Faulty piece → ¬ (IsListText Writes text (r ∷ runs))
    first_bad text piece r [] (inl f) b h = bad piece r b (subst (λ (t : List ℕ). Writes t r) f.1 h.1)
    first_bad text piece r [] (inr f) b h = not_cut text piece f.0 f.1 h.0
    first_bad text piece r (s ∷ runs) (inl f) b h = not_cut text h.0 h.1 h.2 f.0
    first_bad text piece r (s ∷ runs) (inr f) b h =
        bad piece r b (subst (λ (t : List ℕ). Writes t r) (cut_one text h.0 h.1 piece f.0 h.2 f.1).0 h.3)

    later_bad : (text : List ℕ) (front : List Run) (rest piece : List ℕ) (r : Run) (runs : List Run) → Leaves Writes text front rest → IsFirstPiece rest piece → Faulty piece → ¬ (IsListText Writes text (r ∷ runs))
    later_bad text [] rest piece r runs e f b h = first_bad rest piece r runs f b (subst (λ (t : List ℕ). IsListText Writes t (r ∷ runs)) e h)
    later_bad text (a ∷ front) rest piece r [] l f b h = not_cut text l.0 l.1 l.2 h.0
    later_bad text (a ∷ front) rest piece r (s ∷ runs) l f b h =
        later_bad l.1 front rest piece s runs l.4 f b (subst (λ (t : List ℕ). IsListText Writes t (s ∷ runs)) (cut_one text h.0 h.1 l.0 l.1 h.2 l.2).1 h.4)

    pub no_list : (text : List ℕ) → ¬ (text ≡ []) → HasFault Writes Faulty text → (runs : List Run) → ¬ (IsListText Writes text runs)
    no_list text some h [] e = some e
    no_list text some h (r ∷ runs) k = later_bad text h.runs h.rest h.piece r runs h.leaves h.first h.faulty k

    pub refuses_list : (text : List ℕ) → ¬ (text ≡ []) → HasFault Writes Faulty text → IsNoListText Writes Faulty text
    refuses_list text some h = record { fault = h; none = no_list text some h }

-- What is printed: the texts of the runs with `, ` between them.

module _ (Writes : List ℕ → Run → Type 0) (f : Run → List ℕ) where
  -- The text of each run has no comma, and writes it.
  abbrev pub AllWritten : List Run → Type 0
  AllWritten [] = Unit {0}
  AllWritten (r ∷ runs) = HasNoComma (f r) × Writes (f r) r × AllWritten runs

  pub list_printed : (runs : List Run) → AllWritten runs → IsListText Writes (join_by f (codes ", ") runs) runs
  list_printed [] w = refl
  list_printed (r ∷ []) w = subst (λ (t : List ℕ). HasNoComma t × Writes t r) (sym (append-nil (f r))) (w.0, w.1)
  list_printed (r ∷ s ∷ runs) w = (
    f r,
    join_by f (codes ", ") (s ∷ runs),
    record { behind = 32 ∷ join_by f (codes ", ") (s ∷ runs); whole = refl; first = w.0; space = inl refl },
    w.1,
    list_printed (s ∷ runs) w.2,
  )

-- Canonical runs of a set with a text each are read as the set.
pub set_printed : (Writes : List ℕ → Run → Type 0) (f : Run → List ℕ) (runs : List Run) → AreMaximal runs → AllWritten Writes f runs → IsSetText Writes (join_by f (codes ", ") runs) runs
set_printed Writes f runs m w = record {
  runs = runs;
  are = list_printed Writes f runs w;
  union = record { maximal = m; same = λ n. (λ i. i, λ i. i) };
}

-- One more piece is printed.
pub piece_printed : (f : Run → List ℕ) (text start : List ℕ) (left rest : List Run) (r : Run) → text ++ flat_map (λ s. codes ", " ++ f s) left ≡ start → left ≡ r ∷ rest → (text ++ (codes ", " ++ f r)) ++ flat_map (λ s. codes ", " ++ f s) rest ≡ start
piece_printed f text start left rest r e g =
    append_assoc text (codes ", " ++ f r) (flat_map (λ s. codes ", " ++ f s) rest) ∙ ap (λ (z : List Run). text ++ flat_map (λ s. codes ", " ++ f s) z) (sym g) ∙ e

-- All pieces are: the first, and those after it.
pub pieces_printed : (f : Run → List ℕ) (runs behind : List Run) (r : Run) → runs ≡ r ∷ behind → f r ++ flat_map (λ s. codes ", " ++ f s) behind ≡ join_by f (codes ", ") runs
pieces_printed f runs behind r e = ap (λ (z : List Run). join_by f (codes ", ") z) (sym e)
