-- Whatever was seen, a path goes on from a certificate to an end.
use Rattle.std.proofs.Common.{◌≡◌, ◌⊎◌, ℕ, zero, suc, ◌+◌, ◌<◌, ◌≤◌, ◌||◌, Bool, true, false, cond, nat_eq, List, [], ◌∷◌, length, inl, inr, ap, ◌∙◌, arith}
use Rattle.std.proofs.lemmas.Bool.{cases_eq, eq-eqb}
use Rattle.objects_rta_valid.specs.Nodes.{Node, IsSelfSigned}
use Rattle.objects_rta_valid.specs.Paths.{Continues, Follows}
use Rattle.objects_rta_valid.specs.OnPaths.{has}
use Rattle.objects_rta_valid.proofs.Deciding.{next_told, self_told}
use Rattle.objects_rta_valid.proofs.Members.{at_inside, not_has}

-- How many places below that number aren't seen.
abbrev pub fresh : ℕ → List ℕ → ℕ
fresh zero seen = 0
fresh (suc n) seen = cond (has seen n) 0 1 + fresh n seen

fewer : (a b : Bool) → cond (a || b) 0 1 ≤ cond b 0 1
fewer true true = omega arith
fewer true false = omega arith
fewer false true = omega arith
fewer false false = omega arith

fresh_fewer : (n : ℕ) (seen : List ℕ) (x : ℕ) → fresh n (x ∷ seen) ≤ fresh n seen
fresh_fewer zero seen x = omega arith
fresh_fewer (suc n) seen x =
    let here : cond (has (x ∷ seen) n) 0 1 ≤ cond (has seen n) 0 1 = fewer (nat_eq n x) (has seen n) in
    let below : fresh n (x ∷ seen) ≤ fresh n seen = fresh_fewer n seen x in
    omega arith

-- One place more that is seen leaves one fewer.
pub fresh_less : (n : ℕ) (seen : List ℕ) (x : ℕ) → x < n → has seen x ≡ false → fresh n (x ∷ seen) + 1 ≤ fresh n seen
fresh_less zero seen x l e = absurd (omega arith)
fresh_less (suc n) seen x l e = go (λ (apart : n ≡ x → ⊥). fresh_less n seen x (omega arith) e) (cases_eq n x)
  where
    go : ((n ≡ x → ⊥) → fresh n (x ∷ seen) + 1 ≤ fresh n seen) → (n ≡ x) ⊎ (n ≡ x → ⊥) → fresh (suc n) (x ∷ seen) + 1 ≤ fresh (suc n) seen
    go less (inl same) =
        let hit : nat_eq n x ≡ true = eq-eqb n x same in
        let new : ◌≡◌ {A = ℕ} (cond (has (x ∷ seen) n) 0 1) 0 = ap (λ (t : Bool). let k : ℕ = cond (t || has seen n) 0 1 in k) hit in
        let old : ◌≡◌ {A = ℕ} (cond (has seen n) 0 1) 1 = ap (λ (t : Bool). let k : ℕ = cond t 0 1 in k) (ap (λ (y : ℕ). has seen y) same ∙ e) in
        let below : fresh n (x ∷ seen) ≤ fresh n seen = fresh_fewer n seen x in
        omega arith
    go less (inr other) =
        let here : cond (has (x ∷ seen) n) 0 1 ≤ cond (has seen n) 0 1 = fewer (nat_eq n x) (has seen n) in
        let below : fresh n (x ∷ seen) + 1 ≤ fresh n seen = less other in
        omega arith

pub completes : (nodes : List Node) (fuel : ℕ) (seen : List ℕ) (c : Node) → fresh (length nodes) seen ≤ fuel → (rest : List ℕ) × Follows nodes seen c rest
completes nodes zero seen c few = go (self_told c) (next_told nodes seen c (length nodes))
  where
    go : IsSelfSigned c ⊎ (IsSelfSigned c → ⊥) → ((place : ℕ) × Continues nodes seen c place) ⊎ ((place : ℕ) → place < length nodes → Continues nodes seen c place → ⊥) → (rest : List ℕ) × Follows nodes seen c rest
    go (inl is) next = ([], inl is)
    go (inr isnt) (inr none) = ([], inr (λ place h. none place (at_inside nodes place h.parent h.at) h))
    go (inr isnt) (inl some) =
        let h = some.1 in
        let less = fresh_less (length nodes) seen some.0 (at_inside nodes some.0 h.parent h.at) (not_has seen some.0 h.unseen) in
        absurd (omega arith)
completes nodes (suc fuel) seen c few = go (λ seen c few. completes nodes fuel seen c few) (self_told c) (next_told nodes seen c (length nodes))
  where
    go : ((seen : List ℕ) (c : Node) → fresh (length nodes) seen ≤ fuel → (rest : List ℕ) × Follows nodes seen c rest) → IsSelfSigned c ⊎ (IsSelfSigned c → ⊥) → ((place : ℕ) × Continues nodes seen c place) ⊎ ((place : ℕ) → place < length nodes → Continues nodes seen c place → ⊥) → (rest : List ℕ) × Follows nodes seen c rest
    go more (inl is) next = ([], inl is)
    go more (inr isnt) (inr none) = ([], inr (λ place h. none place (at_inside nodes place h.parent h.at) h))
    go more (inr isnt) (inl some) =
        let h = some.1 in
        let less = fresh_less (length nodes) seen some.0 (at_inside nodes some.0 h.parent h.at) (not_has seen some.0 h.unseen) in
        let behind = more (some.0 ∷ seen) h.parent (omega arith) in
        (some.0 ∷ behind.0, (isnt, h, behind.1))

-- So there is always a way on.
pub goes_on : (nodes : List Node) (seen : List ℕ) (c : Node) → (rest : List ℕ) × Follows nodes seen c rest
goes_on nodes seen c = completes nodes (fresh (length nodes) seen) seen c (omega arith)
