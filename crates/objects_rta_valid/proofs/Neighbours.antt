-- Neighbours on paths, and that there are paths.
use Rattle.std.proofs.Common.{◌≡◌, ℕ, List, [], ◌∷◌}
use Rattle.objects_rta_valid.specs.Nodes.{Node}
use Rattle.objects_rta_valid.specs.Paths.{AreSteps, At, Follows, IsPath}
use Rattle.objects_rta_valid.proofs.Completing.{goes_on}

follows_steps : (nodes : List Node) (seen : List ℕ) (c : Node) (place : ℕ) (places : List ℕ) → At nodes place c → Follows nodes seen c places → AreSteps nodes (place ∷ places)
follows_steps nodes seen c place [] at h = tt
follows_steps nodes seen c place (next ∷ places) at h =
    (record { c = c; parent = h.1.parent; at = at; at_parent = h.1.at; open_end = h.0; issues = h.1.issues; is_below = h.1.below }, follows_steps nodes (next ∷ seen) h.1.parent next places h.1.at h.2)

pub path_steps : (nodes : List Node) (sid : List ℕ) (places : List ℕ) → IsPath nodes sid places → AreSteps nodes places
path_steps nodes sid [] h = absurd h
path_steps nodes sid (place ∷ places) h = follows_steps nodes (place ∷ []) h.0 place places h.1 h.3

pub path_from : (nodes : List Node) (sid : List ℕ) (place : ℕ) (c : Node) → At nodes place c → c.subject ≡ sid → (places : List ℕ) × IsPath nodes sid places
path_from nodes sid place c at is =
    let behind = goes_on nodes (place ∷ []) c in
    (place ∷ behind.0, (c, at, is, behind.1))
