-- Accepted chains that name one of some URIs.
use Rattle.std.specs.Prelude.{◌≡◌, ◌↔◌, ℕ, List, map}
use Rattle.std.specs.Cmp.Lexicographic.{slice_cmp}
use Rattle.std.specs.List.Sorted.{IsStrictlySortedBy}
use Rattle.std.specs.Ordering.{nat_cmp, ordering_then}
use Rattle.std.specs.declared.cmp.Ordering.{Ordering}
use Rattle.rpki_rules.specs.Views.{PathValue, path_of}
use Rattle.rpki_rules.specs.Chains.{Accepted, last_of, places}
use Rattle.rpki_rules.specs.Points.{Link}
use Rattle.rpki_rules.specs.Reach.{NamesOne}
use Rattle.rpki_rules.specs.Words.{Mem}
use Rattle.rpki_rules.specs.World.{World}
use Rattle.rpki_walk.specs.Facts.{Finding, Refuses, Shows, Originates, Provides, Reaches, Chains, Diagnoses, Unheld}
use Rattle.rpki_walk.specs.declared.reach.chains.Namer.{Namer}

-- The locator's name and the lookup keys are those of an accepted chain whose last certificate names one of the URIs: its
-- manifest's, or one of those that a manifest there lists.
pub record IsNamingChain (uris : List (List ℕ)) (w : World) (v : PathValue) : Type 0 where
  pub anchor : Link
  pub below : List Link
  pub accepted : Accepted w v.locator anchor below
  pub places_are : v.chain ≡ places anchor below
  pub names : NamesOne uris w (last_of anchor below).cert

-- By locator, then by chain, as octets.
abbrev pub path_cmp : PathValue → PathValue → Ordering
path_cmp v u =
    ordering_then (slice_cmp nat_cmp v.locator u.locator)
    (slice_cmp (slice_cmp nat_cmp) v.chain u.chain)

-- Exactly those chains, each once, in order.
pub record AreNamingChains (uris : List (List ℕ)) (w : World) (ps : List PathValue) : Type 0 where
  pub ascend : IsStrictlySortedBy path_cmp ps
  pub exact : (v : PathValue) → Mem ps v ↔ IsNamingChain uris w v

-- What was found has this.
abbrev pub has_chained : Namer → Finding → Type 0
has_chained n (Refuses name why) = ⊥
has_chained n (Shows t) = ⊥
has_chained n (Originates o) = ⊥
has_chained n (Provides p) = ⊥
has_chained n (Reaches k m) = ⊥
has_chained n (Chains v) = Mem (map (λ p. path_of p.value) n.paths.items) v
has_chained n (Diagnoses d) = ⊥
has_chained n (Unheld d numbers) = ⊥

-- By which chains is reached, and nothing else.
abbrev pub IsChains : Finding → Type 0
IsChains (Refuses name why) = ⊥
IsChains (Shows t) = ⊥
IsChains (Originates o) = ⊥
IsChains (Provides p) = ⊥
IsChains (Reaches k n) = ⊥
IsChains (Chains v) = Unit {0}
IsChains (Diagnoses d) = ⊥
IsChains (Unheld d numbers) = ⊥
