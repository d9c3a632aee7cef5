-- Chains that were walked, as a walk for lines remembers them.
use Rattle.std.specs.Prelude.{◌≡◌, ◌↔◌, ◌++◌, ◌∷◌, [], ℕ, List, length, slice_range}
use Rattle.rpki_walk.specs.resources.Resources.{Resources, HaveSame}
use Rattle.rpki_rules.specs.Words.{Mem}
use Rattle.rpki_walk.specs.declared.lines.remembered.Walked.{Walked}

-- The chain to an authority at this lookup key, with these keys, that holds so much, ends like one that was walked: of
-- `met`, the keys that are met below that one, each is on both or on neither.
pub record IsLike (met : List (List ℕ)) (one : Walked) (uri : List ℕ) (on : List (List ℕ))
    (held : Resources) : Type 0 where
  pub uri_is : one.uri ≡ uri
  pub count : length one.keys.items ≡ length on
  pub held_is : HaveSame one.held held
  pub agree : (key : List ℕ) → Mem (slice_range met one.from one.to) key
      → Mem one.keys.items key ↔ Mem on key

-- Since this place of the list stand the keys that are met below a chain which is remembered and ends like this one.
pub record IsRemembered (walked : List Walked) (met : List (List ℕ)) (uri : List ℕ)
    (on : List (List ℕ)) (held : Resources) (from : ℕ) : Type 0 where
  pub one : Walked
  pub in_list : Mem walked one
  pub from_is : one.from ≡ from
  pub like : IsLike met one uri on held

-- This one more is remembered.
pub record Remembers (old new : List Walked) (uri : List ℕ) (held : Resources)
    (on : List (List ℕ)) (from to : ℕ) : Type 0 where
  pub one : Walked
  pub added : new ≡ old ++ one ∷ []
  pub uri_is : one.uri ≡ uri
  pub held_is : one.held ≡ held
  pub keys_are : one.keys.items ≡ on
  pub from_is : one.from ≡ from
  pub to_is : one.to ≡ to
