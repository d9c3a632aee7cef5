-- A list that grows by what another one says.
use Rattle.std.proofs.Common.{◌≡◌, List, ◌++◌, map}
use Rattle.rpki_standing.specs.Views.{Extends}

-- What is seen of the list, with what the items that are left say, is what was seen of it, with what all items say.
pub record Added {X Y A : Type 0} (f : X → Y) (g : A → Y) (old now : List X) (all left : List A) : Type 0 where
  pub seen : map f now ++ map g left ≡ map f old ++ map g all
  pub kept : Extends old now
