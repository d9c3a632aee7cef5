-- What the library's functions read and write.
use Rattle.std.specs.Prelude.{◌≡◌, ◌⊎◌, ℕ, ◌^◌, Bool, true, false, List, ◌++◌, drop, length}
use Rattle.example_c.specs.bcder_tree.declared.mode.Mode.TheVariants.{Der}
use Rattle.example_c.specs.bcder_tree.Front.{Front}
use Rattle.example_c.specs.bcder_tree.Tags.{integer_tag}
use Rattle.example_c.specs.bcder_tree.Tree.{Tree}
use Rattle.example_c.specs.bcder_content.Grammar.{OctetsOf}
use Rattle.example_c.specs.bcder_primitive.Values.{IsUnsigned}
use Rattle.bcder.specs.Kinds.{unsigned}

-- INTEGER (0..18446744073709551615) (X.690 8.3)
abbrev pub IsNumber : Tree → ℕ → Type 0
IsNumber = OctetsOf integer_tag (IsUnsigned (2 ^ 64))

-- The octets begin with the number, in DER; what is after it may be anything.
pub record Says (octets : List ℕ) (n : ℕ) : Type 0 where
  pub tree : Tree
  pub rest : List ℕ
  pub front : Front Der octets tree rest
  pub is : IsNumber tree n

-- Whether a number was read, and what is in its place.
abbrev pub Reads : List ℕ → Bool → ℕ → ℕ → Type 0
Reads octets true old new = Says octets new
Reads octets false old new = ((n : ℕ) → Says octets n → ⊥) × (new ≡ old)

-- The number's octets stand in front, so many of them, and after them what stood there.
pub record Stands (n count : ℕ) (old new : List ℕ) : Type 0 where
  pub text : List ℕ
  pub text_is : (unsigned (2 ^ 64)).writes n Der text
  pub count_is : count ≡ length text
  pub now : new ≡ text ++ drop count old

-- They were written, or none was, and nothing has changed.
abbrev pub Writes : ℕ → ℕ → List ℕ → List ℕ → Type 0
Writes n count old new = Stands n count old new ⊎ ((count ≡ 0) × (new ≡ old))
