-- What stands around the content octets of a constructed value (X.690 8.1.3.6, 8.1.5, 9.1, 10.1).
use Rattle.std.specs.Prelude.{◌≡◌, ℕ, true, List, [], ◌∷◌, ◌++◌}
use Rattle.bcder_values.specs.bcder_tree.declared.mode.Mode.{Mode}
use Rattle.bcder_values.specs.bcder_tree.declared.mode.Mode.TheVariants.{Ber, Cer, Der}
use Rattle.bcder_values.specs.bcder_tree.Tags.{TagValue, IsTag}
use Rattle.bcder_values.specs.bcder_tree.Octets.{IsIdentifier}
use Rattle.bcder_values.specs.bcder_primitive.Headers.{IsHeaderIn}

-- Identifier octets and `80`, for an indefinite length.
pub record IsOpen (t : TagValue) (text : List ℕ) : Type 0 where
  pub identifier : List ℕ
  pub tag : IsTag t
  pub identifier_is : IsIdentifier identifier true t
  pub whole : text ≡ identifier ++ (128 ∷ [])

-- In front of n content octets: in CER for an indefinite length, else with a definite one.
abbrev pub IsOpening : Mode → TagValue → ℕ → List ℕ → Type 0
IsOpening Ber t n text = IsHeaderIn true t n text
IsOpening Cer t n text = IsOpen t text
IsOpening Der t n text = IsHeaderIn true t n text

-- After them: in CER end-of-contents, else nothing.
abbrev pub IsClosing : Mode → List ℕ → Type 0
IsClosing Ber text = text ≡ []
IsClosing Cer text = text ≡ 0 ∷ 0 ∷ []
IsClosing Der text = text ≡ []
