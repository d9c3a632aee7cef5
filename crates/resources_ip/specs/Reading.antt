-- What is read of IP resources, as the grammars name it.
use Rattle.std.specs.Prelude.{◌≡◌, List, [], ◌∷◌, Option, Some, None}
use Rattle.std.specs.Option.{option_map}
use Rattle.resources_ip.specs.bcder_tree.declared.mode.Mode.{Mode}
use Rattle.resources_ip.specs.bcder_tree.Tags.{sequence_tag}
use Rattle.resources_ip.specs.bcder_tree.Tree.{Trees}
use Rattle.resources_ip.specs.bcder_content.Grammar.{End, Opt, Then}
use Rattle.resources_ip.specs.declared.der.IpFamily.{IpFamily}
use Rattle.resources_ip.specs.declared.der.Pair.{Pair}
use Rattle.resources_ip.specs.declared.resources.IpFamilies.{IpFamilies}
use Rattle.resources_ip.specs.Encodings.{FamilyChoice, FamilyChoices, IsIpFamily}

abbrev pub family_choice : IpFamily → FamilyChoice
family_choice x = record { family = x.family; choice = x.resources }

abbrev pub family_choices : IpFamilies → FamilyChoices
family_choices x = record { v4 = x.v4; v6 = x.v6 }

-- One family, or two.
abbrev pub PairFields : Type 0
PairFields = FamilyChoice × (Option FamilyChoice × Unit {0})

abbrev pub ArePair : Mode → Trees → PairFields → Type 0
ArePair m = Then (IsIpFamily m) (Opt sequence_tag (IsIpFamily m) End)

abbrev pub pair_fields : Pair → PairFields
pair_fields p = (family_choice p.first, (option_map family_choice p.second, tt))

abbrev pub all_of : FamilyChoice → Option FamilyChoice → List FamilyChoice
all_of x None = x ∷ []
all_of x (Some y) = x ∷ y ∷ []

-- The second is of the same family.
abbrev pub Repeats : FamilyChoice → Option FamilyChoice → Type 0
Repeats x None = ⊥
Repeats x (Some y) = y.family ≡ x.family
