-- Stated resources, by what is read of them.
use Rattle.std.specs.Prelude.{List}
use Rattle.std.specs.Option.{option_map}
use Rattle.objects_cms.specs.bcder_content.Grammar.{End, Then}
use Rattle.resources_ip.specs.bcder_tree.declared.mode.Mode.{Mode}
use Rattle.resources_ip.specs.bcder_tree.Tree.{Trees}
use Rattle.resources_ip.specs.resources_chain.Sets.{Run}
use Rattle.resources_ip.specs.Encodings.{FamilyChoices}
use Rattle.resources_ip.specs.Reading.{family_choices}
use Rattle.resources_ip.specs.declared.resources.IpFamilies.{IpFamilies}
use Rattle.resources_as.specs.Encodings.{IsAsSet}
use Rattle.objects_valid.specs.declared.stated.AsForm.{AsForm}
use Rattle.objects_valid.specs.declared.stated.Read.{Read}
use Rattle.objects_valid.specs.Stated.{AreAsnum, AreStatedFamilies, IsAsPart, Parts}

-- A value that stands alone in a content.
abbrev pub alone : {A : Type 0} → A → A × Unit {0}
alone x = (x, tt)

abbrev pub alone_twice : List Run → (List Run × Unit {0}) × Unit {0}
alone_twice runs = ((runs, tt), tt)

-- The contents, in every mode.
abbrev pub IsBlocksContent : Mode → Trees → List Run × Unit {0} → Type 0
IsBlocksContent m = Then IsAsSet End

abbrev pub IsAsnumContent : Mode → Trees → (List Run × Unit {0}) × Unit {0} → Type 0
IsAsnumContent m = AreAsnum

abbrev pub IsAsContent : AsForm → Mode → Trees → List Run × Unit {0} → Type 0
IsAsContent form m = Then (IsAsPart form) End

abbrev pub IsFamiliesContent : Mode → Trees → FamilyChoices × Unit {0} → Type 0
IsFamiliesContent m = Then (AreStatedFamilies m) End

-- What is read, as the grammar names it.
abbrev pub families_alone : IpFamilies → FamilyChoices × Unit {0}
families_alone x = alone (family_choices x)

abbrev pub parts_of : Read → Parts
parts_of r = (option_map alone r.asn, (option_map families_alone r.families, tt))
