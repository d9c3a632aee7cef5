-- The texts of what is wrong with signed attributes.
use Rattle.std.specs.Prelude.{ℕ, List, codes}
use Rattle.objects_cms.specs.declared.attributes.invalid.InvalidSignedAttr.{InvalidSignedAttr}
use Rattle.objects_cms.specs.declared.attributes.invalid.InvalidSignedAttr.TheVariants.{Duplicate, Missing, Unknown}

abbrev pub invalid_text : InvalidSignedAttr → List ℕ
invalid_text Missing = codes "a missing attribute"
invalid_text Duplicate = codes "duplicate attribute"
invalid_text Unknown = codes "another attribute"
