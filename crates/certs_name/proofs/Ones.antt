-- Names of which only the form is looked at are read in one way.
use Rattle.std.proofs.Common.{refl}
use Rattle.certs_name.specs.bcder_tree.Tags.{sequence_tag, set_tag}
use Rattle.certs_name.specs.bcder_content.Grammar.{Any, One, Tagged}
use Rattle.certs_name.proofs.of_bcder_content.Simple.{unit_one}
use Rattle.certs_name.proofs.of_bcder_content.Unique.{octets_one, inside_one, inside_tagged, then_one, end_one}
use Rattle.certs_name.specs.AnyNames.{IsAnyAttribute, IsAnyRelativeName}

any_one : One Any
any_one = record { one = λ t x y p q. refl }

pub attribute_one : One IsAnyAttribute
attribute_one = inside_one (then_one (octets_one unit_one) (then_one any_one end_one))

pub relative_name_one : One IsAnyRelativeName
relative_name_one = inside_one (record { one = λ ts x y p q. refl })

pub attribute_tagged : Tagged sequence_tag IsAnyAttribute
attribute_tagged = inside_tagged _ _

pub relative_name_tagged : Tagged set_tag IsAnyRelativeName
relative_name_tagged = inside_tagged _ _
