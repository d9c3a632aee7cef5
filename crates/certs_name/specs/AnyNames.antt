-- Names of which only the form is looked at (RFC 5280 4.1.2.4).
use Rattle.std.specs.Prelude.{List}
use Rattle.certs_name.specs.bcder_tree.declared.mode.Mode.{Mode}
use Rattle.certs_name.specs.bcder_tree.Tags.{oid_tag, sequence_tag, set_tag}
use Rattle.certs_name.specs.bcder_tree.Tree.{Tree, Trees}
use Rattle.certs_name.specs.bcder_content.Grammar.{Any, End, Inside, OctetsOf, Then}
use Rattle.certs_name.specs.bcder_content.Words.{Gathers}
use Rattle.certs_name.specs.bcder.Identifiers.{IsAnyOid}

-- AttributeTypeAndValue ::= SEQUENCE { type OBJECT IDENTIFIER, value ANY }
abbrev pub AnyFields : Type 0
AnyFields = Unit {0} × (Unit {0} × Unit {0})

abbrev pub any_fields : Unit {0} → AnyFields
any_fields x = (tt, (tt, tt))

abbrev pub IsAnyAttributeBody : Mode → Trees → AnyFields → Type 0
IsAnyAttributeBody m = Then (OctetsOf oid_tag IsAnyOid) (Then Any End)

abbrev pub IsAnyAttribute : Tree → AnyFields → Type 0
IsAnyAttribute = Inside sequence_tag (Then (OctetsOf oid_tag IsAnyOid) (Then Any End))

-- As many as there are.
abbrev pub AnyNumber : {A : Type 0} → List A → Unit {0} → Type 0
AnyNumber xs x = Unit {0}

-- RelativeDistinguishedName ::= SET OF AttributeTypeAndValue
abbrev pub AreAnyAttributes : Trees → Unit {0} → Type 0
AreAnyAttributes = Gathers IsAnyAttribute AnyNumber

abbrev pub IsAnyRelativeName : Tree → Unit {0} → Type 0
IsAnyRelativeName = Inside set_tag AreAnyAttributes

-- Name ::= SEQUENCE OF RelativeDistinguishedName
abbrev pub AreAnyRelativeNames : Trees → Unit {0} → Type 0
AreAnyRelativeNames = Gathers IsAnyRelativeName AnyNumber

abbrev pub IsAnyName : Tree → Unit {0} → Type 0
IsAnyName = Inside sequence_tag AreAnyRelativeNames
