-- Which extension resources have (RFC 6487 4.8.10, 4.8.11; RFC 8360 4.2).
use Rattle.std.specs.Prelude.{Bool, true, false, Option, Some, None}
use Rattle.certs.specs.resources_chain.Claims.{Choice}
use Rattle.certs.specs.resources_chain.declared.choice.ResourcesChoice.TheVariants.{Missing, Inherit, Blocks}
use Rattle.certs.specs.resources_chain.declared.claims.Overclaim.{Overclaim}
use Rattle.certs.specs.resources_ip.Encodings.{FamilyChoices}
use Rattle.certs.specs.resources_ip.WrittenFamilies.{says_any}
use Rattle.certs.specs.resources_as.Identifiers.{as_octets, ip_octets}
use Rattle.certs.specs.Values.{ExtensionOf, extended_if}

-- What is said, if anything is.
abbrev pub said_families : Bool → FamilyChoices → Option FamilyChoices
said_families true x = Some x
said_families false x = None

abbrev pub said_numbers : Choice → Option Choice
said_numbers Missing = None
said_numbers Inherit = Some Inherit
said_numbers (Blocks runs) = Some (Blocks runs)

-- IP resources where one family isn't missing, and AS resources where they aren't: each critical, and by the identifier of
-- the policy.
abbrev pub addresses_extension : Overclaim → FamilyChoices → Option (ExtensionOf FamilyChoices)
addresses_extension policy x = extended_if (ip_octets policy) true (said_families (says_any x) x)

abbrev pub asns_extension : Overclaim → Choice → Option (ExtensionOf Choice)
asns_extension policy choice = extended_if (as_octets policy) true (said_numbers choice)
