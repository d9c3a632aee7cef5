-- The object identifiers of the two policies, and of the extensions that list resources under them.
use Rattle.std.specs.Prelude.{ℕ, List, [], ◌∷◌}
use Rattle.resources_chain.specs.declared.claims.Overclaim.{Overclaim}
use Rattle.resources_chain.specs.declared.claims.Overclaim.TheVariants.{Refuse, Trim}

-- Certificate policies: id-cp-ipAddr-asNumber (RFC 6484 1.2), id-cp-ipAddr-asNumber-v2 (RFC 8360 4.2).
abbrev pub policy_components : Overclaim → List ℕ
policy_components Refuse = 1 ∷ 3 ∷ 6 ∷ 1 ∷ 5 ∷ 5 ∷ 7 ∷ 14 ∷ 2 ∷ []
policy_components Trim = 1 ∷ 3 ∷ 6 ∷ 1 ∷ 5 ∷ 5 ∷ 7 ∷ 14 ∷ 3 ∷ []

-- Extensions with IP resources: id-pe-ipAddrBlocks (RFC 3779 2.2.1), id-pe-ipAddrBlocks-v2 (RFC 8360 4.2).
abbrev pub ip_components : Overclaim → List ℕ
ip_components Refuse = 1 ∷ 3 ∷ 6 ∷ 1 ∷ 5 ∷ 5 ∷ 7 ∷ 1 ∷ 7 ∷ []
ip_components Trim = 1 ∷ 3 ∷ 6 ∷ 1 ∷ 5 ∷ 5 ∷ 7 ∷ 1 ∷ 28 ∷ []

-- Extensions with AS resources: id-pe-autonomousSysIds (RFC 3779 3.2.1), id-pe-autonomousSysIds-v2 (RFC 8360 4.2).
abbrev pub as_components : Overclaim → List ℕ
as_components Refuse = 1 ∷ 3 ∷ 6 ∷ 1 ∷ 5 ∷ 5 ∷ 7 ∷ 1 ∷ 8 ∷ []
as_components Trim = 1 ∷ 3 ∷ 6 ∷ 1 ∷ 5 ∷ 5 ∷ 7 ∷ 1 ∷ 29 ∷ []

-- The content octets of these (X.690 8.19): 1.3 is 40 * 1 + 3, and each other component is one octet.
abbrev pub policy_octets : Overclaim → List ℕ
policy_octets Refuse = 43 ∷ 6 ∷ 1 ∷ 5 ∷ 5 ∷ 7 ∷ 14 ∷ 2 ∷ []
policy_octets Trim = 43 ∷ 6 ∷ 1 ∷ 5 ∷ 5 ∷ 7 ∷ 14 ∷ 3 ∷ []

abbrev pub ip_octets : Overclaim → List ℕ
ip_octets Refuse = 43 ∷ 6 ∷ 1 ∷ 5 ∷ 5 ∷ 7 ∷ 1 ∷ 7 ∷ []
ip_octets Trim = 43 ∷ 6 ∷ 1 ∷ 5 ∷ 5 ∷ 7 ∷ 1 ∷ 28 ∷ []

abbrev pub as_octets : Overclaim → List ℕ
as_octets Refuse = 43 ∷ 6 ∷ 1 ∷ 5 ∷ 5 ∷ 7 ∷ 1 ∷ 8 ∷ []
as_octets Trim = 43 ∷ 6 ∷ 1 ∷ 5 ∷ 5 ∷ 7 ∷ 1 ∷ 29 ∷ []
