-- The extensions that name URIs, in a mode.
use Rattle.std.specs.Prelude.{ℕ, List}
use Rattle.certs_extension.specs.bcder_tree.declared.mode.Mode.{Mode}
use Rattle.certs_extension.specs.bcder_tree.Tags.{context, oid_tag, sequence_tag}
use Rattle.certs_extension.specs.bcder_tree.Tree.{Tree, Trees}
use Rattle.certs_extension.specs.bcder_tree.Strings.{IsIa5}
use Rattle.certs_extension.specs.bcder.Sets.{alone}
use Rattle.certs_extension.specs.bcder.Restricted.{IsRestricted}
use Rattle.certs_extension.specs.bcder_content.Grammar.{As, End, Inside, OctetsOf, Then}
use Rattle.certs_extension.specs.bcder_content.Words.{Gathers}
use Rattle.certs_extension.specs.bcder.Identifiers.{AreOctets}
use Rattle.certs_basics.specs.Identifiers.{ca_issuers}
use Rattle.certs_extension.specs.Names.{HasOneRsync, behind, only}

-- uniformResourceIdentifier [6] IMPLICIT IA5String (RFC 5280 4.2.1.6)
abbrev pub IsName : Mode → Tree → List ℕ → Type 0
IsName m = IsRestricted IsIa5 alone m (context 6)

-- Names of which one, and one alone, is an rsync URI.
abbrev pub HaveOneRsync : Mode → Trees → List ℕ → Type 0
HaveOneRsync m = Gathers (IsName m) HasOneRsync

-- One value alone in a content, and what it means.
abbrev pub one_field : List ℕ → List ℕ × Unit {0}
one_field uri = (uri, tt)

-- fullName [0] IMPLICIT SEQUENCE OF [6] name (RFC 5280 4.2.1.13)
abbrev pub IsFullName : Mode → Tree → List ℕ → Type 0
IsFullName m = Inside (context 0) (HaveOneRsync m)

-- distributionPoint [0] { fullName }
abbrev pub IsPointName : Mode → Tree → List ℕ → Type 0
IsPointName m = As (Inside (context 0) (Then (IsFullName m) End)) only

-- DistributionPoint ::= SEQUENCE { distributionPoint }
abbrev pub IsPoint : Mode → Tree → List ℕ → Type 0
IsPoint m = As (Inside sequence_tag (Then (IsPointName m) End)) only

-- CRLDistributionPoints ::= SEQUENCE { DistributionPoint } (RFC 6487 4.8.6)
abbrev pub IsDistribution : Mode → Tree → List ℕ → Type 0
IsDistribution m = As (Inside sequence_tag (Then (IsPoint m) End)) only

-- AccessDescription ::= SEQUENCE { caIssuers, [6] names }
abbrev pub IsIssuerBody : Mode → Trees → Unit {0} × List ℕ → Type 0
IsIssuerBody m = Then (OctetsOf oid_tag (AreOctets ca_issuers)) (HaveOneRsync m)

abbrev pub issuer_fields : List ℕ → Unit {0} × List ℕ
issuer_fields uri = (tt, uri)

abbrev pub IsIssuer : Mode → Tree → List ℕ → Type 0
IsIssuer m = As (Inside sequence_tag (IsIssuerBody m)) behind

-- AuthorityInfoAccessSyntax ::= SEQUENCE { AccessDescription } (RFC 6487 4.8.7)
abbrev pub IsAuthority : Mode → Tree → List ℕ → Type 0
IsAuthority m = As (Inside sequence_tag (Then (IsIssuer m) End)) only
