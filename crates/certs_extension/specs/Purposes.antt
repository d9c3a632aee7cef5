-- Purposes of keys (RFC 5280 4.2.1.12), each by its identifier's content octets.
use Rattle.std.specs.Prelude.{◌≢◌, ℕ, List, []}
use Rattle.certs_extension.specs.bcder_tree.declared.mode.Mode.{Mode}
use Rattle.certs_extension.specs.bcder_tree.Tags.{TagValue, oid_tag, sequence_tag}
use Rattle.certs_extension.specs.bcder_tree.Tree.{Trees}
use Rattle.certs_extension.specs.bcder_content.Grammar.{Many, OctetsOf}
use Rattle.certs_extension.specs.bcder_content.Words.{Gathers}
use Rattle.certs_extension.specs.bcder.Identifiers.{IsIdentifier, IsOid}
use Rattle.certs_extension.specs.bcder.Kinds.{oid}
use Rattle.certs_extension.specs.bcder_values.Forms.{Form, wrapped}
use Rattle.certs_extension.specs.bcder_values.ListForms.{LawfulAll, items}
use Rattle.certs_extension.specs.bcder.declared.oid.oid.Oid.{Oid}
use Rattle.certs_extension.specs.Extensions.{AreSome}

abbrev pub purpose_octets : Oid (List ℕ) → List ℕ
purpose_octets o = o.0

-- SEQUENCE OF KeyPurposeId, by its content
abbrev pub AreOids : Mode → Trees → List (List ℕ) → Type 0
AreOids m = Many (OctetsOf oid_tag IsOid)

-- One of them at least.
abbrev pub ArePurposes : Mode → Trees → List (List ℕ) → Type 0
ArePurposes m = Gathers (OctetsOf oid_tag IsOid) AreSome

-- What every extended key usage has: some purposes, each by an identifier's content octets (RFC 5280 4.2.1.12).
pub record AreKeyPurposes (purposes : List (List ℕ)) : Type 0 where
  pub some : purposes ≢ []
  pub identify : LawfulAll IsIdentifier purposes

-- A list of identifiers as a form, with a tag, and with that of a SEQUENCE.
abbrev pub lends : TagValue → List (List ℕ) → TagValue × List (List ℕ)
lends tag all = (tag, all)

abbrev pub listed : TagValue × List (List ℕ) → Form (List (List ℕ))
listed l = wrapped l.0 (items oid)

abbrev pub purposes : Form (List (List ℕ))
purposes = wrapped sequence_tag (items oid)
