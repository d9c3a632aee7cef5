-- Entries of revocation lists, by their fields (RFC 5280 5.1.2.6).
use Rattle.std.specs.Prelude.{ℕ, List}
use Rattle.certs_x509.specs.bcder_tree.declared.mode.Mode.{Mode}
use Rattle.certs_x509.specs.bcder_tree.Tree.{Trees}
use Rattle.certs_x509.specs.bcder_content.Grammar.{End, Many, Then}
use Rattle.certs_x509.specs.bcder_content.Words.{Gathers}
use Rattle.certs_x509.specs.certs_basics.Basics.{IsSerial}
use Rattle.certs_x509.specs.certs_basics.Forms.{IsTime}
use Rattle.certs_extension.specs.CrlText.{IsRevoked, RevokedValue}

abbrev pub entry_fields : RevokedValue → ℕ × (ℕ × Unit {0})
entry_fields e = (e.serial, (e.time, tt))

-- The two fields, in every mode.
abbrev pub AreEntryFields : Mode → Trees → ℕ × (ℕ × Unit {0}) → Type 0
AreEntryFields m = Then IsSerial (Then IsTime End)

-- Entries, one for each of a list, in every mode; and whatever entries.
abbrev pub AreEntries : Mode → Trees → List RevokedValue → Type 0
AreEntries m = Many IsRevoked

abbrev pub whatever : List RevokedValue → Unit {0} → Type 0
whatever all x = Unit {0}

abbrev pub AreAny : Mode → Trees → Unit {0} → Type 0
AreAny m = Gathers IsRevoked whatever
