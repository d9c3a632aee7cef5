-- Octets that spell the entries of a revocation list, and what is on it.
use Rattle.std.specs.Prelude.{◌≡◌, ℕ, Bool, false, ◌||◌, nat_eq, List, [], ◌∷◌, map, Option, Result, Ok, Err}
use Rattle.certs_x509.specs.bcder_tree.declared.mode.Mode.{Mode}
use Rattle.certs_x509.specs.bcder_tree.Tags.{sequence_tag}
use Rattle.certs_x509.specs.bcder_tree.Tree.{Trees}
use Rattle.certs_x509.specs.bcder_source.Errors.{OnContent}
use Rattle.certs_x509.specs.bcder_source.declared.error.DecodeError.{DecodeError}
use Rattle.certs_x509.specs.bcder_content.Contents.{ValuesLeft, Whole}
use Rattle.certs_x509.specs.bcder_content.Exact.{LacksTagged, ReadsOptAs}
use Rattle.certs_x509.specs.bcder_content.Grammar.{Many}
use Rattle.certs_x509.specs.bcder_content.Kept.{CapturedValue}
use Rattle.certs_x509.specs.bcder_content.Texts.{InOrder}
use Rattle.certs_x509.specs.certs_basics.Lists.{Mem}
use Rattle.certs_extension.specs.CrlText.{AreRevoked, IsRevoked, RevokedValue, entries}

abbrev pub captured : Mode → List ℕ → CapturedValue
captured mode octets = record { mode = mode; octets = octets }

-- The octets spell these entries, one after the other.
abbrev pub SpellsEntries : CapturedValue → List RevokedValue → Type 0
SpellsEntries c = InOrder c.mode (Many IsRevoked) c.octets

-- An entry of the list has the serial number.
pub record IsListed (entries : List RevokedValue) (serial : ℕ) : Type 0 where
  pub entry : RevokedValue
  pub listed : Mem entries entry
  pub same : entry.serial ≡ serial

-- All that is left of a content are these entries.
pub record EntriesLeft (now : ValuesLeft) (entries : List RevokedValue) : Type 0 where
  pub trees : Trees
  pub whole : Whole now trees
  pub are : Many IsRevoked trees entries

-- Whether an entry of the list has the serial number.
abbrev pub has_serial : ℕ → List RevokedValue → Bool
has_serial serial [] = false
has_serial serial (entry ∷ entries) = nat_eq entry.serial serial || has_serial serial entries

-- The serial numbers, in the order of the entries.
abbrev pub serials_of : List RevokedValue → List ℕ
serials_of = map (λ entry. entry.serial)

-- A list that may be absent: no entries then.
abbrev pub ReadsList : {E : Type 0} → ValuesLeft → Result (List RevokedValue) (DecodeError E)
    → ValuesLeft → Type 0
ReadsList {E} old (Ok xs) new =
    (o : Option (List RevokedValue)) × ReadsOptAs {E = E} (λ l. l) sequence_tag AreRevoked old
    (Ok o) new × (xs ≡ entries o)
ReadsList old (Err e) new = OnContent e (LacksTagged sequence_tag AreRevoked old)
