-- That entries of lists have the tag of SEQUENCE, and one meaning.
use Rattle.std.proofs.Common.{ℕ, List, sym, ◌∙◌}
use Rattle.rpki_bundle.specs.bcder_tree.declared.mode.Mode.{Mode}
use Rattle.rpki_bundle.specs.bcder_tree.Tags.{TagValue, ia5_string_tag, printable_string_tag}
use Rattle.rpki_bundle.specs.bcder_tree.Sequences.{sequence_tag}
use Rattle.rpki_bundle.specs.bcder_tree.Strings.{IsString, IsPrintable, IsIa5, IsOctetString, octet_string_tag}
use Rattle.rpki_bundle.specs.bcder.Sets.{alone}
use Rattle.rpki_bundle.specs.bcder_content.Grammar.{One, Tagged}
use Rattle.certs_key.proofs.of_bcder_content.Unique.{octets_one, such_one, inside_one, then_one, end_one, as_one, as_tagged, inside_tagged}
use Rattle.certs_key.proofs.of_bcder_octets.Meaning.{one_string}
use Rattle.rpki_bundle.specs.bcder.Restricted.{IsRestricted}
use Rattle.rpki_bundle.specs.Bundle.{IsNameString, IsUriString, IsDigestString, IsLocator, IsObject, IsVerdict}

string : (m : Mode) (tag : TagValue) → One (IsString m tag)
string m tag = record { one = λ t x y p q. one_string m tag t x y p q }

pub octets : (m : Mode) → One (IsOctetString m)
octets m = string m octet_string_tag

pub text : (Has : ℕ → Type 0) (spell : ℕ → List ℕ) (m : Mode) (tag : TagValue)
    → One (IsRestricted Has spell m tag)
text Has spell m tag = such_one (string m tag)

digest : One IsDigestString
digest = octets_one (record { one = λ content x y p q. sym p.same ∙ q.same })

pub one_locator : (m : Mode) → One (IsLocator m)
one_locator m = let name : One (IsNameString m) = such_one (text IsPrintable alone m printable_string_tag) in as_one (inside_one (then_one name (then_one (octets m) end_one)))

pub one_object : (m : Mode) → One (IsObject m)
one_object m = let uri : One (IsUriString m) = such_one (text IsIa5 alone m ia5_string_tag) in as_one (inside_one (then_one uri (then_one (octets m) end_one)))

pub one_verdict : One IsVerdict
one_verdict = as_one (inside_one (then_one digest (then_one digest (then_one digest end_one))))

pub locator_tagged : (m : Mode) → Tagged sequence_tag (IsLocator m)
locator_tagged m = as_tagged (inside_tagged _ _)

pub object_tagged : (m : Mode) → Tagged sequence_tag (IsObject m)
object_tagged m = as_tagged (inside_tagged _ _)

pub verdict_tagged : Tagged sequence_tag IsVerdict
verdict_tagged = as_tagged (inside_tagged _ _)
