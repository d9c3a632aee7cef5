-- Names by their octets (RFC 5280 4.1.2.4).
use Rattle.std.specs.Prelude.{List}
use Rattle.certs_name.specs.bcder_content.Kept.{CapturedValue}
use Rattle.certs_basics.specs.Names.{Attribute, NameSays}

-- Octets and the mode in which they spell a name.
pub record IsNamed (name : CapturedValue) : Type 0 where
  pub all : List Attribute
  pub says : NameSays name all
