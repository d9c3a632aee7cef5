-- A certificate's fields as they are made (RFC 5280 4.1.2, RFC 6487 4).
use Rattle.std.specs.Prelude.{◌≡◌, ℕ, true, List, Option, Some, None}
use Rattle.certs_cert.specs.bcder_tree.declared.mode.Mode.TheVariants.{Der}
use Rattle.certs_cert.specs.bcder_tree.Tree.{Spells}
use Rattle.certs_cert.specs.bcder_content.Kept.{CapturedValue}
use Rattle.certs_cert.specs.certs_basics.HandedIn.{Digests}
use Rattle.certs_cert.specs.certs_basics.Keys.{KeyValue, identifier}
use Rattle.certs_cert.specs.certs_basics.Names.{subject_of}
use Rattle.certs_cert.specs.certs_basics.Periods.{Period}
use Rattle.certs_cert.specs.resources_chain.declared.choice.ResourcesChoice.TheVariants.{Missing}
use Rattle.certs_cert.specs.resources_chain.declared.claims.Overclaim.{Overclaim}
use Rattle.certs_extension.specs.declared.forms.KeyUsage.{KeyUsage}
use Rattle.certs_extension.specs.Cert.{TbsValue, no_access}

-- The name that is made from the key's identifier (this project's choice).
pub record IsKeyName (d : Digests) (key : KeyValue) (name : CapturedValue) : Type 0 where
  pub mode : name.mode ≡ Der
  pub spelled : Spells Der (subject_of (identifier d key)) name.octets

-- The subject is the name that is given, and else the one that is made from the key.
abbrev pub IsSubjectFor : Digests → KeyValue → Option CapturedValue → CapturedValue → Type 0
IsSubjectFor d key (Some given) name = name ≡ given
IsSubjectFor d key None name = IsKeyName d key name

-- These fields, with NULL in the algorithm, no other extensions, and all resources missing.
abbrev pub fresh : ℕ → CapturedValue → Period → CapturedValue → KeyValue → List ℕ → KeyUsage
    → Overclaim → TbsValue
fresh serial issuer validity subject key key_identifier key_usage overclaim = record {
  serial = serial;
  has_null = true;
  issuer = issuer;
  not_before = validity.not_before;
  not_after = validity.not_after;
  subject = subject;
  key = key;
  basic_ca = None;
  subject_key_identifier = key_identifier;
  authority_key_identifier = None;
  key_usage = key_usage;
  extended_key_usage = None;
  crl_uri = None;
  ca_issuer = None;
  access = no_access;
  overclaim = overclaim;
  v4 = Missing;
  v6 = Missing;
  asn = Missing;
}
