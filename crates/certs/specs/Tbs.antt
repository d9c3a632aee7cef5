-- What is written of a certificate's fields: in one order, and its extensions in that of the profile (RFC 5280 4.1, 4.2;
-- RFC 6487 4).
use Rattle.std.specs.Prelude.{ℕ, Bool, true, false, List, Option}
use Rattle.certs.specs.bcder_tree.declared.mode.Mode.TheVariants.{Der}
use Rattle.certs.specs.bcder_tree.Tags.{context, sequence_tag}
use Rattle.certs.specs.bcder_content.Kept.{CapturedValue}
use Rattle.certs.specs.certs_key.Algorithms.{AlgorithmValue, algorithm_of}
use Rattle.certs.specs.certs_basics.Identifiers as id
use Rattle.certs.specs.certs_basics.Keys.{KeyValue}
use Rattle.certs.specs.certs_extension.CertAccess.{AccessValue}
use Rattle.certs.specs.certs_extension.Cert.{TbsValue}
use Rattle.certs.specs.certs_extension.declared.forms.KeyUsage.{KeyUsage}
use Rattle.certs.specs.resources_chain.Claims.{Choice}
use Rattle.certs.specs.resources_chain.declared.claims.Overclaim.{Overclaim}
use Rattle.certs.specs.resources_ip.Encodings.{FamilyChoices}
use Rattle.certs.specs.resources_ip.WrittenFamilies.{both}
use Rattle.certs.specs.Fields.{name, public_key, serial, time, version}
use Rattle.certs.specs.Outputs.{Output, beside, inside, of, perhaps}
use Rattle.certs.specs.Resources.{addresses_extension, asns_extension}
use Rattle.certs.specs.Values as values
use Rattle.certs.specs.Values.{ExtensionOf, extended, extended_if, extension_of, some_access}

-- The extensions of what the key is and is for: basicConstraints, subjectKeyIdentifier, authorityKeyIdentifier, keyUsage,
-- extKeyUsage (RFC 6487 4.8.1 to 4.8.5).
abbrev pub KeyParts : Type 0
KeyParts = Option (ExtensionOf Bool)
    × (ExtensionOf (List ℕ) × (Option (ExtensionOf (List ℕ))
    × (ExtensionOf KeyUsage × Option (ExtensionOf (List (List ℕ))))))

abbrev pub key_parts : TbsValue → KeyParts
key_parts c = (
  extended_if id.basic_constraints true c.basic_ca,
  (
    extended id.subject_key_identifier false c.subject_key_identifier,
    (
      extended_if id.authority_key_identifier false c.authority_key_identifier,
      (extended id.key_usage true c.key_usage, extended_if id.extended_key_usage false c.extended_key_usage),
    ),
  ),
)

abbrev pub written_keys : KeyParts → Output
written_keys p =
    beside (perhaps (extension_of values.basic_constraints) p.0)
    (beside (extension_of values.subject_key p.1.0)
    (beside (perhaps (extension_of values.authority_key) p.1.1.0)
    (beside (extension_of values.key_usage p.1.1.1.0)
    (perhaps (extension_of values.purposes) p.1.1.1.1))))

-- Those of where things are found: cRLDistributionPoints, authorityInfoAccess, subjectInfoAccess (RFC 6487 4.8.6 to 4.8.8).
abbrev pub PlaceParts : Type 0
PlaceParts =
    Option (ExtensionOf (List ℕ))
    × (Option (ExtensionOf (List ℕ)) × Option (ExtensionOf AccessValue))

abbrev pub place_parts : TbsValue → PlaceParts
place_parts c = (
  extended_if id.crl_distribution_points false c.crl_uri,
  (
    extended_if id.authority_info_access false c.ca_issuer,
    extended_if id.subject_info_access false (some_access c.access),
  ),
)

abbrev pub written_places : PlaceParts → Output
written_places p =
    beside (perhaps (extension_of values.crl) p.0)
    (beside (perhaps (extension_of values.issuer_access) p.1.0)
    (perhaps (extension_of values.subject_access) p.1.1))

-- Those of resources: certificatePolicies, IP before AS resources (RFC 6487 4.8.9 to 4.8.11, RFC 8360 4.2).
abbrev pub ResourceParts : Type 0
ResourceParts =
    ExtensionOf Overclaim × (Option (ExtensionOf FamilyChoices) × Option (ExtensionOf Choice))

abbrev pub resource_parts : TbsValue → ResourceParts
resource_parts c = (
  extended id.certificate_policies true c.overclaim,
  (addresses_extension c.overclaim (both c.v4 c.v6), asns_extension c.overclaim c.asn),
)

abbrev pub written_resources : ResourceParts → Output
written_resources p =
    beside (extension_of values.policies p.0)
    (beside (perhaps (extension_of values.addresses) p.1.0)
    (perhaps (extension_of values.asns) p.1.1))

-- All extensions that are there, in this order (RFC 6487 4.8).
abbrev pub extensions : TbsValue → Output
extensions c = beside (written_keys (key_parts c))
    (beside (written_places (place_parts c)) (written_resources (resource_parts c)))

-- version, serialNumber, signature, issuer, notBefore, notAfter, subject, subjectPublicKeyInfo, and the extensions by all fields.
abbrev pub TbsParts : Type 0
TbsParts =
    ℕ
    × (ℕ × (AlgorithmValue × (CapturedValue × ((ℕ × ℕ) × (CapturedValue × (KeyValue × TbsValue))))))

-- The version is 3, whose number is 2 (RFC 5280 4.1.2.1).
abbrev pub tbs_parts : TbsValue → TbsParts
tbs_parts c = (
  2,
  (
    c.serial,
    (
      record { kind = id.sha256_with_rsa; has_null = c.has_null },
      (c.issuer, ((c.not_before, c.not_after), (c.subject, (c.key, c)))),
    ),
  ),
)

-- TBSCertificate ::= SEQUENCE { version [0] EXPLICIT, serialNumber, signature, issuer, validity, subject,
--   subjectPublicKeyInfo, extensions [3] EXPLICIT SEQUENCE OF Extension } (RFC 5280 4.1)
abbrev pub written_tbs : TbsParts → Output
written_tbs p = inside sequence_tag
    (beside (inside (context 0) (version p.0))
    (beside (serial p.1.0)
    (beside (of (algorithm_of p.1.1.0.kind) p.1.1.0.has_null)
    (beside (name p.1.1.1.0)
    (beside (inside sequence_tag (beside (time p.1.1.1.1.0.0) (time p.1.1.1.1.0.1)))
    (beside (name p.1.1.1.1.1.0)
    (beside (public_key p.1.1.1.1.1.1.0)
    (inside (context 3) (inside sequence_tag (extensions p.1.1.1.1.1.1.1))))))))))

abbrev pub tbs : TbsValue → Output
tbs c = written_tbs (tbs_parts c)

-- The octets are what is written of the fields in DER.
abbrev pub WritesTbs : TbsValue → List ℕ → Type 0
WritesTbs c = (tbs c).writes Der
