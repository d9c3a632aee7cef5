-- What is signed of a revocation list, with anything that holds the revoked certificates (RFC 5280 5.1.2, RFC 6487 5).
use Rattle.std.specs.Prelude.{ℕ, Bool, List}
use Rattle.certs_crl.specs.bcder_content.Kept.{CapturedValue}
use Rattle.certs_x509.specs.certs_extension.CrlText.{RevokedValue, TbsListValue}

-- The fields of a list, whose revoked certificates an A holds.
pub record ListOf (A : Type 0) : Type 0 where
  pub has_null : Bool
  pub issuer : CapturedValue
  pub this_update : ℕ
  pub next_update : ℕ
  pub revoked : A
  pub authority_key_identifier : List ℕ
  pub number : ℕ

-- The fields, where the revoked certificates are the entries that are found in what holds them.
abbrev pub with_entries : {A B : Type 0} → (A → B) → ListOf A → ListOf B
with_entries entries t = record {
  has_null = t.has_null;
  issuer = t.issuer;
  this_update = t.this_update;
  next_update = t.next_update;
  revoked = entries t.revoked;
  authority_key_identifier = t.authority_key_identifier;
  number = t.number;
}

-- What is signed of a list of entries.
abbrev pub as_list : ListOf (List RevokedValue) → TbsListValue
as_list t = record {
  has_null = t.has_null;
  issuer = t.issuer;
  this_update = t.this_update;
  next_update = t.next_update;
  revoked = t.revoked;
  authority_key_identifier = t.authority_key_identifier;
  number = t.number;
}

-- The fields of what is signed of a list.
abbrev pub fields_of : TbsListValue → ListOf (List RevokedValue)
fields_of c = record {
  has_null = c.has_null;
  issuer = c.issuer;
  this_update = c.this_update;
  next_update = c.next_update;
  revoked = c.revoked;
  authority_key_identifier = c.authority_key_identifier;
  number = c.number;
}

-- What is signed of a list, by the entries that are found in what holds them.
abbrev pub as_list_by : {A : Type 0} → (A → List RevokedValue) → ListOf A → TbsListValue
as_list_by entries t = as_list (with_entries entries t)
