use Rattle.certs.proofs.again.lawful.fields_are_lawful.Goals as goal

pub returns : goal.returns
returns c = record {
  serial = c.serial_is.ensures;
  issuer = c.issuer_is.ensures;
  subject = c.subject_is.ensures;
  key = c.key_is.ensures;
  subject_key = c.subject_key_is.ensures;
  authority_key = c.authority_key_is.ensures;
  purposes = c.purposes_are.ensures;
  crl_uri = c.crl_is.ensures;
  ca_issuer = c.ca_issuer_is.ensures;
  access = c.access_is.ensures;
  v4 = c.v4_is.ensures;
  v6 = c.v6_is.ensures;
  asn = c.asn_is.ensures;
}
