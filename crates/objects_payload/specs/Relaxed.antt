-- Signed objects that are read strictly, as they are read relaxed: a name and what is signed keep the mode in which they were
-- read, and all else is the same.
use Rattle.objects_payload.specs.bcder_tree.declared.mode.Mode.TheVariants.{Ber}
use Rattle.objects_payload.specs.bcder_content.Kept.{CapturedValue}
use Rattle.objects_payload.specs.certs_extension.Cert.{CertValue, TbsValue}
use Rattle.objects_payload.specs.ObjectText.{Object}

-- A name's octets, which are kept in BER.
abbrev pub relaxed_name : CapturedValue → CapturedValue
relaxed_name name = record name { mode = Ber }

-- A certificate's fields, with both its names in BER.
abbrev pub relaxed_tbs : TbsValue → TbsValue
relaxed_tbs c = record c { issuer = relaxed_name c.issuer; subject = relaxed_name c.subject }

-- A certificate in BER: what is signed is kept in that mode, and so are both its names.
abbrev pub relaxed_cert : CertValue → CertValue
relaxed_cert c = record c { signed = record c.signed { mode = Ber }; tbs = relaxed_tbs c.tbs }

-- An object whose certificate is in BER.
abbrev pub relaxed : Object → Object
relaxed o = record o { cert = relaxed_cert o.cert }
