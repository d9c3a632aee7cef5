use Rattle.certs_crl.specs.bcder_content.Kept.{CapturedValue}
use Rattle.certs_crl.specs.Fields.{as_list}
use Rattle.certs_crl.proofs.Signed.{not_written}
use Rattle.certs_crl.proofs.Writing.{ok_map}
use Rattle.certs_crl.proofs.building.message_of.Goals as goal

pub returns-clause-written : goal.returns-clause-written
returns-clause-written c = ok_map _ (λ (x : CapturedValue). λ w. c.encode_in_der-values.ensures.writes x.octets w) c.in_der.ensures.written

pub returns-clause-refused : goal.returns-clause-refused
returns-clause-refused c =
    not_written (as_list c.args.tbs.now) _ c.encode_in_der-values.ensures.writes c.encode_in_der-values.ensures.whole c.in_der.result c.in_der.ensures.refused
