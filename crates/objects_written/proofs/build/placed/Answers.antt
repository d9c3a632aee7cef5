use Rattle.objects_written.proofs.Setting.{placed_as}
use Rattle.objects_written.proofs.build.placed.Goals as goal

pub returns : goal.returns
returns c =
    let first = c.set_authority_key_identifier.new.self in
    let second = c.set_crl_uri.new.self in
    let third = c.set_ca_issuer.new.self in
    let fourth = c.set_signed_object.new.self in
    let places = c.args.places in
    placed_as c.args.cert first second third fourth c.args.authority places.crl_uri places.ca_issuer places.signed_object c.set_authority_key_identifier.ensures c.set_crl_uri.ensures c.set_ca_issuer.ensures
    c.set_signed_object.ensures
