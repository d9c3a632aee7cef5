use Rattle.objects_rta_valid.specs.Vouched.{upper_keys}
use Rattle.objects_rta_valid.proofs.Using.{lent_keyed, used_told}
use Rattle.objects_rta_valid.proofs.lists.are_used.Goals as goal

pub returns : goal.returns
returns c =
    used_told c.args.certs.now c.args.pairs.now c.args.crls.now c.in_ok-places.places
    (lent_keyed c.as_slice-2.result.now c.in_ok-keys.keys.items c.as_slice.result.now c.in_ok-uppers.uppers.items (upper_keys c.args.certs.now c.args.pairs.now) c.in_ok-places.places
    c.as_slice-2.ensures.value c.in_ok-keys.ensures c.as_slice.ensures.value c.in_ok-uppers.ensures c.in_ok-places.ensures)
    c.have_places.result c.have_places.ensures
