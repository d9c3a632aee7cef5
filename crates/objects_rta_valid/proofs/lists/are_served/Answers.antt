use Rattle.std.proofs.Common.{map}
use Rattle.objects_rta_valid.specs.Vouched.{authority_of}
use Rattle.objects_rta_valid.proofs.Using.{lent_keyed}
use Rattle.objects_rta_valid.proofs.lists.are_served.Goals as goal

pub are_pairs_served-requires : goal.are_pairs_served-requires
are_pairs_served-requires c =
    lent_keyed c.as_slice-2.result.now c.in_ok-keys.keys.items c.as_slice.result.now c.in_ok-authorities.authorities.items (map authority_of c.args.lists.now) c.in_ok-places.places
    c.as_slice-2.ensures.value c.in_ok-keys.ensures c.as_slice.ensures.value c.in_ok-authorities.ensures c.in_ok-places.ensures
