use Rattle.std.proofs.Common.{map}
use Rattle.objects_rta_valid.specs.Vouched.{subject_of}
use Rattle.objects_rta_valid.proofs.Using.{lent_keyed}
use Rattle.objects_rta_valid.proofs.lists.good_lists.Goals as goal

pub good_among-requires-clause-keyed : goal.good_among-requires-clause-keyed
good_among-requires-clause-keyed g c =
    lent_keyed c.as_slice-2.result.now c.in_ok-keys.keys.items c.as_slice.result.now c.in_ok-subjects.subjects.items (map subject_of c.args.certs.now) c.in_ok-places.places
    c.as_slice-2.ensures.value c.in_ok-keys.ensures c.as_slice.ensures.value c.in_ok-subjects.ensures c.in_ok-places.ensures
