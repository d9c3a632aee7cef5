use Rattle.std.proofs.Common.{map}
use Rattle.objects_rta_valid.specs.Vouched.{Serves, authority_of, subject_of}
use Rattle.objects_rta_valid.proofs.Sought.{IsNext, LeftTo, reach}
use Rattle.objects_rta_valid.proofs.lists.is_served.Given as goal

abbrev pub invariant-loop-next : goal.invariant-loop-next
invariant-loop-next l = record {
  left : LeftTo (Serves l.fn.issuer l.fn.cert) l.fn.lists l.next;
  here : IsNext (map authority_of l.fn.lists) (subject_of l.fn.issuer) l.next;
}

abbrev pub decreases-loop-next : goal.decreases-loop-next
decreases-loop-next l = reach l.next
