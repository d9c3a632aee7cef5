use Rattle.std.proofs.Common.{◌≡◌, ◌+◌, ◌≤◌, length}
use Rattle.objects_rta_valid.proofs.Gathering.{SoFar}
use Rattle.objects_rta_valid.proofs.lists.good_among.Given as goal

abbrev pub invariant-loop-crl : goal.invariant-loop-crl
invariant-loop-crl g l = record {
  so_far : SoFar (g.V.Verifier.says l.fn.verifier) l.fn.now l.fn.issuers.certs.now l.fn.crls l.rest l.lists.items;
  same : g.V.Verifier.says l.verifier ≡ g.V.Verifier.says l.fn.verifier;
  asked : g.V.Verifier.count l.verifier + length l.rest ≤ g.V.Verifier.count l.fn.verifier + length l.fn.crls;
}

abbrev pub decreases-loop-crl : goal.decreases-loop-crl
decreases-loop-crl g l = length l.rest
