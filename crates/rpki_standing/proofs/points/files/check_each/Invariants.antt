use Rattle.certs_cert.specs.certs_key.Digesting.{digests_of}
use Rattle.rpki_standing.proofs.PassedTo.{PassedTo}
use Rattle.rpki_standing.proofs.Stocked.{IsThere}
use Rattle.rpki_standing.proofs.points.files.check_each.Given as goal

abbrev pub invariant-loop-file : goal.invariant-loop-file
invariant-loop-file g l =
    PassedTo (IsThere (digests_of g.D.Digester.sha256_digest g.D.Digester.sha1_digest l.fn.digester) l.fn.index l.fn.folder) l.fn.manifest.files l.left
