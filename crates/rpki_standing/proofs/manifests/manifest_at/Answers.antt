use Rattle.rpki_rules.specs.World.{world_of}
use Rattle.rpki_standing.proofs.OwnManifests.{none_reads, one_reads}
use Rattle.rpki_standing.proofs.manifests.manifest_at.Goals as goal

pub returns-in-Some-2 : goal.returns-in-Some-2
returns-in-Some-2 c d v =
    one_reads (world_of d v c.args.index.now) c.args.ca.now c.in-Some.uri.now c.in-Some-object_at.object.now.octets (cc) (rw c.as_slice.ensures.text at c.in-Some-object_at.ensures.found)
    c.in-Some-2.manifest (rw (c.strict.ensures, c.in-Some-2.is) at c.in_ok-manifest.ensures)

pub returns-in-None : goal.returns-in-None
returns-in-None c d v =
    none_reads (world_of d v c.args.index.now) c.args.ca.now c.in-Some.uri.now c.in-Some-object_at.object.now.octets (cc) (rw c.as_slice.ensures.text at c.in-Some-object_at.ensures.found)
    (rw (c.strict.ensures, c.in-None.is) at c.in_ok-manifest.ensures)
