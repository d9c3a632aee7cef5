use Rattle.std.proofs.Common.{[]}
use Rattle.rpki_rules.specs.resources.Resources.{Resources}
use Rattle.rpki_rules.specs.Kinds.{InSet}
use Rattle.rpki_standing.specs.Readers.{world_by}
use Rattle.rpki_standing.proofs.Soundness.{found_none, found_sound, found_unsound}
use Rattle.rpki_standing.proofs.attested.find.find_object.Goals as goal

pub returns-in_default-clause-found : goal.returns-in_default-clause-found
returns-in_default-clause-found g c p e f m =
    let w = world_by g.D.Digester.sha256_digest g.D.Digester.sha1_digest g.V.Verifier.says c.args.reader.now in
    found_none w c.args.ca.now p c.args.key.now (rw c.in_default.is at (c.in_ok-object.ensures w.digests w.good))

pub returns-in-Ok-clause-found : goal.returns-in-Ok-clause-found
returns-in-Ok-clause-found g c p e f m =
    let w = world_by g.D.Digester.sha256_digest g.D.Digester.sha1_digest g.V.Verifier.says c.args.reader.now in
    let s = c.in-Some.object in
    let none : Resources = record { asn = []; ipv4 = []; ipv6 = [] } in
    found_sound w c.args.ca.now p c.args.key.now (InSet none) m s.object s.payload (rw c.in-Some.is at (c.in_ok-object.ensures w.digests w.good)) (rw c.in-Ok.is at (c.in_ok-check_object.ensures.told p none e f))

pub returns-in-Err-clause-found : goal.returns-in-Err-clause-found
returns-in-Err-clause-found g c p e f m =
    let w = world_by g.D.Digester.sha256_digest g.D.Digester.sha1_digest g.V.Verifier.says c.args.reader.now in
    let s = c.in-Some.object in
    found_unsound w c.args.ca.now p c.args.key.now s.object s.payload c.in-Err.test (rw c.in-Some.is at (c.in_ok-object.ensures w.digests w.good))
    (λ sets. rw c.in-Err.is at (c.in_ok-check_object.ensures.told p sets e f)) (λ sets. (rw c.in-Err.is at c.in_ok-check_object.ensures.unheld) w sets c.args.key.now)
