use Rattle.rpki_rules.specs.Kinds.{InSet}
use Rattle.rpki_standing.specs.Readers.{world_by}
use Rattle.rpki_standing.proofs.Soundness.{revoked, sound, unissued, unsound}
use Rattle.rpki_standing.proofs.attested.find.check_object.Goals as goal

pub returns-in-Err-clause-told : goal.returns-in-Err-clause-told
returns-in-Err-clause-told g c p sets e f =
    let w = world_by g.D.Digester.sha256_digest g.D.Digester.sha1_digest g.V.Verifier.says c.args.reader.now in
    revoked w (InSet sets) c.args.ca.now p c.args.object.now.object c.in-Err.test (rw (c.cert.ensures, c.in-Err.is) at (c.in_ok-test.ensures p e f))

pub returns-in-Err-check_object_cert-clause-told : goal.returns-in-Err-check_object_cert-clause-told
returns-in-Err-check_object_cert-clause-told g c p sets e f =
    let w = world_by g.D.Digester.sha256_digest g.D.Digester.sha1_digest g.V.Verifier.says c.args.reader.now in
    let clear = rw (c.cert.ensures, c.in_default.is) at (c.in_ok-test.ensures p e f) in
    unissued w (InSet sets) c.args.ca.now p c.args.object.now.object clear c.in-Err-check_object_cert.test (rw c.cert-2.ensures at c.in-Err-check_object_cert.ensures.told)

pub returns-in-Ok-clause-told : goal.returns-in-Ok-clause-told
returns-in-Ok-clause-told g c p sets e f =
    let w = world_by g.D.Digester.sha256_digest g.D.Digester.sha1_digest g.V.Verifier.says c.args.reader.now in
    let clear = rw (c.cert.ensures, c.in_default.is) at (c.in_ok-test.ensures p e f) in
    let issued = rw c.cert-2.ensures at c.in_default-check_object_cert.ensures.told in
    let same = c.check_object_cert.ensures.same in
    sound w (InSet sets) c.args.ca.now p c.args.object.now.object clear issued (rw (same.digester, same.verdicts, c.signed.ensures, c.in-Ok.is) at (c.in_ok-check_content.ensures.told c.args.reader.now.index))

pub returns-in-Err-2-clause-told : goal.returns-in-Err-2-clause-told
returns-in-Err-2-clause-told g c p sets e f =
    let w = world_by g.D.Digester.sha256_digest g.D.Digester.sha1_digest g.V.Verifier.says c.args.reader.now in
    let clear = rw (c.cert.ensures, c.in_default.is) at (c.in_ok-test.ensures p e f) in
    let issued = rw c.cert-2.ensures at c.in_default-check_object_cert.ensures.told in
    let same = c.check_object_cert.ensures.same in
    unsound w (InSet sets) c.args.ca.now p c.args.object.now.object clear issued c.in-Err-2.test (rw (same.digester, same.verdicts, c.signed.ensures, c.in-Err-2.is) at (c.in_ok-check_content.ensures.told c.args.reader.now.index))
