use Rattle.objects_rta_valid.proofs.Standing.{told_not}
use Rattle.objects_rta_valid.proofs.Vouching.{vouched_end, vouched_next, vouched_self}
use Rattle.objects_rta_valid.proofs.certs.is_vouched.Goals as goal

pub returns-then-names_itself-clause-vouched : goal.returns-then-names_itself-clause-vouched
returns-then-names_itself-clause-vouched g c =
    vouched_self (g.V.Verifier.says c.args.verifier.now) c.args.now c.args.certs.now c.args.cert.now c.args.link c.is_anchor.result (c.names_itself.ensures.0 c.if-names_itself.true) c.is_anchor.ensures.anchor

pub returns-in-Some-clause-vouched : goal.returns-in-Some-clause-vouched
returns-in-Some-clause-vouched g c =
    vouched_next (g.V.Verifier.says c.args.verifier.now) c.args.now c.args.certs.now c.args.cert.now c.args.link c.in-Some.next c.is_signed_at.result
    (told_not c.names_itself.result c.names_itself.ensures c.if-names_itself.false) c.in-Some.is c.is_signed_at.ensures.signed

pub returns-in-None-clause-vouched : goal.returns-in-None-clause-vouched
returns-in-None-clause-vouched g c =
    vouched_end (g.V.Verifier.says c.args.verifier.now) c.args.now c.args.certs.now c.args.cert.now c.args.link
    (told_not c.names_itself.result c.names_itself.ensures c.if-names_itself.false) c.in-None.is
