use Rattle.std.proofs.Common.{inl, inr, refl, subst, sym}
use Rattle.std.specs.Fn.{FnOnceReturnsAt, FnOnceTakesAt}
use Rattle.objects_valid.proofs.Processing.{asked_err, asked_ok}
use Rattle.objects.proofs.rsc.process.ResourceSignedChecklistAttested.test.Goals as goal

pub returns-then-covers-clause-answers : goal.returns-then-covers-clause-answers
returns-then-covers-clause-answers g c =
    let says = FnOnceReturnsAt g.F.FnOnce c.args.check_crl in
    (asked_ok says _ c.args.holder.now.holder c.as_cert.ensures c.in-Ok.ensures.answers, c.covers.ensures.0 c.if-covers.true)

pub returns-else-covers-clause-answers : goal.returns-else-covers-clause-answers
returns-else-covers-clause-answers g c =
    let says = FnOnceReturnsAt g.F.FnOnce c.args.check_crl in
    inr (asked_ok says _ c.args.holder.now.holder c.as_cert.ensures c.in-Ok.ensures.answers, (refl, λ k. let t = c.covers.ensures.1 k in let f = c.if-covers.false in absurd cc))

pub returns-in-Err-clause-answers : goal.returns-in-Err-clause-answers
returns-in-Err-clause-answers g c =
    let says = FnOnceReturnsAt g.F.FnOnce c.args.check_crl in
    inl (asked_err says _ c.args.holder.now.holder c.in-Err.error c.as_cert.ensures c.in-Err.ensures.answers)

pub returns-in-Err-clause-outside : goal.returns-in-Err-clause-outside
returns-in-Err-clause-outside g c x issuer = c.in-Err.ensures.outside x issuer

pub ask-requires : goal.ask-requires
ask-requires g c = subst (FnOnceTakesAt g.F.FnOnce c.args.check_crl) (sym c.as_cert.ensures) (c.requires tt)
