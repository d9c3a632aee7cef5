use Rattle.std.proofs.Common.{inl, refl, subst, sym}
use Rattle.std.specs.Fn.{FnOnceReturnsAt, FnOnceTakesAt}
use Rattle.objects_valid.proofs.Processing.{asked_last}
use Rattle.objects_valid.proofs.aspa.AsProviderAttestationAttested.test.Goals as goal

pub returns-then-covers-clause-answers : goal.returns-then-covers-clause-answers
returns-then-covers-clause-answers g c =
    let says = FnOnceReturnsAt g.F.FnOnce c.args.check_crl in
    asked_last says _ c.args.self.now c.args.holder.now.holder c.ask.result c.as_cert.ensures (c.covers.ensures.0 c.if-covers.true) c.ask.ensures.answers

pub returns-else-covers-clause-answers : goal.returns-else-covers-clause-answers
returns-else-covers-clause-answers g c =
    inl (refl, λ k. let t = c.covers.ensures.1 k in let f = c.if-covers.false in absurd cc)

pub ask-requires : goal.ask-requires
ask-requires g c = subst (FnOnceTakesAt g.F.FnOnce c.args.check_crl) (sym c.as_cert.ensures) (c.requires (c.covers.ensures.0 c.if-covers.true))
