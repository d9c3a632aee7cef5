use Rattle.std.proofs.Common.{List, ap, length, subst, sym, ◌∙◌, arith}
use Rattle.certs_verify.specs.certs_basics.Verdicts.{Verdicts}
use Rattle.certs_verify.specs.certs_extension.CrlText.{CrlValue}
use Rattle.objects_rta_valid.specs.Vouched.{IsGoodCarried, IsKept, kept_aside}
use Rattle.objects_rta_valid.proofs.Gathering.{SoFar, so_all, so_next, so_none}
use Rattle.objects_rta_valid.proofs.lists.good_among.Goals as goal

pub loop-crl-init : goal.loop-crl-init
loop-crl-init g c = record {
  so_far = subst (SoFar (g.V.Verifier.says c.args.verifier.now) c.args.now c.args.issuers.now.certs.now c.args.crls.now c.args.crls.now) (sym c.new-lists.ensures.items)
      (so_none (g.V.Verifier.says c.args.verifier.now) c.args.now c.args.issuers.now.certs.now c.args.crls.now);
  same = (cc);
  asked = omega arith;
}

pub loop-crl-preserved : goal.loop-crl-preserved
loop-crl-preserved g c =
    let v = g.V.Verifier.says c.args.verifier.now in
    let kept : IsKept (IsGoodCarried v c.args.now c.args.issuers.now.certs.now c.in-Some.crl.now) (kept_aside c.in-Some.crl.now) c.loop-crl.lists.items c.keep_if_good.new.lists.items =
    subst (λ (w : Verdicts). IsKept (IsGoodCarried w c.args.now c.args.issuers.now.certs.now c.in-Some.crl.now) (kept_aside c.in-Some.crl.now) c.loop-crl.lists.items c.keep_if_good.new.lists.items)
    c.loop-crl.invariant.same c.in_ok-keep_if_good.ensures.kept in
    record {
      so_far = so_next v c.args.now c.args.issuers.now.certs.now c.args.crls.now c.loop-crl.rest.now c.in-Some.others.now c.loop-crl.lists.items c.keep_if_good.new.lists.items c.in-Some.crl.now
          c.in-Some.ensures.cases.0 kept c.loop-crl.invariant.so_far;
      same = c.keep_if_good.ensures.same ∙ c.loop-crl.invariant.same;
      asked = let more = ap (λ (xs : List CrlValue). length xs) c.in-Some.ensures.cases.0 in omega (arith, more, c.keep_if_good.ensures.asked, c.loop-crl.invariant.asked);
    }

pub returns-clause-lists : goal.returns-clause-lists
returns-clause-lists g c = so_all (g.V.Verifier.says c.args.verifier.now) c.args.now c.args.issuers.now.certs.now c.args.crls.now c.loop-crl.rest.now c.loop-crl.lists.items c.in_default.ensures.cases c.loop-crl.invariant.so_far
