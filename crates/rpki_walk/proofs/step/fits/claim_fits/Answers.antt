use Rattle.std.proofs.Common.{rules}
use Rattle.rpki_rules.specs.Kinds.{Ipv4, Ipv6, As}
use Rattle.rpki_walk.specs.Steps.{FitsOf, UnfitOf}
use Rattle.rpki_walk.proofs.Unfits.{tells_v4, tells_v6, tells_as}
use Rattle.rpki_walk.proofs.step.fits.claim_fits.Goals as goal

pub returns-in-Err-clause-told : goal.returns-in-Err-clause-told
returns-in-Err-clause-told c =
    let u : UnfitOf c.args.claim.now c.args.holding.now Ipv4 c.v4.result.0 = search rules in
    tells_v4 c.args.claim.now c.args.holding.now c.v4.result u

pub returns-in-Err-2-clause-told : goal.returns-in-Err-2-clause-told
returns-in-Err-2-clause-told c =
    let a : FitsOf c.args.claim.now c.args.holding.now Ipv4 = search rules in
    let u : UnfitOf c.args.claim.now c.args.holding.now Ipv6 c.v6.result.0 = search rules in
    tells_v6 c.args.claim.now c.args.holding.now a c.v6.result u

pub returns-in-Err-3-clause-told : goal.returns-in-Err-3-clause-told
returns-in-Err-3-clause-told c =
    let a : FitsOf c.args.claim.now c.args.holding.now Ipv4 = search rules in
    let b : FitsOf c.args.claim.now c.args.holding.now Ipv6 = search rules in
    let u : UnfitOf c.args.claim.now c.args.holding.now As c.in-Err-3.numbers = search rules in
    tells_as c.args.claim.now c.args.holding.now a b c.in-Err-3.numbers u
