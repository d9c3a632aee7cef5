-- A slash is passed at each turn.
use Rattle.std.proofs.Common.{◌≡◌, ◌+◌, ◌-◌, suc, ap, ◌∙◌, sym, arith}
use Rattle.certs_basics.specs.Paths.{behind_slashes as behind}
use Rattle.certs_basics.proofs.PathTexts.{behind-suc, behind-zero}
use Rattle.certs_basics.proofs.uri.paths.behind_slashes.Goals as goal

pub loop-init : goal.loop-init
loop-init c =
    let whole : c.args.count - 0 ≡ c.args.count = omega arith in
    ap (λ n. behind n c.args.text.now) whole

pub loop-preserved : goal.loop-preserved
loop-preserved c =
    let left = c.args.count - (c.loop.counter + 1) in
    let one_more : suc left ≡ c.args.count - c.loop.counter = omega arith in
    ap (behind left) c.behind_slash-rest.ensures ∙ sym (behind-suc left c.loop.rest.now) ∙ ap (λ n. behind n c.loop.rest.now) one_more ∙ c.loop.invariant

pub returns : goal.returns
returns c =
    let done : 0 ≡ c.args.count - c.loop.counter = omega arith in
    sym (behind-zero c.loop.rest.now) ∙ ap (λ n. behind n c.loop.rest.now) done ∙ c.loop.invariant
