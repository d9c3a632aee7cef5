use Rattle.std.proofs.Common.{inl, inr, refl, rules}
use Rattle.std.proofs.lemmas.Result.{err_from_is_err_and}
use denote.Shadow.{shadow}
use denote.Text.{Utf8}
use Rattle.resources_ip_block.specs.Block.{run_of_block}
use Rattle.resources_ip_block.specs.ReadTexts.{WritesBlock}
use Rattle.resources_ip.proofs.of_resources_chain.ListTexts.{fault_next, fault_last, leaves_more, leaves_last}
use Rattle.resources_ip.proofs.WholeLemmas.{whole_push, some_pushed}
use Rattle.resources_ip.proofs.listed.read_blocks.Goals as goal

pub loop-piece-init : goal.loop-piece-init
loop-piece-init c =
    let text : shadow (Utf8 c.args.text.now) = search rules in (text, rw c.new-blocks.ensures (λ v4 n m e h. h), rw c.new-blocks.ensures refl)

pub loop-piece-preserved : goal.loop-piece-preserved
loop-piece-preserved c =
    let text : shadow (Utf8 c.in-Some.behind.now) = search rules in
    let so_far = c.loop-piece.invariant in (
      text,
      rw c.in_ok-push.ensures.ok (λ v4. whole_push c.loop-piece.blocks (run_of_block c.in_ok-block.block) (so_far.1 v4) (c.in_ok-block.ensures.whole v4)),
      rw c.in_ok-push.ensures.ok
          (leaves_more (WritesBlock c.args.family) c.args.text.now c.loop-piece.blocks c.loop-piece.rest.now c.in-Some.piece.now c.in-Some.behind.now (run_of_block c.in_ok-block.block) so_far.2 c.in-Some.ensures c.in_ok-block.ensures.reads),
    )

pub returns-in_err-block-clause-refused : goal.returns-in_err-block-clause-refused
returns-in_err-block-clause-refused c =
    let p = err_from_is_err_and c.from_residual.result c.from_residual.ensures.1 in
    rw (p.1, p.2) (inr (fault_next (WritesBlock c.args.family) c.args.text.now c.loop-piece.blocks c.loop-piece.rest.now c.in-Some.piece.now c.in-Some.behind.now c.loop-piece.invariant.2 c.in-Some.ensures c.in_err-block.ensures.reads))

pub returns-in_err-push-clause-refused : goal.returns-in_err-push-clause-refused
returns-in_err-push-clause-refused c =
    let p = err_from_is_err_and c.from_residual-in_err-push.result c.from_residual-in_err-push.ensures.1 in rw (p.1, p.2) (inl refl)

pub returns-in_err-block-2-clause-refused : goal.returns-in_err-block-2-clause-refused
returns-in_err-block-2-clause-refused c =
    let p = err_from_is_err_and c.from_residual-in_err-block-2.result c.from_residual-in_err-block-2.ensures.1 in
    rw (p.1, p.2) (inr (fault_last (WritesBlock c.args.family) c.args.text.now c.loop-piece.blocks c.loop-piece.rest.now c.loop-piece.invariant.2 c.in_default.ensures c.in_err-block-2.ensures.reads))

pub returns-in_err-push-2-clause-refused : goal.returns-in_err-push-2-clause-refused
returns-in_err-push-2-clause-refused c =
    let p = err_from_is_err_and c.from_residual-in_err-push-2.result c.from_residual-in_err-push-2.ensures.1 in rw (p.1, p.2) (inl refl)

pub returns-clause-some : goal.returns-clause-some
returns-clause-some c = rw c.in_ok-push-2.ensures.ok (some_pushed c.loop-piece.blocks c.in_ok-block-2.block)

pub returns-clause-listed : goal.returns-clause-listed
returns-clause-listed c =
    rw c.in_ok-push-2.ensures.ok
    (leaves_last (WritesBlock c.args.family) c.args.text.now c.loop-piece.blocks c.loop-piece.rest.now (run_of_block c.in_ok-block-2.block) c.loop-piece.invariant.2 c.in_default.ensures c.in_ok-block-2.ensures.reads)
