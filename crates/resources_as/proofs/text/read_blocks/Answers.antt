use Rattle.std.proofs.Common.{inl, inr, refl, rules}
use Rattle.std.proofs.lemmas.Result.{err_from_is_err_and}
use denote.Shadow.{shadow}
use denote.Text.{Utf8}
use Rattle.resources_asn.specs.Blocks.{as_run}
use Rattle.resources_asn.specs.BlockTexts.{IsAsBlockText}
use Rattle.resources_as.proofs.Pushed.{some_pushed}
use Rattle.resources_as.proofs.of_resources_chain.ListTexts.{fault_next, fault_last, leaves_more, leaves_last}
use Rattle.resources_as.proofs.text.read_blocks.Goals as goal

pub loop-piece-init : goal.loop-piece-init
loop-piece-init c = let text : shadow (Utf8 c.args.text.now) = search rules in (text, rw c.new-blocks.ensures refl)

pub loop-piece-preserved : goal.loop-piece-preserved
loop-piece-preserved c =
    let text : shadow (Utf8 c.in-Some.behind.now) = search rules in (
      text,
      rw c.in_ok-push.ensures.ok (leaves_more IsAsBlockText c.args.text.now c.loop-piece.blocks c.loop-piece.rest.now c.in-Some.piece.now c.in-Some.behind.now (as_run c.in_ok-block.block) c.loop-piece.invariant.1 c.in-Some.ensures c.in_ok-block.ensures),
    )

pub returns-in_err-block-clause-refused : goal.returns-in_err-block-clause-refused
returns-in_err-block-clause-refused c =
    let p = err_from_is_err_and c.from_residual.result c.from_residual.ensures.1 in
    rw (p.1, p.2) (inr (fault_next IsAsBlockText c.args.text.now c.loop-piece.blocks c.loop-piece.rest.now c.in-Some.piece.now c.in-Some.behind.now c.loop-piece.invariant.1 c.in-Some.ensures c.in_err-block.ensures))

pub returns-in_err-push-clause-refused : goal.returns-in_err-push-clause-refused
returns-in_err-push-clause-refused c =
    let p = err_from_is_err_and c.from_residual-in_err-push.result c.from_residual-in_err-push.ensures.1 in rw (p.1, p.2) (inl refl)

pub returns-in_err-block-2-clause-refused : goal.returns-in_err-block-2-clause-refused
returns-in_err-block-2-clause-refused c =
    let p = err_from_is_err_and c.from_residual-in_err-block-2.result c.from_residual-in_err-block-2.ensures.1 in
    rw (p.1, p.2) (inr (fault_last IsAsBlockText c.args.text.now c.loop-piece.blocks c.loop-piece.rest.now c.loop-piece.invariant.1 c.in_default.ensures c.in_err-block-2.ensures))

pub returns-in_err-push-2-clause-refused : goal.returns-in_err-push-2-clause-refused
returns-in_err-push-2-clause-refused c =
    let p = err_from_is_err_and c.from_residual-in_err-push-2.result c.from_residual-in_err-push-2.ensures.1 in rw (p.1, p.2) (inl refl)

pub returns-clause-some : goal.returns-clause-some
returns-clause-some c = rw c.in_ok-push-2.ensures.ok (some_pushed _ c.in_ok-block-2.block)

pub returns-clause-listed : goal.returns-clause-listed
returns-clause-listed c =
    rw c.in_ok-push-2.ensures.ok
    (leaves_last IsAsBlockText c.args.text.now c.loop-piece.blocks c.loop-piece.rest.now (as_run c.in_ok-block-2.block) c.loop-piece.invariant.1 c.in_default.ensures c.in_ok-block-2.ensures)
