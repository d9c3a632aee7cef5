use Rattle.std.proofs.Common.{◌++◌, ◌∷◌, [], refl, rules}
use Rattle.std.proofs.lemmas.Result.{err_from_is_err_and}
use denote.Shadow.{shadow}
use denote.Text.{Utf8}
use Rattle.resources_ip_block.specs.Block.{run_of_block}
use Rattle.resources_ip_block.specs.ReadTexts.{WritesBlock}
use Rattle.resources_ip.proofs.of_resources_chain.ListTexts.{fault_next, fault_last, leaves_more, leaves_last}
use Rattle.resources_ip.proofs.listed.check_blocks.Goals as goal

pub loop-piece-init : goal.loop-piece-init
loop-piece-init c = let text : shadow (Utf8 c.args.text.now) = search rules in (text, ([], refl))

pub loop-piece-preserved : goal.loop-piece-preserved
loop-piece-preserved c =
    let text : shadow (Utf8 c.in-Some.behind.now) = search rules in
    let so_far = c.loop-piece.invariant.1 in (
      text,
      (
        so_far.0 ++ run_of_block c.in_ok-read_piece.field-0 ∷ [],
        leaves_more (WritesBlock c.args.family) c.args.text.now so_far.0 c.loop-piece.rest.now c.in-Some.piece.now c.in-Some.behind.now (run_of_block c.in_ok-read_piece.field-0) so_far.1 c.in-Some.ensures c.in_ok-read_piece.ensures.reads,
      ),
    )

pub returns-in_err-read_piece : goal.returns-in_err-read_piece
returns-in_err-read_piece c =
    let p = err_from_is_err_and c.from_residual.result c.from_residual.ensures.1 in
    let so_far = c.loop-piece.invariant.1 in
    rw (p.1, p.2) (fault_next (WritesBlock c.args.family) c.args.text.now so_far.0 c.loop-piece.rest.now c.in-Some.piece.now c.in-Some.behind.now so_far.1 c.in-Some.ensures c.in_err-read_piece.ensures.reads)

pub returns-in_err-read_piece-2 : goal.returns-in_err-read_piece-2
returns-in_err-read_piece-2 c =
    let p = err_from_is_err_and c.from_residual-in_err-read_piece-2.result c.from_residual-in_err-read_piece-2.ensures.1 in
    let so_far = c.loop-piece.invariant.1 in
    rw (p.1, p.2) (fault_last (WritesBlock c.args.family) c.args.text.now so_far.0 c.loop-piece.rest.now so_far.1 c.in_default.ensures c.in_err-read_piece-2.ensures.reads)

pub returns : goal.returns
returns c =
    let so_far = c.loop-piece.invariant.1 in (
      so_far.0 ++ run_of_block c.in_ok-read_piece-2.field-0 ∷ [],
      leaves_last (WritesBlock c.args.family) c.args.text.now so_far.0 c.loop-piece.rest.now (run_of_block c.in_ok-read_piece-2.field-0) so_far.1 c.in_default.ensures c.in_ok-read_piece-2.ensures.reads,
    )
