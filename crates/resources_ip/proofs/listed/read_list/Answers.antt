use Rattle.std.proofs.Common.{◌≡◌, length, arith}
use Rattle.std.proofs.lemmas.Result.{err_from_is_err_and}
use Rattle.resources_ip.proofs.Texts.{empty_is, reads_none, refuses, refuses_late}
use Rattle.resources_ip.proofs.listed.read_list.Goals as goal

pub returns-then-is_empty-clause-reads : goal.returns-then-is_empty-clause-reads
returns-then-is_empty-clause-reads c = let size : length c.args.text.now ≡ 0 = grind (arith, c.if-is_empty.true) in reads_none c.args.family c.args.text.now _ (empty_is c.args.text.now size) c.empty.ensures

pub returns-in_err-check_blocks-clause-reads : goal.returns-in_err-check_blocks-clause-reads
returns-in_err-check_blocks-clause-reads c =
    let p = err_from_is_err_and c.from_residual.result c.from_residual.ensures.1 in
    rw (p.1, p.2) (refuses c.args.family _ c.args.text.now (λ e. grind (arith, c.if-is_empty.false)) c.in_err-check_blocks.ensures)

pub returns-in_err-blocks-clause-reads : goal.returns-in_err-blocks-clause-reads
returns-in_err-blocks-clause-reads c =
    let p = err_from_is_err_and c.from_residual-in_err-blocks.result c.from_residual-in_err-blocks.ensures.1 in
    rw (p.1, p.2) (refuses_late c.args.family _ c.args.text.now (λ e. grind (arith, c.if-is_empty.false)) c.in_ok-check_blocks.ensures c.in_err-blocks.ensures.refused)

pub returns-in_err-finalize-clause-reads : goal.returns-in_err-finalize-clause-reads
returns-in_err-finalize-clause-reads c =
    let p = err_from_is_err_and c.from_residual-in_err-finalize.result c.from_residual-in_err-finalize.ensures.1 in
    rw (p.1, p.2) (λ e. grind (arith, c.if-is_empty.false), c.in_ok-check_blocks.ensures)

pub returns-clause-reads : goal.returns-clause-reads
returns-clause-reads c = record { runs = c.in_ok-blocks.blocks; are = c.in_ok-blocks.ensures.listed; union = c.in_ok-finalize.ensures }
