use Rattle.std.proofs.lemmas.Result.{err_from_is_err_and}
use Rattle.resources_ip_prefix.specs.Refusals.{TooLong}
use Rattle.resources_ip_prefix.proofs.AddrTexts.{still_unreadable, relaxed_unwritten, relaxed_reads}
use Rattle.resources_ip_prefix.proofs.ip_addr.prefix.Prefix.from_str_relaxed.Goals as goal

pub returns-in_err-addr : goal.returns-in_err-addr
returns-in_err-addr c =
    let p = err_from_is_err_and c.from_residual.result c.from_residual.ensures.1 in
    let wrong = still_unreadable TooLong c.args.text.now _ c.in_err-addr.ensures in
    rw (p.1, p.2) (wrong, relaxed_unwritten c.args.text.now _ wrong)

pub returns : goal.returns
returns c = relaxed_reads c.args.text.now c.in_ok-addr.addr c.in_ok-addr.len c.new_relaxed.result c.map_err.result c.in_ok-addr.ensures c.new_relaxed.ensures c.map_err.ensures.cases
