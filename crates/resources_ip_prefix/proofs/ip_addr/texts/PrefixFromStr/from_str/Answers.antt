use Rattle.std.proofs.lemmas.Result.{err_from_is_err_and}
use Rattle.resources_ip_prefix.specs.Refusals.{IsNoPrefix}
use Rattle.resources_ip_prefix.proofs.AddrTexts.{still_unreadable, strict_unwritten, strict_reads}
use Rattle.resources_ip_prefix.proofs.ip_addr.texts.PrefixFromStr.from_str.Goals as goal

pub returns-in_err-addr : goal.returns-in_err-addr
returns-in_err-addr c =
    let p = err_from_is_err_and c.from_residual.result c.from_residual.ensures.1 in
    let wrong = still_unreadable IsNoPrefix c.args.text.now _ c.in_err-addr.ensures in
    rw (p.1, p.2) (wrong, strict_unwritten c.args.text.now _ wrong)

pub returns : goal.returns
returns c = strict_reads c.args.text.now c.in_ok-addr.addr c.in_ok-addr.len c.new.result c.map_err.result c.in_ok-addr.ensures c.new.ensures c.map_err.ensures.cases
