use Rattle.std.proofs.lemmas.Result.{err_from_is_err_and}
use Rattle.resources_ip_prefix.proofs.MaxLenTexts.{no_max_len_text, max_len_reads}
use Rattle.resources_ip_prefix.proofs.ip_addr.texts.MaxLenPrefixFromStr.from_str.Goals as goal

pub returns-in_err-prefix : goal.returns-in_err-prefix
returns-in_err-prefix c =
    let p = err_from_is_err_and c.from_residual.result c.from_residual.ensures.1 in
    rw (p.1, p.2) (c.in_err-prefix.ensures, no_max_len_text c.args.text.now _ c.in_err-prefix.ensures)

pub returns : goal.returns
returns c = max_len_reads c.args.text.now c.in_ok-prefix.prefix c.in_ok-prefix.max_len c.new.result c.map_err.result c.in_ok-prefix.ensures c.new.ensures c.map_err.ensures.cases
