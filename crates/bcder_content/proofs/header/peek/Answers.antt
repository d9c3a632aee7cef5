use Rattle.bcder_content.proofs.Windows.{shown, heads_found_in, no_head_in}
use Rattle.bcder_content.proofs.header.peek.Goals as goal

pub returns-clause-found : goal.returns-clause-found
returns-clause-found g c =
    let r = c.in_ok-request.ensures in
    heads_found_in c.args.mode _ (shown r.same c.slice.ensures.slice r.available r.there r.enough) c.read_header.ensures.found

pub returns-clause-none : goal.returns-clause-none
returns-clause-none g c =
    let r = c.in_ok-request.ensures in
    no_head_in c.args.mode _ (shown r.same c.slice.ensures.slice r.available r.there r.enough) c.read_header.ensures.none
