use Rattle.bcder_content.proofs.Windows.{shown, of_tag_in, begins_of_tag, no_tag_in}
use Rattle.bcder_content.proofs.header.next_tag.Goals as goal

pub returns-in-Some-clause-found : goal.returns-in-Some-clause-found
returns-in-Some-clause-found g c =
    let r = c.in_ok-request.ensures in
    of_tag_in (shown r.same c.slice.ensures.slice r.available r.there r.enough) (begins_of_tag c.in-Some.ensures.found)

pub returns-in-None-clause-none : goal.returns-in-None-clause-none
returns-in-None-clause-none g c =
    let r = c.in_ok-request.ensures in
    no_tag_in (shown r.same c.slice.ensures.slice r.available r.there r.enough) c.in-None.ensures.none
