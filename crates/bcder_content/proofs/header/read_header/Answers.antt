use Rattle.bcder_content.proofs.Windows.{no_identifier, no_size, heads_found}
use Rattle.bcder_content.proofs.header.read_header.Goals as goal

pub returns-in_default-clause-none : goal.returns-in_default-clause-none
returns-in_default-clause-none c = no_identifier c.in_default.ensures.none

pub returns-in_default-read-clause-none : goal.returns-in_default-read-clause-none
returns-in_default-read-clause-none c = no_size c.args.octets.now c.in-Some.ensures.found c.in_default-read.ensures.none

pub returns-clause-found : goal.returns-clause-found
returns-clause-found c = heads_found c.args.octets.now c.in-Some.ensures.found c.in-Some-read.ensures.found
