use Rattle.resources_ip_prefix.proofs.WideLemmas.{has_wide, v4_whole}
use Rattle.resources_ip_prefix.proofs.laws.prefixes_have_their_numbers.Goals as goal

pub returns-clause-has : goal.returns-clause-has
returns-clause-has c = has_wide

pub returns-clause-whole : goal.returns-clause-whole
returns-clause-whole c = v4_whole
