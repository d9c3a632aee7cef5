use Rattle.bcder.proofs.Checks.{text_none}
use Rattle.bcder.proofs.Characters.{first_found, rest_found, none_found}
use Rattle.bcder.proofs.string.chars.first_of.Goals as goal

pub returns-in-Ok-clause-first : goal.returns-in-Ok-clause-first
returns-in-Ok-clause-first g c = first_found g.met.L.CharSet.told g.met.L.CharSet.some_octet g.met.L.CharSet.one_start _ c.requires c.in-Ok.found c.in-Ok.ensures.next

pub returns-in-Ok-clause-text : goal.returns-in-Ok-clause-text
returns-in-Ok-clause-text g c = rest_found g.met.L.CharSet.some_octet g.met.L.CharSet.one_start _ c.requires c.in-Ok.found c.in-Ok.ensures.next

pub returns-in-Ok-clause-none : goal.returns-in-Ok-clause-none
returns-in-Ok-clause-none g c = none_found g.met.L.CharSet.told _ c.in-Ok.found c.in-Ok.ensures.end

pub returns-in-Err-clause-none : goal.returns-in-Err-clause-none
returns-in-Err-clause-none g c = absurd (text_none _ c.in-Err.ensures.refused c.requires)
