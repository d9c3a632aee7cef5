use Rattle.objects_payload.specs.Families.{pair_value}
use Rattle.objects_payload.proofs.FamilyLemmas.{families_given, families_stop, families_unfit}
use Rattle.objects_payload.proofs.roa.families.take_families.Goals as goal

pub returns-in_err-first : goal.returns-in_err-first
returns-in_err-first g c = families_stop _ _ _ _ c.from_residual.ensures c.in_err-first.ensures.reads

pub returns-in-Some : goal.returns-in-Some
returns-in-Some g c = families_given (pair_value (c.in_ok-first.first, c.in_ok-first.second)) c.in-Some.families c.in_ok-first.ensures.reads c.in-Some.ensures

pub returns-in-None : goal.returns-in-None
returns-in-None g c = families_unfit (pair_value (c.in_ok-first.first, c.in_ok-first.second)) c.content_err.result c.in_ok-first.ensures.reads c.in-None.ensures
