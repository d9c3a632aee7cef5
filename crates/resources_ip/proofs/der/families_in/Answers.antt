use Rattle.std.specs.Option.{option_map}
use Rattle.resources_ip.specs.Reading.{family_choice}
use Rattle.resources_ip.proofs.Mentioned.{families_stop, families_given, families_unfit}
use Rattle.resources_ip.proofs.der.families_in.Goals as goal

pub returns-in_err-pair : goal.returns-in_err-pair
returns-in_err-pair g c = families_stop _ _ _ _ _ _ c.from_residual.ensures c.in_err-pair.ensures

pub returns-in-Some : goal.returns-in-Some
returns-in-Some g c = families_given _ (family_choice c.in_ok-pair.pair.first) (option_map family_choice c.in_ok-pair.pair.second) c.in_ok-pair.ensures c.in-Some.ensures

pub returns-in-None : goal.returns-in-None
returns-in-None g c = families_unfit _ (family_choice c.in_ok-pair.pair.first) (option_map family_choice c.in_ok-pair.pair.second) c.content_err.result c.in_ok-pair.ensures c.in-None.ensures
