use Rattle.resources_ip.proofs.of_bcder_content.Forests.{begin, next, next_opt_as, stop, stop_opt, done}
use Rattle.resources_ip.proofs.of_bcder_content.Modes.{mode_behind, lacks_tagged_in, perhaps_in}
use Rattle.resources_ip.proofs.of_bcder_content.Taking.{weaker}
use Rattle.resources_ip.specs.Encodings.{IsIpFamily}
use Rattle.resources_ip.specs.Reading.{family_choice}
use Rattle.resources_ip.proofs.Mentioned.{family_tagged}
use Rattle.resources_ip.proofs.der.pair_in.Goals as goal

pub returns-in_err-first : goal.returns-in_err-first
returns-in_err-first g c = stop _ _ _ _ (begin _ _) c.from_residual.ensures c.in_err-first.ensures

pub returns-in_err-second : goal.returns-in_err-second
returns-in_err-second g c =
    let first = c.in_ok-first.ensures in
    stop_opt _ _ _ _ (next (begin _ _) first) c.from_residual-in_err-second.ensures (weaker _ (lacks_tagged_in IsIpFamily (mode_behind first)) c.in_err-second.ensures)

pub returns : goal.returns
returns g c =
    let first = c.in_ok-first.ensures in
    done (next_opt_as family_choice _ (next (begin _ _) first) family_tagged (perhaps_in family_choice _ IsIpFamily _ _ _ (mode_behind first) c.in_ok-second.ensures))
