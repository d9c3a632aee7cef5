use Rattle.resources_ip_block.specs.bcder_tree.declared.mode.Mode.{Mode}
use Rattle.resources_ip_block.proofs.of_bcder_content.Forests.{begin, next, stop, done}
use Rattle.resources_ip_block.proofs.of_bcder_content.Taking.{weaker}
use Rattle.resources_ip_block.proofs.of_bcder_content.Modes.{mode_behind, gives_in, lacks_in}
use Rattle.resources_ip_prefix.specs.Encodings.{IsAddress}
use Rattle.resources_ip_block.proofs.der.bounds_in.Goals as goal

pub returns-in_err-min-clause-reads : goal.returns-in_err-min-clause-reads
returns-in_err-min-clause-reads g c = stop _ _ _ _ (begin _ _) c.from_residual.ensures c.in_err-min.ensures.reads

pub returns-in_err-max-clause-reads : goal.returns-in_err-max-clause-reads
returns-in_err-max-clause-reads g c =
    let min = c.in_ok-min.ensures.reads in
    stop _ _ _ _ (next (begin _ _) min) c.from_residual-in_err-max.ensures (weaker _ (lacks_in (λ (m : Mode). IsAddress m c.args.family) (mode_behind min)) c.in_err-max.ensures.reads)

pub returns-clause-reads : goal.returns-clause-reads
returns-clause-reads g c =
    let min = c.in_ok-min.ensures.reads in
    done (next (next (begin _ _) min) (gives_in (λ (m : Mode). IsAddress m c.args.family) (mode_behind min) c.in_ok-max.ensures.reads))
