use Rattle.bcder_values.proofs.Known.{known_as}
use Rattle.bcder_values.proofs.items.write_item.Goals as goal

pub write_known-requires : goal.write_known-requires
write_known-requires g c = known_as (λ text. (c.values_of-values.ensures.writes c.args.mode text).1) c.requires
