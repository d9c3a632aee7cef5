use Rattle.std.proofs.Common.{ap, ◌∙◌}
use Rattle.objects_rta_valid.specs.Tables.{one_more}
use Rattle.objects_rta_valid.specs.declared.paths.table.Found.{Found}
use Rattle.objects_rta_valid.proofs.Picking.{adds}
use Rattle.objects_rta_valid.proofs.paths.table.Table.add.Goals as goal

pub returns : goal.returns
returns c =
    adds c.args.self.now.found c.insert.new.self c.args.key.now c.args.place c.with-found.result (c.with-found.ensures ∙ ap (λ (f : Found). one_more f c.args.place) c.find.ensures) c.in_ok-insert.ensures.updates
