use Rattle.std.proofs.Common.{ℕ, List, subst}
use Rattle.rpki_rules.specs.World.{find_object}
use Rattle.rpki_steps.specs.PointFiles.{IsFileIn}
use Rattle.rpki_steps.proofs.Listed.{all_read, more_read}
use Rattle.rpki_steps.proofs.point.files.files_in.Goals as goal

pub loop-listed-preserved : goal.loop-listed-preserved
loop-listed-preserved c =
    let object = find_object c.args.bundle.now.objects in
    let folder = c.args.folder.now in
    let file = c.in-Some-2.file in
    let is : IsFileIn object folder c.in-Some.listed.name file =
    subst (λ (n : List ℕ). IsFileIn object folder n file) c.file.ensures (rw c.in-Some-2.is at c.in_ok-file.ensures) in
    more_read object folder c.args.manifest.now.files c.loop-listed.left c.loop-listed.files.items c.loop-listed.invariant
    c.in-Some.listed c.next.new.self file c.push.new.self.items c.in-Some.ensures.steps is c.in_ok-push.ensures.items

pub returns : goal.returns
returns c = all_read _ _ _ _ _ c.loop-listed.invariant c.in_default.ensures.steps.0
