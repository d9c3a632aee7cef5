use Rattle.std.proofs.Common.{◌≡◌, Some}
use Rattle.std.specs.Prelude.{Vec}
use Rattle.std.specs.declared.alloc.Global.{Global}
use Rattle.rpki_rules.specs.World.{find_object}
use Rattle.rpki_steps.specs.declared.point.files.File.{File}
use Rattle.rpki_steps.proofs.RepositoryFiles.{files_told}
use Rattle.rpki_steps.proofs.point.files.read_files.Goals as goal

pub returns : goal.returns
returns c =
    let folder = c.in-Some.folder.now in
    let named : c.args.ca.now.tbs.access.repository ≡ Some folder = cc in
    files_told (find_object c.args.bundle.now.objects) c.args.ca.now c.args.manifest.now folder named (λ (v : Vec File Global). v.items) _ c.files_in.ensures
