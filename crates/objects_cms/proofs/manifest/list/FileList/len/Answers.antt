use Rattle.std.proofs.Common.{ap, length, arith}
use Rattle.objects_cms.proofs.Stepping.{files_few}
use Rattle.objects_cms.proofs.manifest.list.FileList.len.Goals as goal

pub count_files-requires : goal.count_files-requires
count_files-requires c =
    omega (arith, files_few c.self.inside.octets c.self.inside.listing, ap length c.self.view_is, ap length c.as_slice.ensures.octets, ap length c.iter.ensures)
