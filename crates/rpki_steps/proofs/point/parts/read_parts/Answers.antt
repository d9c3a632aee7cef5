use Rattle.std.proofs.Common.{◌≡◌, ◌∙◌, ℕ, List, Some, sym, ap}
use Rattle.std.specs.Prelude.{Vec}
use Rattle.std.specs.declared.alloc.Global.{Global}
use Rattle.rpki_rules.specs.World.{find_object}
use Rattle.rpki_steps.specs.declared.point.files.File.{File}
use Rattle.rpki_steps.proofs.Found.{parts_told}
use Rattle.rpki_steps.proofs.point.parts.read_parts.Goals as goal

pub returns : goal.returns
returns c =
    let named : c.args.point.now.point.object.cert.tbs.crl_uri ≡ Some c.in-Some.named.now = cc in
    parts_told (find_object c.args.bundle.now.objects) c.args.ca.now c.args.point.now.point (λ (v : Vec File Global). v.items) c.in_ok-uri.uri c.read_files-files.result c.keep_with.result
    (named ∙ ap (λ (u : List ℕ). Some u) (sym c.in_ok-uri.ensures.cases)) (rw c.content.ensures at c.read_files-files.ensures) c.keep_with.ensures
