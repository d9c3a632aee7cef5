use Rattle.std.proofs.Common.{rules, ◌≡◌, ap, ◌∙◌}
use Rattle.bcder_octets.specs.BitContents.{last_octet}
use Rattle.bcder_octets.proofs.Padding.{last_octet-push, shifted}
use Rattle.bcder_octets.proofs.bits.parse.is_clear.Goals as goal

pub returns : goal.returns
returns c =
    let last : last_octet c.args.octets.now ≡ c.in-Some.last.now = ap last_octet c.in-Some.ensures.cases.0 ∙ last_octet-push c.in-Some.field-0-1.now c.in-Some.last.now in
    rw (shifted c.args.unused c.requires, last) (search rules)
