use Rattle.std.proofs.Common.{◌≡◌, true, false}
use Rattle.certs_name.proofs.Inspecting.{found, refused}
use Rattle.certs_name.proofs.name.Name.is_rpki.Goals as goal

pub returns-in-Ok : goal.returns-in-Ok
returns-in-Ok c =
    let d = c.in-Ok.ensures.decodes in
    found c.args.strict c.args.self.now c.mode.result c.as_slice.result.now c.in-Ok.seen d.0 d.1 c.mode.ensures c.as_slice.ensures.octets c.as_slice.ensures.spelled d.2 d.3

pub returns-in-Err-Content : goal.returns-in-Err-Content
returns-in-Err-Content c =
    let d = rw c.in-Err-Content.field-0-is at c.in-Err-Content.ensures.decodes in (
      λ e. let f : false ≡ true = e in absurd cc,
      λ r. absurd (refused c.args.strict c.args.self.now c.mode.result c.as_slice.result.now c.mode.ensures c.as_slice.ensures.octets d r),
    )
