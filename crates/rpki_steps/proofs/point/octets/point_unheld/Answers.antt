use Rattle.std.proofs.Common.{◌∙◌, ap}
use Rattle.std.specs.Prelude.{Vec}
use Rattle.std.specs.declared.alloc.Global.{Global}
use Rattle.rpki_standing.specs.Standing.{StandingValue}
use Rattle.rpki_steps.specs.declared.point.files.File.{File}
use Rattle.rpki_standing.proofs.Standings.{unheld_refutes}
use Rattle.rpki_steps.proofs.Stands.{has_parts, parts_stand}
use Rattle.rpki_steps.proofs.point.octets.point_unheld.Goals as goal

pub returns-in-Err-clause-found : goal.returns-in-Err-clause-found
returns-in-Err-clause-found g c = unheld_refutes _ _ c.in-Err.reason (rw (c.in-Err.is, c.new.ensures) at c.in_ok-point.ensures.refused)

pub returns-in_default-clause-found : goal.returns-in_default-clause-found
returns-in_default-clause-found g c =
    let is = rw (c.in-Ok.is, c.new.ensures) at c.in_ok-point.ensures.found in
    let none = rw c.in_default.is at c.in_ok-point-2.ensures in
    absurd (has_parts _ _ _ is (rw none at c.read_parts-parts.ensures))

pub returns-clause-found : goal.returns-clause-found
returns-clause-found g c =
    let is = rw (c.in-Ok.is, c.new.ensures) at c.in_ok-point.ensures.found in
    let kept = rw c.in-Some.is at c.in_ok-point-2.ensures in
    parts_stand _ _ _ is c.in-Some.parts.0 c.in-Some.parts.1.items c.of.result (rw kept.1 at c.read_parts-parts.ensures)
    (c.of.ensures.cert ∙ ap (λ (t : StandingValue). t.point.object.cert) kept.0) (ap (λ (v : Vec File Global). v.items) c.of.ensures.files) c.of.ensures.uri
    (c.of.ensures.list ∙ ap (λ (t : StandingValue). t.point.crl) kept.0)
