use Rattle.std.proofs.Common.{refl}
use Rattle.std.proofs.lemmas.Result.{on_ok_weaker}
use Rattle.resources_ip.proofs.resources.IpResourcesBuilder.blocks.Goals as goal

pub returns-clause-ok : goal.returns-clause-ok
returns-clause-ok g c = on_ok_weaker c.list.result (λ same. (c.build.new.arg2, record { shown = _; shows = c.new-pushed.ensures; left = _; met = c.in_ok-build.ensures; leaves = refl }, same)) c.list.ensures.ok
