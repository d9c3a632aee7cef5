use Rattle.objects_written.proofs.Setting.{held_as}
use Rattle.objects_written.proofs.build.held.Goals as goal

pub returns : goal.returns
returns c =
    let first = c.set_v4_resources.new.self in
    let second = c.set_v6_resources.new.self in
    let third = c.set_as_resources.new.self in
    let given = c.args.holdings in
    held_as c.args.cert first second third given.v4 given.v6 given.asn c.set_v4_resources.ensures c.set_v6_resources.ensures c.set_as_resources.ensures
