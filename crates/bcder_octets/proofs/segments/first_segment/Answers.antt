use Rattle.std.proofs.Common.{rules, ◌<◌, ◌≤◌, length}
use Rattle.bcder_octets.proofs.Rows.{no_rows, first_row, last_row}
use Rattle.bcder_octets.proofs.segments.first_segment.Goals as goal

pub returns-then-is_empty-clause-none : goal.returns-then-is_empty-clause-none
returns-then-is_empty-clause-none c =
    let few : length c.args.octets.now ≤ 0 = search rules in
    no_rows c.args.octets.now few

pub returns-then-octets-le-SEGMENT-clause-found : goal.returns-then-octets-le-SEGMENT-clause-found
returns-then-octets-le-SEGMENT-clause-found c =
    let some : 0 < length c.args.octets.now = search rules in
    let few : length c.args.octets.now ≤ 1000 = search rules in
    rw (c.split_at.ensures.front, c.split_at.ensures.back) (last_row c.args.octets.now some few)

pub returns-clause-found : goal.returns-clause-found
returns-clause-found c =
    let some : 0 < length c.args.octets.now = search rules in
    rw (c.split_at-2.ensures.front, c.split_at-2.ensures.back) (first_row c.args.octets.now some)
