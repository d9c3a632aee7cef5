use Rattle.bcder_values.proofs.of_bcder_primitive.Compose.{writer_refused, has_both}
use Rattle.bcder_values.proofs.Known.{known}
use Rattle.bcder_values.proofs.of_bcder_primitive.Pieces.{stopped, wrote_as, wrote_both, front_as, front_first, front_second}
use Rattle.bcder_values.proofs.Wrapping.{wrapped, all_long, closing_of}
use Rattle.bcder_values.proofs.constructed.ConstructedValues.write_encoded.Goals as goal
use Rattle.std.proofs.Common.{arith}
use Rattle.std.proofs.lemmas.Result.{IfErr-weaker, on_ok_weaker}

pub returns-in_err-put_opening-clause-refused : goal.returns-in_err-put_opening-clause-refused
returns-in_err-put_opening-clause-refused g c =
    let content = c.in_ok-content.ensures.len in
    let long = all_long (g.met.V.Values.one_text c.args.self.now.inner c.args.mode) content in
    let e = c.in_err-put_opening.ensures.refused in
    let rest = has_both content (closing_of c.args.mode).1 in
    stopped _ _ _ c.from_residual-in_err-put_opening.ensures
    (writer_refused _ _ _ _ _ _ e.0 (front_as (wrapped c.args.mode (omega arith) long) (front_first rest.text rest.is e.1)))

pub write_known-requires : goal.write_known-requires
write_known-requires g c = known (omega arith) c.in_ok-content.ensures.len

pub returns-in_err-write_known-clause-refused : goal.returns-in_err-write_known-clause-refused
returns-in_err-write_known-clause-refused g c =
    let long = all_long (g.met.V.Values.one_text c.args.self.now.inner c.args.mode) c.in_ok-content.ensures.len in
    let closing = (closing_of c.args.mode).1 in
    let r = c.in_err-write_known.ensures.refused in
    stopped _ _ _ c.from_residual-in_err-write_known.ensures
    (writer_refused _ _ _ _ _ _ r.0 (front_as (wrapped c.args.mode (omega arith) long) (front_second c.in_ok-put_opening.ensures.written (front_first closing.text closing.is r.1))))

pub returns-clause-written : goal.returns-clause-written
returns-clause-written g c =
    let long = all_long (g.met.V.Values.one_text c.args.self.now.inner c.args.mode) c.in_ok-content.ensures.len in
    on_ok_weaker _ (λ w. wrote_as (wrapped c.args.mode (omega arith) long) (wrote_both c.in_ok-put_opening.ensures.written (wrote_both c.in_ok-write_known.ensures.written w))) c.put_closing.ensures.written

pub returns-clause-refused : goal.returns-clause-refused
returns-clause-refused g c =
    let long = all_long (g.met.V.Values.one_text c.args.self.now.inner c.args.mode) c.in_ok-content.ensures.len in
    IfErr-weaker _ _ _ (λ e h.
    writer_refused _ _ _ _ _ e h.0 (front_as (wrapped c.args.mode (omega arith) long) (front_second c.in_ok-put_opening.ensures.written (front_second c.in_ok-write_known.ensures.written h.1)))) c.put_closing.ensures.refused
