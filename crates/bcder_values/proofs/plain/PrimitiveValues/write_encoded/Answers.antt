use Rattle.bcder_values.proofs.of_bcder_primitive.Compose.{content_refused, writer_refused}
use Rattle.bcder_values.proofs.of_bcder_primitive.Pieces.{stopped, wrote_as, wrote_both, front_as, front_first, front_second}
use Rattle.bcder_values.proofs.Wrapping.{plain, all_long}
use Rattle.bcder_values.proofs.plain.PrimitiveValues.write_encoded.Goals as goal
use Rattle.std.proofs.lemmas.Result.{IfErr-weaker, on_ok_weaker}

pub returns-in_err-put_header-clause-refused : goal.returns-in_err-put_header-clause-refused
returns-in_err-put_header-clause-refused g c =
    let content = c.in_ok-content.ensures.len in
    let long = all_long (g.met.P.PrimitiveContent.one_content c.args.self.now.content c.args.mode) content in
    let e = c.in_err-put_header.ensures.refused in
    stopped _ _ _ c.from_residual-in_err-put_header.ensures
    (writer_refused _ _ _ _ _ _ e.0 (front_as (plain c.args.mode long) (front_first content.text content.is e.1)))

pub returns-clause-written : goal.returns-clause-written
returns-clause-written g c =
    let long = all_long (g.met.P.PrimitiveContent.one_content c.args.self.now.content c.args.mode) c.in_ok-content.ensures.len in
    on_ok_weaker _ (λ w. wrote_as (plain c.args.mode long) (wrote_both c.in_ok-put_header.ensures.written w)) c.write_encoded.ensures.written

pub returns-clause-refused : goal.returns-clause-refused
returns-clause-refused g c =
    let content = c.in_ok-content.ensures.len in
    let long = all_long (g.met.P.PrimitiveContent.one_content c.args.self.now.content c.args.mode) content in
    IfErr-weaker _ _ _ (λ e h.
    let r = content_refused c.args.mode _ _ _ _ _ e content c.in_ok-content.ensures.few h in
    writer_refused _ _ _ _ _ e r.0 (front_as (plain c.args.mode long) (front_second c.in_ok-put_header.ensures.written r.1))) c.write_encoded.ensures.refused
