use Rattle.bcder_octets.proofs.Around.{around}
use Rattle.bcder_octets.proofs.wrapping.WrappingOctetStringEncoderValues.write_encoded.Goals as goal
use Rattle.bcder_values.proofs.Wrapping.{all_long}
use Rattle.bcder_octets.proofs.of_bcder_primitive.Compose.{written_refused, writer_refused}
use Rattle.bcder_octets.proofs.of_bcder_primitive.Pieces.{stopped, wrote_as, wrote_both, front_as, front_first, front_second}
use Rattle.std.proofs.Common.{arith}
use Rattle.std.proofs.lemmas.Result.{IfErr-weaker, on_ok_weaker}

pub returns-in_err-put_header-clause-refused : goal.returns-in_err-put_header-clause-refused
returns-in_err-put_header-clause-refused g c =
    let content = c.in_ok-content.ensures.len in
    let long = all_long (g.met.V.Values.one_text c.args.self.now.values c.args.self.now.mode) content in
    let e = c.in_err-put_header.ensures.refused in
    stopped _ _ _ c.from_residual-in_err-put_header.ensures
    (writer_refused _ _ _ _ _ _ e.0 (front_as (around c.args.mode c.in_ok-content.ensures.not_cer long) (front_first content.text content.is e.1)))

pub returns-clause-written : goal.returns-clause-written
returns-clause-written g c =
    let long = all_long (g.met.V.Values.one_text c.args.self.now.values c.args.self.now.mode) c.in_ok-content.ensures.len in
    on_ok_weaker _ (λ w. wrote_as (around c.args.mode c.in_ok-content.ensures.not_cer long) (wrote_both c.in_ok-put_header.ensures.written w)) c.write_encoded.ensures.written

pub returns-clause-refused : goal.returns-clause-refused
returns-clause-refused g c =
    let content = c.in_ok-content.ensures.len in
    let few = c.in_ok-content.ensures.few in
    let long = all_long (g.met.V.Values.one_text c.args.self.now.values c.args.self.now.mode) content in
    IfErr-weaker _ _ _ (λ e h.
    let r = written_refused c.args.self.now.mode _ _ _ _ _ _ e (g.met.V.Values.spelled c.args.self.now.values c.args.self.now.mode) content (omega arith) h in
    writer_refused _ _ _ _ _ e r.0 (front_as (around c.args.mode c.in_ok-content.ensures.not_cer long) (front_second c.in_ok-put_header.ensures.written r.1))) c.write_encoded.ensures.refused
