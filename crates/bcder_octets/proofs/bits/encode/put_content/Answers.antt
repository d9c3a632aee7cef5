use Rattle.std.proofs.Common.{◌≡◌, refl, arith}
use Rattle.std.proofs.lemmas.Result.{IfErr-weaker, on_ok_weaker}
use Rattle.bcder_octets.proofs.of_bcder_primitive.Pieces.{stopped, wrote_as, wrote_both, front_as, front_first, front_second}
use Rattle.bcder_octets.specs.Bits.{BitsValue}
use Rattle.bcder_octets.specs.BitContents.{padded_in}
use Rattle.bcder_octets.proofs.BitWritings.{both_written, content_stopped, length-written}
use Rattle.bcder_octets.proofs.bits.encode.put_content.Goals as goal

pub returns-in_err-put-clause-refused : goal.returns-in_err-put-clause-refused
returns-in_err-put-clause-refused g c =
    let v : BitsValue = record { unused = c.args.unused; octets = c.args.octets.now } in
    let e = c.in_err-put.ensures.refused in
    let had = c.in_ok-len.ensures.len in
    let behind = (padded_in c.args.mode v).octets in
    stopped _ _ _ c.from_residual-in_err-put.ensures
    (content_stopped c.args.mode _ _ _ _ _ e.0 (front_as (both_written c.args.mode v had.text had.is) (front_first {Q = λ t. t ≡ behind} behind refl e.1)))

pub put_padded-requires-clause-few : goal.put_padded-requires-clause-few
put_padded-requires-clause-few g c =
    let v : BitsValue = record { unused = c.args.unused; octets = c.args.octets.now } in
    let had = c.in_ok-len.ensures.len in
    let long = had.long in
    let few = c.in_ok-len.ensures.few in
    omega (arith, length-written c.args.mode v had.text had.is)

pub returns-clause-written : goal.returns-clause-written
returns-clause-written g c =
    let v : BitsValue = record { unused = c.args.unused; octets = c.args.octets.now } in
    let had = c.in_ok-len.ensures.len in
    on_ok_weaker _ (λ b. wrote_as (both_written c.args.mode v had.text had.is) (wrote_both c.in_ok-put.ensures.written b)) c.put_padded.ensures.written

pub returns-clause-refused : goal.returns-clause-refused
returns-clause-refused g c =
    let v : BitsValue = record { unused = c.args.unused; octets = c.args.octets.now } in
    let had = c.in_ok-len.ensures.len in
    IfErr-weaker _ _ _ (λ e h. content_stopped c.args.mode _ _ _ _ e h.0 (front_as (both_written c.args.mode v had.text had.is) (front_second c.in_ok-put.ensures.written h.1))) c.put_padded.ensures.refused
