use Rattle.bcder_primitive.proofs.Headers.{header_of, short_header}
use Rattle.bcder_primitive.proofs.Pieces.{refused_as, stopped, wrote_as, wrote_both, wrote_that, front_as, front_first, front_second}
use Rattle.bcder_primitive.specs.Headers.{IsHeaderIn}
use Rattle.bcder_primitive.proofs.written.header.put_header.Goals as goal
use Rattle.std.proofs.Common.{◌≤◌, length, refl, sym, subst, rules}
use Rattle.std.proofs.lemmas.Result.{on_ok_weaker}

pub returns-in_err-write_octets-clause-refused : goal.returns-in_err-write_octets-clause-refused
returns-in_err-write_octets-clause-refused g c =
    let i = c.encoded-long.ensures.identifier in
    let l = c.encoded-wide.ensures.octets in
    let e = c.in_err-write_octets.ensures.refused in
    stopped _ _ _ c.from_residual.ensures (e.0, front_as (header_of _ _ c.requires.tag i l) (front_first _ refl e.1))

pub returns-clause-written : goal.returns-clause-written
returns-clause-written g c =
    let i = c.encoded-long.ensures.identifier in
    let l = c.encoded-wide.ensures.octets in
    on_ok_weaker _ (λ a. wrote_as (header_of _ _ c.requires.tag i l) (wrote_both (wrote_that _ refl c.in_ok-write_octets.ensures.written) (wrote_that _ refl a))) c.write_octets-3.ensures.written

pub returns-clause-refused : goal.returns-clause-refused
returns-clause-refused g c =
    let i = c.encoded-long.ensures.identifier in
    let l = c.encoded-wide.ensures.octets in
    refused_as _ _ (λ a. front_as (header_of _ _ c.requires.tag i l) (front_second (wrote_that _ refl c.in_ok-write_octets.ensures.written) a)) c.write_octets-3.ensures.refused

pub returns-then-wide-eq1-clause-written : goal.returns-then-wide-eq1-clause-written
returns-then-wide-eq1-clause-written g c =
    let i = c.encoded-long.result.0 in
    let l = c.encoded-wide.result.0 in
    let some : 1 ≤ length i = search rules in
    let other : 1 ≤ length l = search rules in
    let is = short_header i l c.encoded-long.result.1 c.encoded-wide.result.1 some other c.if-long-eq1.true c.if-wide-eq1.true c.requires.tag c.encoded-long.ensures.identifier c.encoded-wide.ensures.octets in
    on_ok_weaker _ (wrote_that _ is) c.write_octets.ensures.written

pub returns-then-wide-eq1-clause-refused : goal.returns-then-wide-eq1-clause-refused
returns-then-wide-eq1-clause-refused g c =
    let i = c.encoded-long.result.0 in
    let l = c.encoded-wide.result.0 in
    let some : 1 ≤ length i = search rules in
    let other : 1 ≤ length l = search rules in
    let is = short_header i l c.encoded-long.result.1 c.encoded-wide.result.1 some other c.if-long-eq1.true c.if-wide-eq1.true c.requires.tag c.encoded-long.ensures.identifier c.encoded-wide.ensures.octets in
    refused_as _ _ (front_as (λ t same. subst (IsHeaderIn _ _ _) (sym same) is)) c.write_octets.ensures.refused
