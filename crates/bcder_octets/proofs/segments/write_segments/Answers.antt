use Rattle.std.proofs.Common.{ℕ, List, ◌++◌, ◌∷◌, [], ◌∙◌, sym, ap, append_assoc, append-nil, subst, arith}
use Rattle.bcder_octets.proofs.of_bcder_primitive.Compose.{first_length, second_length, written_refused, writer_refused}
use Rattle.bcder_values.proofs.Lists.{all_split, all_joined, wrote_one_more}
use Rattle.bcder_octets.proofs.of_bcder_primitive.Pieces.{stopped, front_as, front_first, front_second}
use Rattle.bcder_values.proofs.Wrapping.{has_as}
use Rattle.bcder_values.specs.Lists.{WritesAll}
use Rattle.bcder_values.specs.Plains.{plain_spelled}
use Rattle.bcder_octets.specs.bcder_primitive.Writing.{HasLength}
use Rattle.bcder_octets.specs.Segments.{segments, WritesSegment}
use Rattle.bcder_octets.proofs.segments.write_segments.Goals as goal

pub returns-in_err-write_segment-clause-refused : goal.returns-in_err-write_segment-clause-refused
returns-in_err-write_segment-clause-refused g c =
    let before = c.loop-first.invariant in
    let x = c.in-Some.first.now in
    let xs = segments c.in-Some.others.now in
    let P = λ (v : List ℕ). WritesSegment c.args.mode v in
    let whole = before.whole ∙ ap (λ l. before.done ++ l) c.in-Some.ensures.found in
    let all = subst (λ l. HasLength (WritesAll P l) c.in_ok-segments_len.field-0) whole c.in_ok-segments_len.ensures.len in
    let behind = (second_length (omega arith) (has_as (all_split P before.done (x ∷ xs)) all)) in
    let first = first_length behind.2 behind.1 in
    let r = written_refused c.args.mode _ _ _ _ _ _ _ (λ text w. plain_spelled c.args.mode text w) first.1 first.2 c.in_err-write_segment.ensures.refused in
    let others = behind.1.is in
    let front = front_as (all_joined P before.done (x ∷ xs)) (front_second before.written (front_first others.second others.is_second r.1)) in
    stopped _ _ _ c.from_residual-in_err-write_segment.ensures (writer_refused _ _ _ _ _ _ r.0 (rw whole front))

pub loop-first-preserved : goal.loop-first-preserved
loop-first-preserved g c =
    let before = c.loop-first.invariant in
    record {
      done = before.done ++ (c.in-Some.first.now ∷ []);
      whole = before.whole ∙ ap (λ l. before.done ++ l) c.in-Some.ensures.found ∙ sym (append_assoc before.done (c.in-Some.first.now ∷ []) (segments c.in-Some.others.now));
      written = wrote_one_more (λ (v : List ℕ). WritesSegment c.args.mode v) before.done c.in-Some.first.now before.written c.in_ok-write_segment.ensures.written;
    }

pub returns-clause-written : goal.returns-clause-written
returns-clause-written g c =
    let before = c.loop-first.invariant in
    let whole = before.whole ∙ ap (λ l. before.done ++ l) c.in_default.ensures.none ∙ append-nil before.done in
    rw whole before.written
