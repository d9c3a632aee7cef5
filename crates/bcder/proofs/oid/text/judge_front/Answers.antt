use Rattle.std.proofs.Common.{[], ◌∷◌, refl}
use Rattle.bcder.proofs.Dots.{begin, last_read, go_on, refused_piece, refused_text, refused_numbers, first_two, may_begin, no_begin, through, on_err, on_ok, component_why, for_any, front_any}
use Rattle.bcder.proofs.oid.text.judge_front.Goals as goal

pub returns-in_err-first-clause-refused : goal.returns-in_err-first-clause-refused
returns-in_err-first-clause-refused c =
    through c.from_residual.result c.in_err-first.field-0.0 c.from_residual.ensures (λ none. refused_text (refused_piece c.piece.result.1 (begin c.args.text.now) c.piece.ensures none)) c.in_err-first.ensures.refused

pub returns-in_default-clause-refused : goal.returns-in_default-clause-refused
returns-in_default-clause-refused c =
    refused_numbers {ns = c.in_ok-first.first ∷ []} {ms = c.in_ok-first.first ∷ []} (last_read (begin c.args.text.now) (rw c.in_default.is at c.piece.ensures) c.in_ok-first.ensures.reads) refl (λ m. m)

pub returns-in_err-second-clause-refused : goal.returns-in_err-second-clause-refused
returns-in_err-second-clause-refused c =
    let going = go_on (begin c.args.text.now) (rw c.in-Some.is at c.piece.ensures) c.in_ok-first.ensures.reads in
    through c.from_residual-in_err-second.result c.in_err-second.field-0.0 c.from_residual-in_err-second.ensures (λ none. refused_text (refused_piece c.piece-2.result.1 going c.piece-2.ensures none)) c.in_err-second.ensures.refused

pub returns-clause-begins : goal.returns-clause-begins
returns-clause-begins c =
    let going = go_on (begin c.args.text.now) (rw c.in-Some.is at c.piece.ensures) c.in_ok-first.ensures.reads in
    on_ok c.judge_components.result (may_begin (first_two c.piece-2.result.1 going c.piece-2.ensures c.in_ok-second.ensures.reads)) c.judge_components.ensures.begins

pub returns-clause-refused : goal.returns-clause-refused
returns-clause-refused c =
    let going = go_on (begin c.args.text.now) (rw c.in-Some.is at c.piece.ensures) c.in_ok-first.ensures.reads in
    on_err c.judge_components.result (no_begin (first_two c.piece-2.result.1 going c.piece-2.ensures c.in_ok-second.ensures.reads)) c.judge_components.ensures.refused

pub returns-in_err-first-clause-cause : goal.returns-in_err-first-clause-cause
returns-in_err-first-clause-cause c =
    let r = c.from_residual.result in
    for_any c.args.text.now r (component_why r c.in_err-first.field-0.0 c.from_residual.ensures c.in_err-first.ensures.cause (λ none. refused_piece c.piece.result.1 (begin c.args.text.now) c.piece.ensures none) c.in_err-first.ensures.refused)

pub returns-in_default-clause-cause : goal.returns-in_default-clause-cause
returns-in_default-clause-cause c = λ ns d. (c.in_ok-first.first, last_read (begin c.args.text.now) (rw c.in_default.is at c.piece.ensures) c.in_ok-first.ensures.reads)

pub returns-in_err-second-clause-cause : goal.returns-in_err-second-clause-cause
returns-in_err-second-clause-cause c =
    let going = go_on (begin c.args.text.now) (rw c.in-Some.is at c.piece.ensures) c.in_ok-first.ensures.reads in
    let r = c.from_residual-in_err-second.result in
    for_any c.args.text.now r (component_why r c.in_err-second.field-0.0 c.from_residual-in_err-second.ensures c.in_err-second.ensures.cause (λ none. refused_piece c.piece-2.result.1 going c.piece-2.ensures none) c.in_err-second.ensures.refused)

pub returns-clause-cause : goal.returns-clause-cause
returns-clause-cause c =
    let going = go_on (begin c.args.text.now) (rw c.in-Some.is at c.piece.ensures) c.in_ok-first.ensures.reads in
    front_any c.judge_components.result (first_two c.piece-2.result.1 going c.piece-2.ensures c.in_ok-second.ensures.reads) c.judge_components.ensures.cause
