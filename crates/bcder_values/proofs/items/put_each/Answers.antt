use Rattle.bcder_values.proofs.Known.{known_as, known_first, known_second}
use Rattle.bcder_values.proofs.Lists.{all_split, all_joined, wrote_one_more}
use Rattle.bcder_values.proofs.of_bcder_primitive.Pieces.{stopped, front_as, front_first, front_second}
use Rattle.bcder_values.specs.Lists.{WritesAll}
use Rattle.bcder_values.specs.Writable.{Writable}
use Rattle.bcder_values.proofs.items.put_each.Goals as goal
use Rattle.std.proofs.Common.{◌++◌, ◌∷◌, [], ◌∙◌, refl, sym, ap, append_assoc, subst}

pub write_item-requires : goal.write_item-requires
write_item-requires g c =
    let before = c.loop-first.invariant in
    let x = c.in-Some.first.now in
    let xs = c.in-Some.others.now in
    let P = λ (u : g.row.U.Denot). g.E.Encodes.writes c.args.by.now u c.args.mode in
    let whole = before.whole ∙ ap (λ l. before.done ++ l) c.in-Some.ensures.cases.0 in
    let all = subst (λ l. Writable (WritesAll P l)) whole c.requires in
    λ k. ((refl, tt), known_first (known_second (known_as (all_split P before.done (x ∷ xs)) all)))

pub returns-in_err-write_item-clause-refused : goal.returns-in_err-write_item-clause-refused
returns-in_err-write_item-clause-refused g c =
    let before = c.loop-first.invariant in
    let x = c.in-Some.first.now in
    let xs = c.in-Some.others.now in
    let P = λ (u : g.row.U.Denot). g.E.Encodes.writes c.args.by.now u c.args.mode in
    let whole = before.whole ∙ ap (λ l. before.done ++ l) c.in-Some.ensures.cases.0 in
    let all = subst (λ l. Writable (WritesAll P l)) whole c.requires in
    let others = (known_second (known_as (all_split P before.done (x ∷ xs)) all)).is in
    let r = c.in_err-write_item.ensures.refused in
    let front = front_as (all_joined P before.done (x ∷ xs)) (front_second before.written (front_first others.second others.is_second r.1)) in
    stopped _ _ _ c.from_residual.ensures (r.0, rw whole front)

pub loop-first-preserved : goal.loop-first-preserved
loop-first-preserved g c =
    let before = c.loop-first.invariant in
    record {
      done = before.done ++ (c.in-Some.first.now ∷ []);
      whole = before.whole ∙ ap (λ l. before.done ++ l) c.in-Some.ensures.cases.0 ∙ sym (append_assoc before.done (c.in-Some.first.now ∷ []) c.in-Some.others.now);
      written = wrote_one_more (λ x. g.E.Encodes.writes c.args.by.now x c.args.mode) before.done c.in-Some.first.now before.written c.in_ok-write_item.ensures.written;
    }
