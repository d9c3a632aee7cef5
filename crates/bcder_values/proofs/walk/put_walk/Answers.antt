use Rattle.std.proofs.KnownBytes.{Appends-nil}
use Rattle.bcder_values.proofs.Known.{known_as, known_first, known_second}
use Rattle.bcder_values.proofs.Lists.{all_split, all_joined, wrote_one_more}
use Rattle.bcder_values.proofs.of_bcder_primitive.Pieces.{stopped, front_as, front_first, front_second}
use Rattle.bcder_values.specs.Lists.{WritesAll}
use Rattle.bcder_values.specs.Writable.{Writable}
use Rattle.bcder_values.proofs.walk.put_walk.Goals as goal
use Rattle.std.proofs.Common.{◌++◌, ◌∷◌, [], ◌∙◌, refl, sym, ap, append_assoc, subst}

pub write_known-requires : goal.write_known-requires
write_known-requires g c =
    let before = c.loop-item.invariant in
    let x = c.in-Some.item in
    let xs = g.T.Walk.items c.next.new.self in
    let P = λ (v : g.row.T-Item.Denot). g.T.Item.Values.writes v c.args.mode in
    let whole = before.whole ∙ ap (λ l. before.done ++ l) c.in-Some.ensures in
    let all = subst (λ l. Writable (WritesAll P l)) whole c.requires in
    known_first (known_second (known_as (all_split P before.done (x ∷ xs)) all))

pub returns-in_err-write_known-clause-refused : goal.returns-in_err-write_known-clause-refused
returns-in_err-write_known-clause-refused g c =
    let before = c.loop-item.invariant in
    let x = c.in-Some.item in
    let xs = g.T.Walk.items c.next.new.self in
    let P = λ (v : g.row.T-Item.Denot). g.T.Item.Values.writes v c.args.mode in
    let whole = before.whole ∙ ap (λ l. before.done ++ l) c.in-Some.ensures in
    let all = subst (λ l. Writable (WritesAll P l)) whole c.requires in
    let others = (known_second (known_as (all_split P before.done (x ∷ xs)) all)).is in
    let r = c.in_err-write_known.ensures.refused in
    let front = front_as (all_joined P before.done (x ∷ xs)) (front_second before.written (front_first others.second others.is_second r.1)) in
    stopped _ _ _ c.from_residual.ensures (r.0, rw whole front)

pub loop-item-init : goal.loop-item-init
loop-item-init g c = record {
  done = [];
  whole = sym c.again-rest.ensures;
  written = record { text = []; is = refl; appended = Appends-nil (g.W.Write.contents c.args.target.now) };
}

pub loop-item-preserved : goal.loop-item-preserved
loop-item-preserved g c =
    let before = c.loop-item.invariant in
    record {
      done = before.done ++ (c.in-Some.item ∷ []);
      whole = before.whole ∙ ap (λ l. before.done ++ l) c.in-Some.ensures ∙ sym (append_assoc before.done (c.in-Some.item ∷ []) (g.T.Walk.items c.next.new.self));
      written = wrote_one_more (λ v. g.T.Item.Values.writes v c.args.mode) before.done c.in-Some.item before.written c.in_ok-write_known.ensures.written;
    }
