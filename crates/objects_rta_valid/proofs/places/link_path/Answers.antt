use Rattle.std.proofs.Common.{◌<◌, ℕ, Some, length, sym, subst, arith}
use Rattle.std.proofs.Math.ListN.{length-set}
use Rattle.objects_rta_valid.specs.Places.{linked, pairs_of}
use Rattle.objects_rta_valid.proofs.Tables.{begin_more, begins, linked_more}
use Rattle.objects_rta_valid.proofs.places.link_path.Goals as goal

pub index_mut-requires : goal.index_mut-requires
index_mut-requires c =
    omega (
      arith,
      begins (length c.loop-place.links.items) c.loop-place.last c.in-Some-next.place c.loop-place.path c.next-in-loop-place.new.self c.loop-place.invariant.inside c.in-Some-next.ensures.steps,
      c.loop-place.links.ok.0,
    )

pub loop-place-preserved : goal.loop-place-preserved
loop-place-preserved c = record {
  table = linked_more c.loop-place.links.items (linked c.args.links.now.items (pairs_of c.args.path)) c.loop-place.last c.in-Some-next.place c.loop-place.path c.next-in-loop-place.new.self
      c.in-Some-next.ensures.steps c.loop-place.invariant.table;
  inside = λ a b m. subst (λ (n : ℕ). a < n) (sym (length-set c.loop-place.links.items c.loop-place.last (Some c.in-Some-next.place)))
      (begin_more (length c.loop-place.links.items) c.loop-place.last c.in-Some-next.place c.loop-place.path c.next-in-loop-place.new.self c.loop-place.invariant.inside c.in-Some-next.ensures.steps a b m);
}
