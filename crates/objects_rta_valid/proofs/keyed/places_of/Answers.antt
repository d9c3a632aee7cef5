use Rattle.std.proofs.Common.{ℕ, List, [], Bor, get_or, arith, rules}
use Rattle.objects_rta_valid.specs.Nodes.{each_octets}
use Rattle.objects_rta_valid.proofs.Keying.{keyed_all, keyed_more, keyed_none, lent_at}
use Rattle.objects_rta_valid.proofs.keyed.places_of.Goals as goal

pub loop-place-init : goal.loop-place-init
loop-place-init c = keyed_none (each_octets c.args.keys.now) _ (search rules) (λ key. search rules)

pub loop-place-preserved : goal.loop-place-preserved
loop-place-preserved c =
    let i = c.loop-place.place in
    let none : Bor (List ℕ) = record { ref_ptr = (0, 0); now = [] } in
    keyed_more (each_octets c.args.keys.now) i (get_or c.args.keys.now i none).now c.loop-place.places c.add.new.self
    (lent_at c.args.keys.now i none c.loop-place-test.true) c.in_ok-add.ensures c.loop-place.invariant

pub returns : goal.returns
returns c = keyed_all c.args.keys.now c.loop-place.place c.loop-place.places (let l = c.loop-place-test.false in let m = c.loop-place.auto.place-end in omega (arith, l, m)) c.loop-place.invariant
