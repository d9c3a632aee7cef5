use Rattle.std.proofs.Common.{◌≡◌, ◌<◌, ◌++◌, ◌∷◌, [], List, length, length-append, refl, sym, ap, subst, ◌∙◌, arith}
use Rattle.objects_rta_valid.specs.Nodes.{Node}
use Rattle.objects_rta_valid.specs.Runs.{on_at}
use Rattle.objects_rta_valid.specs.Tables.{Goes, Picks, above_in}
use Rattle.objects_rta_valid.specs.declared.paths.table.Found.{Found}
use Rattle.objects_rta_valid.proofs.Members.{at_inside}
use Rattle.objects_rta_valid.proofs.Only.{graph_more}
use Rattle.objects_rta_valid.proofs.paths.graph.steps_of.Goals as goal

pub loop-node-preserved : goal.loop-node-preserved
loop-node-preserved c =
    let i = c.loop-node.node-index in
    let nodes : List Node = c.args.nodes.now in
    let table = c.in_ok-issuers.issuers in
    let steps : List Found = c.loop-node.steps.items in
    let f : Found = c.above.result in
    let told = c.above.ensures ∙ ap (λ (n : Node). above_in table n.subject n.authority) c.node-item.is in
    let items : c.push.new.self.items ≡ steps ++ f ∷ [] = c.in_ok-push.ensures.items in
    let long = ap (λ (ss : List Found). length ss) items ∙ length-append steps (f ∷ []) in
    let one : length (f ∷ []) ≡ 1 = refl in
    let size : length steps ≡ i = c.loop-node.invariant.size in
    record {
      size = omega (arith, long);
      each = λ place n l at. subst (λ (ss : List Found). Picks (Goes nodes n) (on_at ss place)) (sym items)
          (graph_more nodes steps i f c.node-item.result table c.in_ok-issuers.ensures size told c.loop-node.invariant.each place n l at);
    }

pub returns : goal.returns
returns c =
    let l = c.loop-node-test.false in
    let m = c.loop-node.auto.node-index-end in
    let size = c.loop-node.invariant.size in
    let nodes : List Node = c.args.nodes.now in
    record {
      size = omega (arith, l, m, size);
      each = λ place n at. c.loop-node.invariant.each place n (let inside : place < length nodes = at_inside nodes place n at in omega (arith, l, inside)) at;
    }
