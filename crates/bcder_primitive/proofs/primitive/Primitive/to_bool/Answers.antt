use Rattle.std.proofs.Common.{◌≡◌, sym, subst, ap}
use Rattle.bcder_primitive.specs.bcder_tree.declared.mode.Mode.{Mode}
use Rattle.bcder_primitive.specs.Plain.{OctetsLeft}
use Rattle.bcder_primitive.specs.Values.{IsBoolean}
use Rattle.bcder_primitive.proofs.Primitives.{refused_whole, only_content}
use Rattle.bcder_primitive.proofs.primitive.Primitive.to_bool.Goals as goal

pub returns-in-None-clause-reads : goal.returns-in-None-clause-reads
returns-in-None-clause-reads g c =
    let mode : c.small.new.self.mode ≡ c.args.self.now.mode = ap (λ (v : OctetsLeft). v.mode) c.in_ok-count.ensures.same in
    refused_whole (IsBoolean c.args.self.now.mode) c.refuse.result c.in_ok-count.ensures.same c.in_ok-count.ensures.all c.front.ensures.value
    (λ x is. c.in-None.ensures.none x (subst (λ (m : Mode). IsBoolean m c.front.result.now x) (sym mode) is)) (only_content _ c.refuse.result c.refuse.ensures.error)
