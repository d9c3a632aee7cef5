use Rattle.std.proofs.Common.{◌≡◌, arith, ap}
use Rattle.bcder_tree.specs.Tags.{TagValue}
use Rattle.bcder_tree.proofs.Identifiers.{short_found, long_found, none_found}
use Rattle.bcder_tree.proofs.tag.Tag.read.Goals as goal

pub returns-then-low-lt31-clause-found : goal.returns-then-low-lt31-clause-found
returns-then-low-lt31-clause-found c =
    let f = c.split_first-class in
    let class : c.new.result.class ≡ f.result.0 = ap (λ (t : TagValue). t.class) c.new.ensures in
    let number : c.new.result.number ≡ f.result.2 = ap (λ (t : TagValue). t.number) c.new.ensures in
    short_found c.args.octets.now f.result.1 c.new.result (omega arith) (omega arith) (omega arith) (omega arith) (omega arith)

pub returns-in-Some-clause-found : goal.returns-in-Some-clause-found
returns-in-Some-clause-found c =
    let f = c.split_first-class in
    let class : c.new-in-Some.result.class ≡ f.result.0 = ap (λ (t : TagValue). t.class) c.new-in-Some.ensures in
    let number : c.new-in-Some.result.number ≡ c.in-Some.number = ap (λ (t : TagValue). t.number) c.new-in-Some.ensures in
    long_found c.args.octets.now c.in-Some.count f.result.1 c.in-Some.number c.new-in-Some.result (omega arith) (omega arith) (omega arith) (omega arith) c.in-Some.ensures.found

pub returns-in-None-clause-none : goal.returns-in-None-clause-none
returns-in-None-clause-none c =
    let f = c.split_first-class in
    none_found c.args.octets.now f.result.0 f.result.1 (omega arith) c.in-None.ensures.none
