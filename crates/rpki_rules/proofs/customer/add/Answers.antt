use Rattle.std.proofs.Common.{◌≡◌, length, refl, ap, ◌∙◌, arith, rules, Vec, Global}
use Rattle.rpki_rules.specs.declared.customer.Customer.{Customer as CodeCustomer}
use Rattle.std.proofs.lemmas.Bool.Decides.{nat_tests}
use Rattle.rpki_rules.proofs.Groups.{same_step, other_step, first_step, none_left}
use Rattle.rpki_rules.proofs.customer.add.Goals as goal
use Rattle.rpki_rules.proofs.customer.add.Goals.{in-Some+else-eq+in_ok-push-3, in_default}

pub returns-then-eq : goal.returns-then-eq
returns-then-eq c pairs g =
    let e : c.in-Some.last.number.value ≡ c.args.pair.now.customer.value = first_of (grind (arith, nat_tests), search rules) in
    same_step _ _ c.pop.new.self.items c.args.pair.now pairs g c.in-Some.last _ c.in-Some.ensures.items c.in_ok-push-2.ensures.items refl c.in_ok-push.ensures.items e

pub returns : goal.returns
returns c pairs g = elim c.match-pop.branch [
  | in-Some+else-eq+in_ok-push-3 w ↦
      let n : ¬ (w.in-Some.last.number.value ≡ c.args.pair.now.customer.value) = λ e. absurd (first_of (grind (arith, nat_tests, e), search (rules, e))) in
      other_step _ _ c.pop.new.self.items c.args.pair.now pairs g w.in-Some.last _ c.match-pop.all.items w.in-Some.ensures.items (ap (λ (v : Vec CodeCustomer Global). v.items) w.all-is ∙ w.in_ok-push-3.ensures.items) c.in_ok-push-4.ensures.items c.in_ok-new.ensures n
  | in_default w ↦
      let z = none_left c.pop.result _ _ _ w.in_default.not-Some c.pop.ensures.cases in
      first_step _ _ c.match-pop.all.items c.args.pair.now pairs g _ (let a = z.0 in omega arith) (let b = z.1 in let k : length c.pop.new.self.items ≡ 0 = omega arith in ap (λ (v : Vec CodeCustomer Global). length v.items) w.all-is ∙ k) c.in_ok-push-4.ensures.items c.in_ok-new.ensures
]
