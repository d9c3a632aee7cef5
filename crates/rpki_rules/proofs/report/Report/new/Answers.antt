use Rattle.std.proofs.Common.{List, map, refl, sym, subst}
use Rattle.std.specs.List.Sorted.{IsStrictlySortedBy}
use Rattle.rpki_rules.specs.Words.{Mem}
use Rattle.rpki_rules.specs.Lines.{refusal_cmp}
use Rattle.rpki_rules.specs.declared.customer.Provision.{Provision}
use Rattle.rpki_rules.specs.Views.{provision_of, customer_of, refusal_of, witness_of, provision_cmp, witness_cmp}
use Rattle.rpki_rules.specs.Report.{AreCustomersOf}
use Rattle.rpki_rules.proofs.Sets.{set_of, set_of_origins, one_provision, one_refusal, one_witness}
use Rattle.rpki_rules.proofs.Groups.{customers_to}
use Rattle.rpki_rules.proofs.report.Report.new.Goals as goal

pub gather-requires : goal.gather-requires
gather-requires c =
    let k = c.in_ok-sort_once-2.ensures in
    let p = set_of provision_of provision_cmp one_provision _ _ _ k.sorted k.from_old k.kept (λ x y. refl) in
    subst (λ (xs : List Provision). IsStrictlySortedBy provision_cmp (map provision_of xs)) (sym c.deref.ensures.value) p.ascend

pub returns : goal.returns
returns c =
    let o = c.in_ok-sort_once.ensures in let k = c.in_ok-sort_once-2.ensures in let r = c.in_ok-sort_once-3.ensures in let t = c.in_ok-sort_once-4.ensures in
    let p = set_of provision_of provision_cmp one_provision _ _ _ k.sorted k.from_old k.kept (λ x y. refl) in
    record {
      origins_are = set_of_origins _ _ _ o.sorted o.from_old o.kept (λ x y. refl) (λ x y. refl) (λ x y. refl) (λ x y. refl);
      customers_are = customers_to (Mem (map provision_of c.sort_once-2.new.values.items)) (Mem (map provision_of c.args.provisions.items)) p.exact _ (subst (λ (xs : List Provision). AreCustomersOf (Mem (map provision_of xs)) (map customer_of c.in_ok-customers.customers.items)) c.deref.ensures.value c.in_ok-customers.ensures);
      refusals_are = set_of refusal_of refusal_cmp one_refusal _ _ _ r.sorted r.from_old r.kept (λ x y. refl);
      witnesses_are = set_of witness_of witness_cmp one_witness _ _ _ t.sorted t.from_old t.kept (λ x y. refl);
    }
