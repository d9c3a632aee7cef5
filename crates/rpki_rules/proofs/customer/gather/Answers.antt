use Rattle.std.proofs.Common.{◌≡◌, ◌+◌, List, [], ◌∷◌, ◌++◌, map, take, take_all, get_or, sym, ap, subst, ◌∙◌}
use Rattle.std.proofs.lemmas.List.{take_more}
use Rattle.rpki_rules.specs.Attests.{Provision}
use Rattle.rpki_rules.specs.declared.customer.Provision.{Provision as CodeProvision}
use Rattle.rpki_rules.specs.declared.customer.Customer.{Customer as CodeCustomer}
use Rattle.rpki_rules.specs.Views.{provision_of, customer_of}
use Rattle.rpki_rules.specs.Groups.{Gathers}
use Rattle.rpki_rules.proofs.Groups.{map_push, gathers_none, customers_are}
use Rattle.rpki_rules.proofs.customer.gather.Goals as goal

pub returns : goal.returns
returns c = customers_are _ _ c.requires (subst (λ (xs : List CodeProvision). Gathers (map provision_of xs) (map customer_of c.loop-pair.all.items)) (take_all c.loop-pair.pair-index c.args.pairs.now c.loop-pair-test.false) c.loop-pair.invariant)

pub loop-pair-init : goal.loop-pair-init
loop-pair-init c = subst (λ (xs : List CodeCustomer). Gathers [] (map customer_of xs)) (sym c.new-all.ensures.items) gathers_none

pub loop-pair-preserved : goal.loop-pair-preserved
loop-pair-preserved c =
    let xs = c.args.pairs.now in let i = c.loop-pair.pair-index in
    let e : map provision_of (take (i + 1) xs) ≡ map provision_of (take i xs) ++ provision_of c.pair-item.result ∷ [] =
    ap (map provision_of) (take_more xs i c.pair-item.result c.loop-pair-test.true) ∙ (map_push provision_of (take i xs) (get_or xs i c.pair-item.result) ∙ ap (λ (q : CodeProvision). map provision_of (take i xs) ++ provision_of q ∷ []) (sym c.pair-item.is)) in
    subst (λ (ps : List Provision). Gathers ps (map customer_of c.add.new.all.items)) (sym e) (c.in_ok-add.ensures (map provision_of (take i xs)) c.loop-pair.invariant)
