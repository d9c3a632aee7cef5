use Rattle.objects.proofs.OfFamily.{each_of, of_each}
use Rattle.objects.proofs.issued.addresses.are_of_family.Goals as goal

pub returns : goal.returns
returns c =
    (λ t. each_of c.args.family c.args.addresses.now (c.are_all_of.ensures.0 t), λ all. c.are_all_of.ensures.1 (of_each c.args.family c.args.addresses.now all))
