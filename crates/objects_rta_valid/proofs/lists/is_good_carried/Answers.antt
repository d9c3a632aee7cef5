use Rattle.objects_rta_valid.proofs.Standing.{not_told}
use Rattle.objects_rta_valid.proofs.Vouching.{carried_told}
use Rattle.objects_rta_valid.proofs.lists.is_good_carried.Goals as goal

pub returns-in-Some-clause-good_list : goal.returns-in-Some-clause-good_list
returns-in-Some-clause-good_list g c =
    carried_told (g.V.Verifier.says c.args.verifier.now) c.args.now c.args.issuers.now.certs.now c.in-Some.issuer.now c.args.crl.now c.is_good.result c.requires.apart
    c.in-Some.ensures.there c.in-Some.ensures.of_issuer c.is_good.ensures.good_list

pub returns-in-None-clause-good_list : goal.returns-in-None-clause-good_list
returns-in-None-clause-good_list g c = not_told (λ h. c.in-None.ensures.none h.one h.among h.is.of_issuer)
