use Rattle.objects_rta_valid.specs.certs_extension.Cert.{CertValue}
use Rattle.objects_rta_anchors.specs.Anchors.{IsBelow}
use Rattle.objects_rta_valid.proofs.Standing.{none_stands, not_told, stands_told}
use Rattle.objects_rta_anchors.proofs.below.stands_below.Goals as goal

pub returns-in-Some-clause-below : goal.returns-in-Some-clause-below
returns-in-Some-clause-below g c =
    let A : CertValue → Type 0 = IsBelow (g.V.Verifier.says c.args.verifier.now) c.args.ca.now.holder.cert in
    stands_told A c.args.certs.now c.args.place c.in-Some.cert.now c.is_below.result c.in-Some.ensures c.is_below.ensures.below

pub returns-in-None-clause-below : goal.returns-in-None-clause-below
returns-in-None-clause-below g c =
    let A : CertValue → Type 0 = IsBelow (g.V.Verifier.says c.args.verifier.now) c.args.ca.now.holder.cert in
    not_told (none_stands A c.args.certs.now c.args.place c.in-None.ensures)
