use Rattle.std.proofs.Common.{sym, ◌∙◌}
use Rattle.objects_rta_valid.specs.Vouched.{authority_of, subject_of}
use Rattle.objects_rta_valid.proofs.Sought.{last_here, none_at_all}
use Rattle.objects_rta_valid.proofs.Using.{found_issuer, found_none, found_there}
use Rattle.objects_rta_valid.proofs.Vouching.{mem_at}
use Rattle.objects_rta_valid.proofs.lists.issuer_of.Goals as goal

pub returns-in-Some-clause-there : goal.returns-in-Some-clause-there
returns-in-Some-clause-there c = found_there c.args.issuers.now.certs.now c.in-Some.place c.cert_at.result c.cert_at.ensures

pub returns-in-Some-clause-of_issuer : goal.returns-in-Some-clause-of_issuer
returns-in-Some-clause-of_issuer c =
    found_issuer c.args.issuers.now.certs.now c.in-Some.place (authority_of c.args.crl.now) c.cert_at.result
    (last_here subject_of (λ x. Unit {0}) c.args.issuers.now.certs.now (authority_of c.args.crl.now) c.args.issuers.now.places c.requires c.in-Some.place (sym c.place_of_list.ensures ∙ c.in-Some.is)) c.cert_at.ensures

pub returns-in-Some-clause-none : goal.returns-in-Some-clause-none
returns-in-Some-clause-none c =
    found_none c.args.issuers.now.certs.now c.in-Some.place (authority_of c.args.crl.now) c.cert_at.result _
    (last_here subject_of (λ x. Unit {0}) c.args.issuers.now.certs.now (authority_of c.args.crl.now) c.args.issuers.now.places c.requires c.in-Some.place (sym c.place_of_list.ensures ∙ c.in-Some.is)) c.cert_at.ensures

pub returns-in-None-clause-none : goal.returns-in-None-clause-none
returns-in-None-clause-none c p m e =
    let k = mem_at c.args.issuers.now.certs.now p m in
    none_at_all subject_of (λ x. Unit {0}) c.args.issuers.now.certs.now (authority_of c.args.crl.now) c.args.issuers.now.places c.requires (sym c.place_of_list.ensures ∙ c.in-None.is) k.0 p k.1 (sym e)
