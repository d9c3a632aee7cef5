use Rattle.rpki_standing.proofs.Revoking.{names_none, other_list, point_names_none, revoked, unrevoked}
use Rattle.rpki_standing.proofs.points.revoked.check_revocation.Goals as goal

pub returns-in_default : goal.returns-in_default
returns-in_default c p e f = names_none p c.args.cert.now cc

pub returns-in_default-crl_uri : goal.returns-in_default-crl_uri
returns-in_default-crl_uri c p e f = point_names_none p c.args.cert.now c.args.ee.now c.in-Some.uri.now e (cc) (cc)

pub returns-then-not-branch : goal.returns-then-not-branch
returns-then-not-branch c p e f =
    other_list p c.args.cert.now c.args.ee.now c.in-Some.uri.now e (cc) c.in-Some-crl_uri.point_uri.now (cc) (λ same. let yes = c.in_ok-have_one_key.ensures.1 same in let no = c.if-not-branch.true in absurd cc)

pub returns-then-contains : goal.returns-then-contains
returns-then-contains c p e f =
    revoked p c.args.cert.now c.args.ee.now c.in-Some.uri.now e (cc) c.in-Some-crl_uri.point_uri.now (cc) (c.in_ok-have_one_key.ensures.0 c.if-not-branch.false)
    c.args.crl.now c.serial_number.result f (cc) (c.contains.ensures.0 c.if-contains.true)

pub returns : goal.returns
returns c p e f =
    unrevoked p c.args.cert.now c.args.ee.now c.in-Some.uri.now e (cc) c.in-Some-crl_uri.point_uri.now (cc) (c.in_ok-have_one_key.ensures.0 c.if-not-branch.false)
    c.args.crl.now c.serial_number.result f (cc) (λ on. let yes = c.contains.ensures.1 on in let no = c.if-contains.false in absurd cc)
