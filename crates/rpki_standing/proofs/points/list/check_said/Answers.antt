use Rattle.std.proofs.Common.{◌≡◌, subst, sym}
use Rattle.rpki_rules.specs.Certs.{Cert, IsOn}
use Rattle.rpki_rules.specs.World.{world_of}
use Rattle.rpki_standing.proofs.Found.{authority_fails, next_fails, on_list, this_fails}
use Rattle.rpki_standing.proofs.points.list.check_said.Goals as goal

pub returns-then-not-claims_authority : goal.returns-then-not-claims_authority
returns-then-not-claims_authority c d v o m e =
    authority_fails (world_of d v c.args.index.now) c.args.ca.now o m c.args.crl.now (λ p. let yes = c.claims_authority.ensures.1 p in let no = c.if-not-claims_authority.true in absurd cc)

pub returns-then-not-is_made : goal.returns-then-not-is_made
returns-then-not-is_made c d v o m e =
    this_fails (world_of d v c.args.index.now) c.args.ca.now o m c.args.crl.now (c.claims_authority.ensures.0 c.if-not-claims_authority.false) (λ p. let yes = c.is_made.ensures.1 p in let no = c.if-not-is_made.true in absurd cc)

pub returns-then-not-is_fresh : goal.returns-then-not-is_fresh
returns-then-not-is_fresh c d v o m e =
    next_fails (world_of d v c.args.index.now) c.args.ca.now o m c.args.crl.now (c.claims_authority.ensures.0 c.if-not-claims_authority.false) (c.is_made.ensures.0 c.if-not-is_made.false) (λ p. let yes = c.is_fresh.ensures.1 p in let no = c.if-not-is_fresh.true in absurd cc)

pub returns-then-contains : goal.returns-then-contains
returns-then-contains c d v o m e =
    let serial : c.serial_number.result ≡ c.args.ee.now.tbs.serial = cc in
    let on = subst (IsOn c.args.crl.now) serial (c.contains.ensures.0 c.if-contains.true) in
    on_list (world_of d v c.args.index.now) c.args.ca.now o m c.args.crl.now (c.claims_authority.ensures.0 c.if-not-claims_authority.false) (c.is_made.ensures.0 c.if-not-is_made.false) (c.is_fresh.ensures.0 c.if-not-is_fresh.false) (λ n. n (subst (λ (x : Cert). IsOn c.args.crl.now x.tbs.serial) (sym e) on))

pub returns : goal.returns
returns c d v o m e =
    let serial : c.serial_number.result ≡ c.args.ee.now.tbs.serial = cc in (
      (c.claims_authority.ensures.0 c.if-not-claims_authority.false),
      (
        (c.is_made.ensures.0 c.if-not-is_made.false),
        (
          (c.is_fresh.ensures.0 c.if-not-is_fresh.false),
          (
            λ on.
                let yes = c.contains.ensures.1 (subst (IsOn c.args.crl.now) (sym serial) (subst (λ (x : Cert). IsOn c.args.crl.now x.tbs.serial) e on)) in
                let no = c.if-contains.false in
                absurd cc,
            tt,
          ),
        ),
      ),
    )
