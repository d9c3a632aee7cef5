use Rattle.std.proofs.Common.{sym, ◌∙◌, rules}
use Rattle.certs_x509.proofs.Splits.{none_is, rest_is, rest_listing, shorter, splits_at, steps_none}
use Rattle.certs_x509.proofs.revoked.iter.RevokedCertificatesIterIterator.next.Goals as goal

pub returns-in_err-entry-clause-steps : goal.returns-in_err-entry-clause-steps
returns-in_err-entry-clause-steps c =
    steps_none _ c.from_residual.result c.from_residual.ensures (sym c.self.view_is ∙ none_is _ _ c.self.inside.listing.1 c.in_err-entry.ensures.none)

pub invariant_of-self-inside : goal.invariant_of-self-inside
invariant_of-self-inside c = (rest_listing _ _ _ c.self.inside.listing (splits_at _ _ _ _ _ c.split_at.ensures.back c.in_ok-entry.ensures.some), tt)

pub returns-clause-steps : goal.returns-clause-steps
returns-clause-steps c = rest_is _ _ _ _ _ _ c.self.view_is c.self.inside.listing.1 (splits_at _ _ _ _ _ c.split_at.ensures.back c.in_ok-entry.ensures.some) (search rules)

pub returns-clause-goes : goal.returns-clause-goes
returns-clause-goes c = record { on = λ f. (tt, f, shorter _ _ _ (returns-clause-steps c)); keeps = tt; rests = λ f. tt }
