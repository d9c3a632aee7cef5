use Rattle.std.proofs.Common.{rules}
use Rattle.certs_x509.proofs.Lists.{spelled_is}
use Rattle.certs_x509.proofs.Made.{made_list, not_made}
use Rattle.certs_x509.proofs.revoked.revoked.RevokedCertificates.from_entries.Goals as goal

pub invariant_of-result : goal.invariant_of-result
invariant_of-result c =
    let s = made_list c.in_ok-octets.octets c.args.entries.now _ c.in_ok-octets.ensures.mode c.slice.ensures.items c.in_ok-octets.ensures.captured in
    ((c.args.entries.now, ∣ s ∣₁), tt)

pub returns-clause-made : goal.returns-clause-made
returns-clause-made c =
    spelled_is _ _ c.args.entries.now (search rules)
    (made_list c.in_ok-octets.octets c.args.entries.now _ c.in_ok-octets.ensures.mode c.slice.ensures.items c.in_ok-octets.ensures.captured)

pub returns-in_err-octets-clause-refused : goal.returns-in_err-octets-clause-refused
returns-in_err-octets-clause-refused c = not_made c.args.entries.now _ _ _ c.from_residual.ensures c.slice.ensures.items c.in_err-octets.ensures.refused
