use Rattle.std.proofs.Common.{ap, ◌∙◌}
use Rattle.rpki_standing.specs.certs_basics.Uris.{lookup_key}
use Rattle.rpki_standing.proofs.Revoking.{alike_told}
use Rattle.rpki_standing.proofs.points.revoked.have_one_key.Goals as goal

pub returns : goal.returns
returns c =
    alike_told c.is_eq.result c.cmp_lookup_key.result c.as_slice.result.now (lookup_key c.as_slice-2.result.now) (lookup_key c.args.uri.now) (lookup_key c.args.other.now) c.is_eq.ensures c.cmp_lookup_key.ensures (c.as_slice.ensures.text ∙ c.in_ok-key.ensures) (ap lookup_key c.as_slice-2.ensures.text)
