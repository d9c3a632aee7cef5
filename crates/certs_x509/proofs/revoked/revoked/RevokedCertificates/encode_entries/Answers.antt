use Rattle.std.proofs.Common.{sym, ◌∙◌, ap, ◌≡◌, length, true, false}
use Rattle.std.specs.Cmp.{unsigned_Decides}
use Rattle.certs_x509.proofs.Searches.{no_length, none_of, some_of}
use Rattle.certs_x509.proofs.revoked.revoked.RevokedCertificates.encode_entries.Goals as goal

pub returns-then-is_empty-clause-none : goal.returns-then-is_empty-clause-none
returns-then-is_empty-clause-none c =
    none_of c.self.inside.octets c.self.inside.listing c.args.self.now c.self.view_is
    (sym c.as_slice-octets.ensures.octets ∙ no_length c.as_slice-octets.result.now ((unsigned_Decides (length c.as_slice-octets.result.now) 0).0 (sym c.is_empty.ensures ∙ c.if-is_empty.true)))

pub returns-clause-some : goal.returns-clause-some
returns-clause-some c =
    some_of c.self.inside.octets c.self.inside.listing c.args.self.now c.self.view_is
    (λ e.
    let none : length c.as_slice-octets.result.now ≡ 0 = ap length (c.as_slice-octets.ensures.octets ∙ e) in
    let wrong : true ≡ false = sym ((unsigned_Decides (length c.as_slice-octets.result.now) 0).1 none) ∙ sym c.is_empty.ensures ∙ c.if-is_empty.false in
    absurd cc)
