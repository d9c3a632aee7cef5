use Rattle.std.proofs.Common.{ℕ, ◌∙◌}
use Rattle.certs_verify.specs.certs_key.Digesting.{digests_of}
use Rattle.objects_rta_valid.specs.Certs.{HasIssuerForm, HasSignerForm}
use Rattle.objects_rta_valid.specs.Places.{Stands, firsts, pairs}
use Rattle.objects_rta_valid.proofs.Judging.{have_forms_told}
use Rattle.objects_rta_valid.proofs.judge.have_forms.Goals as goal

pub returns : goal.returns
returns g c =
    let d = digests_of g.D.Digester.sha256_digest g.D.Digester.sha1_digest c.args.digester.now in
    have_forms_told (λ (place : ℕ). Stands c.args.certs.now place (HasSignerForm d c.args.strict)) (λ (q : ℕ × ℕ). Stands c.args.certs.now q.1 (HasIssuerForm d c.args.strict))
    c.as_slice.result.now (firsts c.args.paths.now.paths) c.as_slice-2.result.now c.in_ok-pairs.pairs.items (pairs c.args.paths.now.paths) c.are_issuers.result
    (c.as_slice.ensures.value ∙ c.in_ok-firsts.ensures) (c.are_signers.ensures.0 c.if-not-are_signers.false) c.as_slice-2.ensures.value c.in_ok-pairs.ensures c.are_issuers.ensures
