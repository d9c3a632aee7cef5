use Rattle.certs_verify.specs.certs_extension.declared.forms.Role.TheVariants.{Ta}
use Rattle.certs_verify.specs.certs_key.Digesting.{digests_of}
use Rattle.certs_verify.proofs.Refusals.{inspects_by}
use Rattle.certs_verify.proofs.validate.CertValidate.validate_ta_at.Goals as goal

pub returns-clause-validates : goal.returns-clause-validates
returns-clause-validates g c =
    let d = digests_of g.D.Digester.sha256_digest g.D.Digester.sha1_digest c.args.digester.now in
    c.validate_anchor.ensures.validates d c.args.strict
    (inspects_by d c.args.strict Ta c.args.self _ c.inspect_ta-form.ensures.passed c.inspect_ta-form.ensures.refused)

pub returns-clause-memory : goal.returns-clause-memory
returns-clause-memory g c =
    let d = digests_of g.D.Digester.sha256_digest g.D.Digester.sha1_digest c.args.digester.now in
    c.validate_anchor.ensures.memory d c.args.strict
    (inspects_by d c.args.strict Ta c.args.self _ c.inspect_ta-form.ensures.passed c.inspect_ta-form.ensures.refused)
