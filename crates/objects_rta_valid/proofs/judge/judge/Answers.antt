use Rattle.std.proofs.Common.{subst, ◌∙◌}
use Rattle.std.specs.Prelude.{◌↔◌, IsTrue}
use Rattle.certs_verify.specs.certs_basics.Verdicts.{Verdicts}
use Rattle.certs_verify.specs.certs_key.Digesting.{digests_of}
use Rattle.objects_rta_valid.specs.declared.errors.RtaTest.TheVariants.{Revocation, Signatures}
use Rattle.objects_rta_valid.specs.Validity.{Passes}
use Rattle.objects_rta_valid.proofs.Answering.{first_content, first_forms, first_lists, first_revocation, first_signatures, first_validity, valid_of}
use Rattle.objects_rta_valid.proofs.Standing.{told_not}
use Rattle.objects_rta_valid.proofs.judge.judge.Goals as goal

pub returns-then-not-has_content-clause-validates : goal.returns-then-not-has_content-clause-validates
returns-then-not-has_content-clause-validates g c =
    let d = digests_of g.D.Digester.sha256_digest g.D.Digester.sha1_digest c.args.terms.now.digester.now in
    let v = g.V.Verifier.says c.args.verifier.now in
    let h1 = c.in_ok-has_content.ensures.passes c.args.terms.now.strict c.args.terms.now.moment in
    first_content d v c.args.terms.now.strict c.args.terms.now.moment c.args.rta.now (c.requires.passed d v c.args.terms.now.strict c.args.terms.now.moment) (told_not c.in_ok-has_content.has_content h1 c.if-not-has_content.true)

pub returns-then-not-has_forms-clause-validates : goal.returns-then-not-has_forms-clause-validates
returns-then-not-has_forms-clause-validates g c =
    let d = digests_of g.D.Digester.sha256_digest g.D.Digester.sha1_digest c.args.terms.now.digester.now in
    let v = g.V.Verifier.says c.args.verifier.now in
    let h1 = c.in_ok-has_content.ensures.passes c.args.terms.now.strict c.args.terms.now.moment in
    let h2 = c.in_ok-has_forms.ensures v c.args.terms.now.moment in
    first_forms d v c.args.terms.now.strict c.args.terms.now.moment c.args.rta.now (c.requires.passed d v c.args.terms.now.strict c.args.terms.now.moment) (h1.0 c.if-not-has_content.false) (told_not c.in_ok-has_forms.has_forms h2 c.if-not-has_forms.true)

pub returns-then-not-is_current-clause-validates : goal.returns-then-not-is_current-clause-validates
returns-then-not-is_current-clause-validates g c =
    let d = digests_of g.D.Digester.sha256_digest g.D.Digester.sha1_digest c.args.terms.now.digester.now in
    let v = g.V.Verifier.says c.args.verifier.now in
    let h1 = c.in_ok-has_content.ensures.passes c.args.terms.now.strict c.args.terms.now.moment in
    let h2 = c.in_ok-has_forms.ensures v c.args.terms.now.moment in
    let h3 = c.passes_validity-is_current.ensures d v c.args.terms.now.strict in
    first_validity d v c.args.terms.now.strict c.args.terms.now.moment c.args.rta.now (c.requires.passed d v c.args.terms.now.strict c.args.terms.now.moment) (h1.0 c.if-not-has_content.false) (h2.0 c.if-not-has_forms.false) (told_not c.passes_validity-is_current.result h3 c.if-not-is_current.true)

pub returns-then-not-has_signatures-clause-validates : goal.returns-then-not-has_signatures-clause-validates
returns-then-not-has_signatures-clause-validates g c =
    let d = digests_of g.D.Digester.sha256_digest g.D.Digester.sha1_digest c.args.terms.now.digester.now in
    let v = g.V.Verifier.says c.args.verifier.now in
    let h1 = c.in_ok-has_content.ensures.passes c.args.terms.now.strict c.args.terms.now.moment in
    let h2 = c.in_ok-has_forms.ensures v c.args.terms.now.moment in
    let h3 = c.passes_validity-is_current.ensures d v c.args.terms.now.strict in
    let h4 = subst (λ (w : Verdicts). IsTrue c.in_ok-has_signatures.has_signatures ↔ Passes d w c.args.terms.now.strict c.args.terms.now.moment c.args.rta.now Signatures) c.passes_content.ensures.same (c.in_ok-has_signatures.ensures.passes d c.args.terms.now.strict) in
    first_signatures d v c.args.terms.now.strict c.args.terms.now.moment c.args.rta.now (c.requires.passed d v c.args.terms.now.strict c.args.terms.now.moment) (h1.0 c.if-not-has_content.false) (h2.0 c.if-not-has_forms.false) (h3.0 c.if-not-is_current.false) (told_not c.in_ok-has_signatures.has_signatures h4 c.if-not-has_signatures.true)

pub returns-then-not-has_lists-clause-validates : goal.returns-then-not-has_lists-clause-validates
returns-then-not-has_lists-clause-validates g c =
    let d = digests_of g.D.Digester.sha256_digest g.D.Digester.sha1_digest c.args.terms.now.digester.now in
    let v = g.V.Verifier.says c.args.verifier.now in
    let h1 = c.in_ok-has_content.ensures.passes c.args.terms.now.strict c.args.terms.now.moment in
    let h2 = c.in_ok-has_forms.ensures v c.args.terms.now.moment in
    let h3 = c.passes_validity-is_current.ensures d v c.args.terms.now.strict in
    let h4 = subst (λ (w : Verdicts). IsTrue c.in_ok-has_signatures.has_signatures ↔ Passes d w c.args.terms.now.strict c.args.terms.now.moment c.args.rta.now Signatures) c.passes_content.ensures.same (c.in_ok-has_signatures.ensures.passes d c.args.terms.now.strict) in
    let h5 = c.in_ok-has_lists.ensures d v c.args.terms.now.strict c.args.terms.now.moment in
    first_lists d v c.args.terms.now.strict c.args.terms.now.moment c.args.rta.now (c.requires.passed d v c.args.terms.now.strict c.args.terms.now.moment) (h1.0 c.if-not-has_content.false) (h2.0 c.if-not-has_forms.false) (h3.0 c.if-not-is_current.false) (h4.0 c.if-not-has_signatures.false) (told_not c.in_ok-has_lists.has_lists h5 c.if-not-has_lists.true)

pub returns-then-not-is_unrevoked-clause-validates : goal.returns-then-not-is_unrevoked-clause-validates
returns-then-not-is_unrevoked-clause-validates g c =
    let d = digests_of g.D.Digester.sha256_digest g.D.Digester.sha1_digest c.args.terms.now.digester.now in
    let v = g.V.Verifier.says c.args.verifier.now in
    let h1 = c.in_ok-has_content.ensures.passes c.args.terms.now.strict c.args.terms.now.moment in
    let h2 = c.in_ok-has_forms.ensures v c.args.terms.now.moment in
    let h3 = c.passes_validity-is_current.ensures d v c.args.terms.now.strict in
    let h4 = subst (λ (w : Verdicts). IsTrue c.in_ok-has_signatures.has_signatures ↔ Passes d w c.args.terms.now.strict c.args.terms.now.moment c.args.rta.now Signatures) c.passes_content.ensures.same (c.in_ok-has_signatures.ensures.passes d c.args.terms.now.strict) in
    let h5 = c.in_ok-has_lists.ensures d v c.args.terms.now.strict c.args.terms.now.moment in
    let h6 = subst (λ (w : Verdicts). IsTrue c.in_ok-is_unrevoked.is_unrevoked ↔ Passes d w c.args.terms.now.strict c.args.terms.now.moment c.args.rta.now Revocation) (c.passes_signatures.ensures.same ∙ c.passes_content.ensures.same) (c.in_ok-is_unrevoked.ensures.passes d c.args.terms.now.strict) in
    first_revocation d v c.args.terms.now.strict c.args.terms.now.moment c.args.rta.now (c.requires.passed d v c.args.terms.now.strict c.args.terms.now.moment) (h1.0 c.if-not-has_content.false) (h2.0 c.if-not-has_forms.false) (h3.0 c.if-not-is_current.false) (h4.0 c.if-not-has_signatures.false) (h5.0 c.if-not-has_lists.false) (told_not c.in_ok-is_unrevoked.is_unrevoked h6 c.if-not-is_unrevoked.true)

pub returns-clause-validates : goal.returns-clause-validates
returns-clause-validates g c =
    let d = digests_of g.D.Digester.sha256_digest g.D.Digester.sha1_digest c.args.terms.now.digester.now in
    let v = g.V.Verifier.says c.args.verifier.now in
    let h1 = c.in_ok-has_content.ensures.passes c.args.terms.now.strict c.args.terms.now.moment in
    let h2 = c.in_ok-has_forms.ensures v c.args.terms.now.moment in
    let h3 = c.passes_validity-is_current.ensures d v c.args.terms.now.strict in
    let h4 = subst (λ (w : Verdicts). IsTrue c.in_ok-has_signatures.has_signatures ↔ Passes d w c.args.terms.now.strict c.args.terms.now.moment c.args.rta.now Signatures) c.passes_content.ensures.same (c.in_ok-has_signatures.ensures.passes d c.args.terms.now.strict) in
    let h5 = c.in_ok-has_lists.ensures d v c.args.terms.now.strict c.args.terms.now.moment in
    let h6 = subst (λ (w : Verdicts). IsTrue c.in_ok-is_unrevoked.is_unrevoked ↔ Passes d w c.args.terms.now.strict c.args.terms.now.moment c.args.rta.now Revocation) (c.passes_signatures.ensures.same ∙ c.passes_content.ensures.same) (c.in_ok-is_unrevoked.ensures.passes d c.args.terms.now.strict) in
    valid_of d v c.args.terms.now.strict c.args.terms.now.moment c.args.rta.now (c.requires.passed d v c.args.terms.now.strict c.args.terms.now.moment) (h1.0 c.if-not-has_content.false) (h2.0 c.if-not-has_forms.false) (h3.0 c.if-not-is_current.false) (h4.0 c.if-not-has_signatures.false) (h5.0 c.if-not-has_lists.false) (h6.0 c.if-not-is_unrevoked.false)
