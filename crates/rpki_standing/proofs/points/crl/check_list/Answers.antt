use Rattle.std.proofs.Common.{◌≡◌, ◌∙◌, true, false, not, ap}
use Rattle.std.proofs.lemmas.Result.{err_from_is_err_and}
use Rattle.std.specs.Prelude.{is_ok}
use Rattle.rpki_rules.specs.World.{world_of}
use Rattle.rpki_standing.proofs.Found.{said_fails, signature_fails, signed}
use Rattle.rpki_standing.proofs.points.crl.check_list.Goals as goal

pub returns-in_err-check_said-clause-told : goal.returns-in_err-check_said-clause-told
returns-in_err-check_said-clause-told g c d o m e =
    let v = g.V.Verifier.says c.args.reader.now.verifier.now in
    let p = err_from_is_err_and c.from_residual.result c.from_residual.ensures.1 in
    rw (p.1, p.2) (said_fails (world_of d v c.args.reader.now.index) c.args.ca.now o m c.args.crl.now c.in_err-check_said.field-0.0 (c.in_err-check_said.ensures d v o m e))

pub returns-then-is_err-clause-told : goal.returns-then-is_err-clause-told
returns-then-is_err-clause-told g c d o m e =
    let v = g.V.Verifier.says c.args.reader.now.verifier.now in
    signature_fails (world_of d v c.args.reader.now.index) c.args.ca.now o m c.args.crl.now (c.in_ok-check_said.ensures d v o m e) (λ good.
    let yes : is_ok c.verify_signature-signed.result ≡ true = c.verify_signature-signed.ensures.answer.1 cc in
    let no : is_ok c.verify_signature-signed.result ≡ false = c.is_err.ensures.negation ∙ ap not c.if-is_err.true in
    absurd cc)

pub returns-clause-told : goal.returns-clause-told
returns-clause-told g c d o m e =
    let v = g.V.Verifier.says c.args.reader.now.verifier.now in
    let passed : is_ok c.verify_signature-signed.result ≡ true = c.is_err.ensures.negation ∙ ap not c.if-is_err.false in
    let good = c.verify_signature-signed.ensures.answer.0 passed in
    signed (world_of d v c.args.reader.now.index) c.args.ca.now o m c.args.crl.now (c.in_ok-check_said.ensures d v o m e) cc
