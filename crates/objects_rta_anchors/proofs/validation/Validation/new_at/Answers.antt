use Rattle.std.proofs.Common.{sym, subst}
use Rattle.objects_rta_valid.specs.certs_key.Digesting.{digests_of}
use Rattle.objects_rta_valid.specs.objects_rta.AttestationParts.{RtaValue}
use Rattle.objects_rta_valid.specs.Answered.{ValidationValue}
use Rattle.objects_rta_anchors.specs.Anchors.{AnchoredValue}
use Rattle.objects_rta_anchors.specs.Ends.{AreExplicit}
use Rattle.objects_rta_anchors.proofs.Starting.{explicit_of, other_answer}
use Rattle.objects_rta_anchors.proofs.validation.Validation.new_at.Goals as goal

pub unanchored-requires : goal.unanchored-requires
unanchored-requires g c =
    subst (λ (r : RtaValue). AreExplicit r.signed.certs) (sym c.in-Ok.ensures.kept)
    (explicit_of (digests_of g.D.Digester.sha256_digest g.D.Digester.sha1_digest c.args.digester.now) (g.V.Verifier.says c.args.verifier.now) c.args.strict c.args.now c.args.rta c.in-Ok.ensures.validates)

pub returns-in-Err-clause-validates : goal.returns-in-Err-clause-validates
returns-in-Err-clause-validates g c =
    other_answer ValidationValue AnchoredValue (digests_of g.D.Digester.sha256_digest g.D.Digester.sha1_digest c.args.digester.now) (g.V.Verifier.says c.args.verifier.now) c.args.strict c.args.now c.args.rta c.in-Err.error c.in-Err.ensures.validates
