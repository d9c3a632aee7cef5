use Rattle.std.proofs.Common.{rules, ℕ, List, inl, refl}
use Rattle.objects_cms.specs.objects_payload.ObjectText.{IsSignedMessage, signer_of}
use Rattle.objects_cms.specs.Signer.{signer_fields}
use Rattle.objects_cms.proofs.verify.content.verify_signature.Goals as goal

pub returns-in_default-found-clause-fails : goal.returns-in_default-found-clause-fails
returns-in_default-found-clause-fails g c content_type content =
    let none : (m : List ℕ) → IsSignedMessage (signer_of (signer_fields c.args.signer.now)) m → ⊥ = search rules in
    inl (refl, λ p. none p.message p.is)
