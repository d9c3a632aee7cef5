use Rattle.std.proofs.Common.{ℕ, List, ap, length, subst, ◌∙◌, arith}
use Rattle.std.specs.Prelude.{◌↔◌, IsTrue}
use Rattle.certs_verify.specs.certs_basics.Verdicts.{Verdicts}
use Rattle.certs_verify.specs.certs_key.Digesting.{digests_of}
use Rattle.objects_rta.specs.objects_cms.Signer.{SignerValue, signer_fields}
use Rattle.objects_rta.specs.objects_payload.ObjectText.{signer_of}
use Rattle.objects_rta_valid.specs.Validity.{IsSoundAt}
use Rattle.objects_rta_valid.proofs.Sounding.{as_many, signers_zip}
use Rattle.objects_rta_valid.proofs.Standing.{empty_told, not_told, told_not}
use Rattle.objects_rta_valid.proofs.Steps.{zip_ends, zip_more, zip_short, zip_stops}
use Rattle.objects_rta_valid.proofs.content.are_sound.Goals as goal

pub loop-signer-init : goal.loop-signer-init
loop-signer-init g c = record {
  sound = signers_zip (IsSoundAt (digests_of g.D.Digester.sha256_digest g.D.Digester.sha1_digest c.args.digester.now) (g.V.Verifier.says c.args.verifier.now) c.args.signed.now) c.signer_infos-rest.result.now c.args.signed.now.signers c.args.places.now c.signer_infos-rest.ensures;
  same = (cc);
  asked = let many = as_many c.signer_infos-rest.result.now c.args.signed.now.signers c.signer_infos-rest.ensures in omega (arith, many);
}

pub loop-signer-preserved : goal.loop-signer-preserved
loop-signer-preserved g c =
    let P : SignerValue → ℕ → Type 0 = λ (s : SignerValue) (place : ℕ). IsSoundAt (digests_of g.D.Digester.sha256_digest g.D.Digester.sha1_digest c.args.digester.now) (g.V.Verifier.says c.args.verifier.now) c.args.signed.now (signer_of (signer_fields s)) place in
    let h = subst (λ (v : Verdicts). IsTrue c.in_ok-is_good.is_good ↔ IsSoundAt (digests_of g.D.Digester.sha256_digest g.D.Digester.sha1_digest c.args.digester.now) v c.args.signed.now (signer_of (signer_fields c.in-Some.signer.now)) c.in-Some-split_first.place.now) c.loop-signer.invariant.same c.in_ok-is_good.ensures.sound in
    record {
      sound = zip_more P _ _ _ _ _ _ _ c.in-Some.ensures.cases.0 c.in-Some-split_first.ensures.cases.0 (h.0 c.if-not-is_good.false) c.loop-signer.invariant.sound;
      same = c.is_sound_at.ensures.same ∙ c.loop-signer.invariant.same;
      asked = let more = ap (λ (xs : List SignerValue). length xs) c.in-Some.ensures.cases.0 in omega (arith, more, c.is_sound_at.ensures.asked, c.loop-signer.invariant.asked);
    }

pub returns-in_default-split_first-clause-sound : goal.returns-in_default-split_first-clause-sound
returns-in_default-split_first-clause-sound g c =
    let P : SignerValue → ℕ → Type 0 = λ (s : SignerValue) (place : ℕ). IsSoundAt (digests_of g.D.Digester.sha256_digest g.D.Digester.sha1_digest c.args.digester.now) (g.V.Verifier.says c.args.verifier.now) c.args.signed.now (signer_of (signer_fields s)) place in
    not_told (zip_short P _ _ _ _ _ c.in-Some.ensures.cases.0 c.in_default-split_first.ensures.cases c.loop-signer.invariant.sound)

pub returns-then-not-is_good-clause-sound : goal.returns-then-not-is_good-clause-sound
returns-then-not-is_good-clause-sound g c =
    let P : SignerValue → ℕ → Type 0 = λ (s : SignerValue) (place : ℕ). IsSoundAt (digests_of g.D.Digester.sha256_digest g.D.Digester.sha1_digest c.args.digester.now) (g.V.Verifier.says c.args.verifier.now) c.args.signed.now (signer_of (signer_fields s)) place in
    let h = subst (λ (v : Verdicts). IsTrue c.in_ok-is_good.is_good ↔ IsSoundAt (digests_of g.D.Digester.sha256_digest g.D.Digester.sha1_digest c.args.digester.now) v c.args.signed.now (signer_of (signer_fields c.in-Some.signer.now)) c.in-Some-split_first.place.now) c.loop-signer.invariant.same c.in_ok-is_good.ensures.sound in
    not_told (zip_stops P _ _ _ _ _ _ _ c.in-Some.ensures.cases.0 c.in-Some-split_first.ensures.cases.0 (told_not c.in_ok-is_good.is_good h c.if-not-is_good.true) c.loop-signer.invariant.sound)

pub returns-clause-sound : goal.returns-clause-sound
returns-clause-sound g c =
    let P : SignerValue → ℕ → Type 0 = λ (s : SignerValue) (place : ℕ). IsSoundAt (digests_of g.D.Digester.sha256_digest g.D.Digester.sha1_digest c.args.digester.now) (g.V.Verifier.says c.args.verifier.now) c.args.signed.now (signer_of (signer_fields s)) place in
    empty_told (length c.loop-signer.ahead.now) c.is_empty.result c.is_empty.ensures (zip_ends P _ _ _ c.in_default.ensures.cases c.loop-signer.invariant.sound)
