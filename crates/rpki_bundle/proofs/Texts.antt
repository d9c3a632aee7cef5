-- The octets that spell a bundle are those that are written of it, its parts are lawful, and lawful parts that are written spell a bundle.
use Rattle.std.proofs.Common.{◌≡◌, ℕ, true, List, Some, ◌++◌, [], refl, sym, ap, ◌∙◌, subst, arith, Result, Ok, Err}
use Rattle.std.specs.Prelude.{IfOk, IfErr, is_ok}
use Rattle.rpki_bundle.specs.bcder_tree.declared.mode.Mode.TheVariants.{Der}
use Rattle.rpki_bundle.specs.bcder_primitive.Encoded.{SpellsSome}
use Rattle.rpki_bundle.specs.bcder_primitive.Integers.{one_unsigned}
use Rattle.rpki_bundle.specs.bcder_primitive.Simple.{one_string}
use Rattle.rpki_bundle.specs.bcder_primitive.Writing.{HasLength, Wrote, CannotWrite}
use Rattle.rpki_bundle.specs.bcder_primitive.declared.written.error.EncodeError.{EncodeError}
use Rattle.rpki_bundle.specs.bcder_primitive.declared.written.error.EncodeError.TheVariants.{CerUnsupported, TooLong, Write, Memory}
use Rattle.rpki_bundle.specs.bcder_values.Laws.{both_spelled, both_one}
use Rattle.rpki_bundle.specs.bcder_values.Plains.{plain_spelled, plain_one}
use Rattle.rpki_bundle.specs.bcder_values.Wraps.{wrapped_spelled, wrapped_one}
use Rattle.rpki_bundle.specs.declared.version.Version.{Version}
use Rattle.certs_basics.specs.Times.{IsMoment}
use Rattle.rpki_bundle.specs.Bundle.{BundleValue, number_of, BundleText, IsSpelled}
use Rattle.rpki_bundle.specs.Lawful.{IsLawful}
use Rattle.rpki_bundle.specs.Written.{AreBundle, WritesBundle, flag_spelled, flag_one, lists_spelled, lists_one}
use Rattle.rpki_bundle.proofs.OneBundle.{bundle_bound}
use Rattle.rpki_bundle.proofs.Written.{bundle}

-- What the octets of a bundle are.
pub record Told (o : List ℕ) (b : BundleValue) : Type 0 where
  pub text : List ℕ
  pub moment : IsMoment text b.moment
  pub written : WritesBundle text b Der o
  pub lawful : IsLawful b

pub text_told : {o : List ℕ} {b : BundleValue} → BundleText o b → Told o b
text_told {o} {b} t =
    let s = t.spelled.is in
    let f = s.is.is.rest.is in
    let m : IsMoment f.content b.moment = subst (λ (z : BundleValue). IsMoment f.content z.moment) (sym s.means) f.is in
    let r = (bundle f.content b m).to o t.spelled in
    record { text = f.content; moment = m; written = r.0; lawful = r.1 }

-- The parts of a bundle that has a text are lawful.
pub text_lawful : {o : List ℕ} {b : BundleValue} → BundleText o b → IsLawful b
text_lawful t = (text_told t).lawful

-- Whatever text tells the moment, the octets are written by it.
pub text_written : {o : List ℕ} {b : BundleValue} (text : List ℕ) → IsMoment text b.moment → BundleText o b → WritesBundle text b Der o
text_written {o} {b} text m t = ((bundle text b m).to o t.spelled).0

pub written_text : {o : List ℕ} {b : BundleValue} (text : List ℕ) → IsMoment text b.moment → IsLawful b → WritesBundle text b Der o → BundleText o b
written_text {o} {b} text m l w = record { spelled = (bundle text b m).back o w l }

-- A bundle is written in one way, so it has one text.
written_one : (text : List ℕ) (b : BundleValue) (s t : List ℕ) → WritesBundle text b Der s → WritesBundle text b Der t → s ≡ t
written_one text b =
    wrapped_one Der (both_one (plain_one Der (one_unsigned (number_of b.version))) (both_one (plain_one Der (one_string text)) (both_one (plain_one Der (one_unsigned b.depth))
    (both_one (flag_one Der b.version) (lists_one b.locators b.objects b.verdicts Der)))))

pub one_bundle_text : {a c : List ℕ} {b : BundleValue} → BundleText a b → BundleText c b → a ≡ c
one_bundle_text {a} {c} {b} p q = let t = text_told p in written_one t.text b a c t.written (text_written t.text t.moment q)

-- What is written of a bundle spells values.
bundle_spells : (text : List ℕ) (b : BundleValue) (o : List ℕ) → WritesBundle text b Der o → SpellsSome Der (AreBundle text b Der) o
bundle_spells text b =
    wrapped_spelled Der (both_spelled Der (plain_spelled Der) (both_spelled Der (plain_spelled Der) (both_spelled Der (plain_spelled Der)
    (both_spelled Der (flag_spelled Der b.version) (lists_spelled b.locators b.objects b.verdicts Der)))))

-- A bundle that has a text is never refused by the encoder,
pub never_refused : (text : List ℕ) (b : BundleValue) (e : EncodeError) → IsMoment text b.moment → IsSpelled b → CannotWrite (AreBundle text b Der) (WritesBundle text b Der) e → ⊥
never_refused text b CerUnsupported m s h = let r = bundle_spells text b s.0 (text_written text m s.1) in h r.trees r.is
never_refused text b TooLong m s h = h s.0 (text_written text m s.1) (omega (arith, bundle_bound s.1))
never_refused text b Write m s h = h
never_refused text b Memory m s h = h

-- so its length is counted, and lawful parts whose length is counted have a text.
pub spelled_counted : (text : List ℕ) (b : BundleValue) (r : Result ℕ EncodeError) → IsMoment text b.moment → IfErr r (CannotWrite (AreBundle text b Der) (WritesBundle text b Der)) → IsSpelled b → is_ok r ≡ true
spelled_counted text b (Ok n) m h s = refl
spelled_counted text b (Err e) m h s = absurd (never_refused text b e m s h)

pub counted_spelled : (text : List ℕ) (b : BundleValue) (r : Result ℕ EncodeError) → IsMoment text b.moment → IsLawful b → IfOk r (HasLength (WritesBundle text b Der)) → is_ok r ≡ true → IsSpelled b
counted_spelled text b (Ok n) m l h e = (h.text, written_text text m l h.is)
counted_spelled text b (Err x) m l h e = absurd cc

-- What is lawful in one version is so in the other.
pub lawful_as_version : {b : BundleValue} (v : Version) → IsLawful b → IsLawful (record b { version = v })
lawful_as_version v l = record { lowest = l.lowest; greatest = l.greatest; locators = l.locators; objects = l.objects; verdicts = l.verdicts }

-- What was written after nothing is the text of the bundle.
pub wrote_view : (text : List ℕ) (b v : BundleValue) (old new : List ℕ) → b ≡ v → IsSpelled b → IsMoment text b.moment → old ≡ [] → Wrote (WritesBundle text b Der) (Some old) (Some new) → BundleText new v
wrote_view text b v old new view s m e h =
    let whole : new ≡ h.text = h.appended ∙ ap (λ (z : List ℕ). z ++ h.text) e in
    let written : BundleText h.text b = written_text text m (text_lawful s.1) h.is in
    subst (BundleText new) view (subst (λ (z : List ℕ). BundleText z b) (sym whole) written)
