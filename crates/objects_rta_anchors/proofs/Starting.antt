-- What validation by what is carried says, for paths of which none is anchored.
use Rattle.std.proofs.Common.{◌≡◌, ℕ, zero, suc, Bool, List, [], ◌∷◌, Some, Err, length, replicate, ap, ◌∙◌, subst}
use Rattle.std.specs.List.{slice_get}
use Rattle.std.proofs.lemmas.Option.{same_Some}
use Rattle.std.proofs.Math.ListN.{length-replicate}
use Rattle.objects_rta_valid.specs.certs_basics.HandedIn.{Digests}
use Rattle.objects_rta_valid.specs.certs_basics.Lists.{Each}
use Rattle.objects_rta_valid.specs.certs_basics.Verdicts.{Verdicts}
use Rattle.objects_rta_valid.specs.certs_extension.Cert.{CertValue}
use Rattle.objects_rta_valid.specs.certs_extension.Kinds.{As, Ipv4, Ipv6}
use Rattle.objects_rta_valid.specs.certs_extension.Verified.{IsAnchorAt}
use Rattle.objects_rta_valid.specs.objects_rta.AttestationParts.{RtaValue}
use Rattle.objects_rta_valid.specs.Answered.{Validates}
use Rattle.objects_rta_valid.specs.Certs.{IsOwnAnchor}
use Rattle.objects_rta_valid.specs.Validity.{IsValid}
use Rattle.objects_rta_valid.specs.declared.errors.RtaError.{RtaError}
use Rattle.objects_rta_valid.specs.declared.errors.RtaError.TheVariants.{Memory, Test}
use Rattle.objects_rta_anchors.specs.declared.anchor.Anchor.{Anchor}
use Rattle.objects_rta_anchors.specs.declared.anchor.Anchor.TheVariants.{Locator, Open}
use Rattle.objects_rta_anchors.specs.Ends.{AreEnds, AreExplicit, IsExplicit, IsKept}

each_at : {X : Type 0} (P : X → Type 0) (xs : List X) (k : ℕ) (x : X) → Each P xs → slice_get xs k ≡ Some x → P x
each_at P [] k x all e = absurd cc
each_at P (y ∷ ys) zero x all e = subst P (same_Some y x e) all.0
each_at P (y ∷ ys) (suc k) x all e = each_at P ys k x all.1 e

anchor_explicit : (good : Verdicts) (now : ℕ) (c : CertValue) → IsAnchorAt good now c → IsExplicit c
anchor_explicit good now c a Ipv4 = a.1.1.0
anchor_explicit good now c a Ipv6 = a.1.1.1.0
anchor_explicit good now c a As = a.1.1.1.1.0

-- Certificates of a valid attestation that name themselves inherit nothing.
pub explicit_of : (d : Digests) (good : Verdicts) (strict : Bool) (now : ℕ) (r : RtaValue) → IsValid d good strict now r → AreExplicit r.signed.certs
explicit_of d good strict now r valid place c at itself = anchor_explicit good now c (each_at (IsOwnAnchor good now) r.signed.certs place c valid.1.1.1.1.1.1.0.0 at itself)

-- A refusal is the same, whatever is made of what isn't refused.
pub other_answer : (A B : Type 0) (d : Digests) (good : Verdicts) (strict : Bool) (now : ℕ) (r : RtaValue) (e : RtaError) → Validates {A = A} d good strict now r (Err e) → Validates {A = B} d good strict now r (Err e)
other_answer A B d good strict now r (Test t) f = f
other_answer A B d good strict now r Memory f = tt

none_at : (count k : ℕ) → slice_get (replicate count Open) k ≡ Some Locator → ⊥
none_at zero k e = cc
none_at (suc n) zero e = cc
none_at (suc n) (suc k) e = none_at n k e

pub kept_new : (certs : List CertValue) (paths : List (List ℕ)) (ends : List ℕ) (anchors : List Anchor) (count : ℕ) → AreEnds paths ends → count ≡ length ends → anchors ≡ replicate count Open
    → AreExplicit certs → IsKept certs paths ends anchors
kept_new certs paths ends anchors count h e f own = record {
  are_ends = h;
  long = ap (λ (xs : List Anchor). length xs) f ∙ length-replicate {A = Anchor} count Open ∙ e ∙ h.long;
  own = own;
  rooted = λ signer end c a b at. absurd (none_at count signer (subst (λ (xs : List Anchor). slice_get xs signer ≡ Some Locator) f b));
}

pub open_new : (paths : List (List ℕ)) (ends : List ℕ) (anchors : List Anchor) (count : ℕ) → AreEnds paths ends → count ≡ length ends → anchors ≡ replicate count Open
    → anchors ≡ replicate (length paths) Open
open_new paths ends anchors count h e f = f ∙ ap (λ (n : ℕ). replicate n Open) (e ∙ h.long)
