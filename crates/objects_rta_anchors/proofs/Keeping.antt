-- What is kept of paths while they become anchored.
use Rattle.std.proofs.Common.{◌≡◌, ℕ, List, Some, sym, ◌∙◌, subst, inl, inr}
use Rattle.std.specs.List.{slice_get}
use Rattle.std.proofs.lemmas.Option.{same_Some}
use Rattle.objects_rta_anchors.specs.declared.anchor.Anchor.{Anchor}
use Rattle.objects_rta_anchors.specs.declared.anchor.Anchor.TheVariants.{Issuer, Locator}
use Rattle.objects_rta_valid.specs.certs_extension.Cert.{CertValue}
use Rattle.objects_rta_valid.specs.Certs.{NamesItself}
use Rattle.objects_rta_anchors.specs.Anchors.{AreMarked}
use Rattle.objects_rta_anchors.specs.Ends.{IsKept, IsOpenAt}

-- By an authority: no path becomes anchored by a locator.
pub kept_issuer : (A : CertValue → Type 0) (number : ℕ) (certs : List CertValue) (paths : List (List ℕ)) (ends : List ℕ) (olds news : List Anchor)
    → AreMarked (IsOpenAt A certs ends olds) (Issuer number) olds news → IsKept certs paths ends olds → IsKept certs paths ends news
kept_issuer A number certs paths ends olds news m k = record {
  are_ends = k.are_ends;
  long = m.long ∙ k.long;
  own = k.own;
  rooted = λ signer end c e a at. elim (m.each signer) [
    | inl p ↦ absurd (other (sym p.1 ∙ a))
    | inr n ↦ k.rooted signer end c e (sym n.1 ∙ a) at
  ];
}
  where
    other : ◌≡◌ (Some (Issuer number)) (Some Locator) → ⊥
    other e = cc

-- By a locator: certificates that name themselves.
pub kept_locator : (A : CertValue → Type 0) (certs : List CertValue) (paths : List (List ℕ)) (ends : List ℕ) (olds news : List Anchor)
    → ((c : CertValue) → A c → NamesItself c) → AreMarked (IsOpenAt A certs ends olds) Locator olds news → IsKept certs paths ends olds → IsKept certs paths ends news
kept_locator A certs paths ends olds news named m k = record {
  are_ends = k.are_ends;
  long = m.long ∙ k.long;
  own = k.own;
  rooted = λ signer end c e a at. elim (m.each signer) [
    | inl p ↦
        let end_is : p.0.1.one ≡ end = same_Some p.0.1.one end (sym p.0.1.at ∙ e) in
        let cert_is : p.0.1.is.one ≡ c = same_Some p.0.1.is.one c (sym p.0.1.is.at ∙ subst (λ (n : ℕ). slice_get certs n ≡ Some c) (sym end_is) at) in
        k.own end c at (subst NamesItself cert_is (named p.0.1.is.one p.0.1.is.is))
    | inr n ↦ k.rooted signer end c e (sym n.1 ∙ a) at
  ];
}
