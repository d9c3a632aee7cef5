-- Lists are searched for the first under a URI.
use Rattle.std.proofs.Common.{◌≡◌, ℕ, List, [], ◌∷◌, ◌++◌, refl, sym, ap, ◌∙◌, subst, append-nil, append_assoc, length, arith}
use Rattle.certs_x509.specs.certs_extension.CrlText.{CrlValue}
use Rattle.certs_crl.specs.Store.{IsFirstUnder, NoneUnder}

-- Those that were passed over stand under other URIs.
pub record Passed (crls rest : List (List ℕ × CrlValue)) (uri : List ℕ) : Type 0 where
  pub before : List (List ℕ × CrlValue)
  pub whole : crls ≡ before ++ rest
  pub none : NoneUnder before uri

pub passed_none : (crls : List (List ℕ × CrlValue)) (uri : List ℕ) → Passed crls crls uri
passed_none crls uri = record { before = []; whole = refl; none = tt }

none_more : (xs : List (List ℕ × CrlValue)) (x : List ℕ × CrlValue) (uri : List ℕ) → NoneUnder xs uri → (x.0 ≡ uri → ⊥) → NoneUnder (xs ++ x ∷ []) uri
none_more [] x uri h differs = (differs, tt)
none_more (y ∷ ys) x uri h differs = (h.0, none_more ys x uri h.1 differs)

pub passed_more : {crls rest others : List (List ℕ × CrlValue)} {uri : List ℕ} {x : List ℕ × CrlValue} → rest ≡ x ∷ others → (x.0 ≡ uri → ⊥)
    → Passed crls rest uri → Passed crls others uri
passed_more {others = others} {uri} {x} e differs p = record {
  before = p.before ++ x ∷ [];
  whole = p.whole ∙ ap (λ (xs : List (List ℕ × CrlValue)). p.before ++ xs) e ∙ sym (append_assoc p.before (x ∷ []) others);
  none = none_more p.before x uri p.none differs;
}

pub passed_found : {crls rest others : List (List ℕ × CrlValue)} {uri : List ℕ} {x : List ℕ × CrlValue} → rest ≡ x ∷ others → x.0 ≡ uri
    → Passed crls rest uri → IsFirstUnder crls uri x.1
passed_found {others = others} {uri} {x} e same p = record {
  before = p.before;
  behind = others;
  whole = p.whole ∙ ap (λ (xs : List (List ℕ × CrlValue)). p.before ++ xs) e ∙ ap (λ (u : List ℕ). p.before ++ (u, x.1) ∷ others) same;
  first = p.none;
}

no_length : (xs : List (List ℕ × CrlValue)) → length xs ≡ 0 → xs ≡ []
no_length [] e = refl
no_length (x ∷ xs) e = absurd (omega arith)

pub passed_all : {crls rest : List (List ℕ × CrlValue)} {uri : List ℕ} → length rest ≡ 0 → Passed crls rest uri → NoneUnder crls uri
passed_all {rest = rest} {uri} e p = subst (λ (xs : List (List ℕ × CrlValue)). NoneUnder xs uri)
    (sym (p.whole ∙ ap (λ (xs : List (List ℕ × CrlValue)). p.before ++ xs) (no_length rest e) ∙ append-nil p.before)) p.none
