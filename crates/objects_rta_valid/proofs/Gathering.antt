-- The good lists among those that are carried, gathered one by one.
use Rattle.std.proofs.Common.{◌≡◌, ℕ, List, [], ◌∷◌, ◌++◌, length, refl, sym, ap, subst, inl, inr, arith}
use Rattle.std.specs.Prelude.{◌⊎◌}
use Rattle.certs_verify.specs.certs_basics.Lists.{Mem}
use Rattle.certs_verify.specs.certs_basics.Verdicts.{Verdicts}
use Rattle.certs_verify.specs.certs_extension.Cert.{CertValue}
use Rattle.certs_verify.specs.certs_extension.CrlText.{CrlValue}
use Rattle.objects_rta_valid.specs.Vouched.{AreGoodOf, IsGoodCarried, IsGoodCopy, IsKept, kept_aside}
use Rattle.objects_rta_valid.proofs.Steps.{mem_left, mem_right, mem_split}

-- So far: the lists are good ones of those carried, and each good one is among them, or is still to come.
pub record SoFar (good : Verdicts) (now : ℕ) (certs : List CertValue) (crls rest lists : List CrlValue) : Type 0 where
  pub good_ones : (copy : CrlValue) → Mem lists copy → IsGoodCopy good now certs crls copy
  pub all : (crl : CrlValue) → Mem crls crl → IsGoodCarried good now certs crl → Mem lists (kept_aside crl) ⊎ Mem rest crl
  pub carried : (crl : CrlValue) → Mem rest crl → Mem crls crl

pub so_none : (good : Verdicts) (now : ℕ) (certs : List CertValue) (crls : List CrlValue) → SoFar good now certs crls crls []
so_none good now certs crls = record { good_ones = λ crl m. absurd m; all = λ crl m g. inr m; carried = λ crl m. m }

rest_of : (rest others : List CrlValue) (x crl : CrlValue) → rest ≡ x ∷ others → Mem rest crl → (x ≡ crl) ⊎ Mem others crl
rest_of rest others x crl e m = subst (λ (xs : List CrlValue). Mem xs crl) e m

pub so_kept : (good : Verdicts) (now : ℕ) (certs : List CertValue) (crls rest others lists : List CrlValue) (x : CrlValue) → rest ≡ x ∷ others → IsGoodCarried good now certs x
    → SoFar good now certs crls rest lists → SoFar good now certs crls others (lists ++ kept_aside x ∷ [])
so_kept good now certs crls rest others lists x e g s = record {
  good_ones = λ copy m. elim (mem_split lists (kept_aside x ∷ []) copy m) [
    | inl a ↦ s.good_ones copy a
    | inr b ↦ elim b [
      | inl f ↦ record { one = x; among = s.carried x (subst (λ (xs : List CrlValue). Mem xs x) (sym e) (inl refl)); is = (sym f, g) }
      | inr none ↦ absurd none
    ]
  ];
  all = λ crl m h. elim (s.all crl m h) [
    | inl a ↦ inl (mem_left lists (kept_aside x ∷ []) (kept_aside crl) a)
    | inr r ↦ elim (rest_of rest others x crl e r) [ inl f ↦ inl (mem_right lists (kept_aside x ∷ []) (kept_aside crl) (inl (ap kept_aside f))) | inr o ↦ inr o ]
  ];
  carried = λ crl m. s.carried crl (subst (λ (xs : List CrlValue). Mem xs crl) (sym e) (inr m));
}

pub so_skipped : (good : Verdicts) (now : ℕ) (certs : List CertValue) (crls rest others lists : List CrlValue) (x : CrlValue) → rest ≡ x ∷ others → (IsGoodCarried good now certs x → ⊥)
    → SoFar good now certs crls rest lists → SoFar good now certs crls others lists
so_skipped good now certs crls rest others lists x e bad s = record {
  good_ones = s.good_ones;
  all = λ crl m h. elim (s.all crl m h) [
    | inl a ↦ inl a
    | inr r ↦ elim (rest_of rest others x crl e r) [ inl f ↦ absurd (bad (subst (IsGoodCarried good now certs) (sym f) h)) | inr o ↦ inr o ]
  ];
  carried = λ crl m. s.carried crl (subst (λ (xs : List CrlValue). Mem xs crl) (sym e) (inr m));
}

pub so_all : (good : Verdicts) (now : ℕ) (certs : List CertValue) (crls rest lists : List CrlValue) → length rest ≡ 0 → SoFar good now certs crls rest lists → AreGoodOf good now certs crls lists
so_all good now certs crls [] lists e s = record { good_ones = s.good_ones; all = λ crl m g. elim (s.all crl m g) [ inl a ↦ a | inr r ↦ absurd r ] }
so_all good now certs crls (x ∷ rest) lists e s = absurd (omega arith)

pub so_next : (good : Verdicts) (now : ℕ) (certs : List CertValue) (crls rest others lists more : List CrlValue) (x : CrlValue) → rest ≡ x ∷ others
    → IsKept (IsGoodCarried good now certs x) (kept_aside x) lists more → SoFar good now certs crls rest lists → SoFar good now certs crls others more
so_next good now certs crls rest others lists more x e (inl k) s = subst (SoFar good now certs crls others) (sym k.1) (so_kept good now certs crls rest others lists x e k.0 s)
so_next good now certs crls rest others lists more x e (inr k) s = subst (SoFar good now certs crls others) (sym k.1) (so_skipped good now certs crls rest others lists x e k.0 s)
