-- What vouches for a certificate, in the code's cases.
use Rattle.std.proofs.Common.{◌≡◌, ℕ, zero, suc, Bool, true, List, [], ◌∷◌, Option, Some, None, map, refl, sym, ap, ◌∙◌, subst, inl, inr}
use Rattle.std.specs.Prelude.{◌↔◌, IsTrue}
use Rattle.std.specs.List.{slice_get}
use Rattle.std.specs.Option.{option_map}
use Rattle.std.proofs.lemmas.Option.{same_Some, slice_get-map}
use Rattle.certs_verify.specs.certs_basics.Lists.{Mem}
use Rattle.certs_verify.specs.certs_basics.HandedIn.{Digests}
use Rattle.certs_verify.specs.certs_basics.Verdicts.{Verdicts}
use Rattle.certs_verify.specs.certs_extension.Cert.{CertValue}
use Rattle.certs_verify.specs.certs_extension.CrlText.{CrlValue, IsStale}
use Rattle.certs_verify.specs.certs_extension.Profiles.{Profile}
use Rattle.certs_verify.specs.certs_extension.Verified.{IsAnchorAt, IsSignedAt, IsSignedBy}
use Rattle.certs_verify.specs.certs_extension.declared.forms.Role.TheVariants.{Ca, Ta}
use Rattle.objects_rta_valid.specs.Apart.{AreApart}
use Rattle.objects_rta_valid.specs.Places.{Stands}
use Rattle.objects_rta_valid.specs.Certs.{HasIssuerForm, IsGoodList, NamesItself, node_of}
use Rattle.objects_rta_valid.specs.Vouched.{IsGoodCarried, IsVouched}

pub form_itself : (d : Digests) (strict : Bool) (c : CertValue) (r : Bool) → NamesItself c → (IsTrue r ↔ Profile d strict Ta c) → (IsTrue r ↔ HasIssuerForm d strict c)
form_itself d strict c r self h = ((λ t. inl (self, h.0 t)), (λ f. elim f [ inl x ↦ h.1 x.1 | inr y ↦ absurd (y.0 self) ]))

pub form_other : (d : Digests) (strict : Bool) (c : CertValue) (r : Bool) → (NamesItself c → ⊥) → (IsTrue r ↔ Profile d strict Ca c) → (IsTrue r ↔ HasIssuerForm d strict c)
form_other d strict c r other h = ((λ t. inr (other, h.0 t)), (λ f. elim f [ inl x ↦ absurd (other x.0) | inr y ↦ h.1 y.1 ]))

pub vouched_self : (good : Verdicts) (now : ℕ) (certs : List CertValue) (c : CertValue) (link : Option ℕ) (r : Bool)
    → NamesItself c → (IsTrue r ↔ IsAnchorAt good now c) → (IsTrue r ↔ IsVouched good now certs c link)
vouched_self good now certs c link r self h = ((λ t. ((λ s. h.0 t), (λ other. absurd (other self)))), (λ v. h.1 (v.0 self)))

pub vouched_next : (good : Verdicts) (now : ℕ) (certs : List CertValue) (c : CertValue) (link : Option ℕ) (next : ℕ) (r : Bool)
    → (NamesItself c → ⊥) → link ≡ Some next → (IsTrue r ↔ Stands certs next (λ p. IsSignedAt good now p c)) → (IsTrue r ↔ IsVouched good now certs c link)
vouched_next good now certs c link next r other e h = (
  (λ t. ((λ s. absurd (other s)), (λ n k f. subst (λ (m : ℕ). Stands certs m (λ p. IsSignedAt good now p c)) (same_Some next k (sym e ∙ f)) (h.0 t)))),
  (λ v. h.1 (v.1 other next e)),
)

none_some : (o : Option ℕ) (k : ℕ) → o ≡ None → o ≡ Some k → ⊥
none_some o k e f = cc

pub vouched_end : (good : Verdicts) (now : ℕ) (certs : List CertValue) (c : CertValue) (link : Option ℕ)
    → (NamesItself c → ⊥) → link ≡ None → (IsTrue true ↔ IsVouched good now certs c link)
vouched_end good now certs c link other e = ((λ t. ((λ s. absurd (other s)), (λ n k f. absurd (none_some link k e f)))), (λ v. refl))

-- A certificate that is carried stands at a place.
pub mem_at : {X : Type 0} (xs : List X) (x : X) → Mem xs x → (k : ℕ) × (slice_get xs k ≡ Some x)
mem_at [] x m = absurd m
mem_at {X} (y ∷ ys) x (inl e) = (zero, ap (λ (z : X). Some z) e)
mem_at (y ∷ ys) x (inr m) = let k = mem_at ys x m in (suc k.0, k.1)

pub at_mem : {X : Type 0} (xs : List X) (k : ℕ) (x : X) → slice_get xs k ≡ Some x → Mem xs x
at_mem [] k x e = absurd cc
at_mem (y ∷ ys) zero x e = inl (same_Some y x e)
at_mem (y ∷ ys) (suc k) x e = inr (at_mem ys k x e)

node_at : (certs : List CertValue) (k : ℕ) (c : CertValue) → slice_get certs k ≡ Some c → slice_get (map node_of certs) k ≡ Some (node_of c)
node_at certs k c e = slice_get-map node_of certs k ∙ ap (λ (o : Option CertValue). option_map node_of o) e

-- Certificates that are apart are one where their keys have one identifier.
pub one_of_key : (certs : List CertValue) (c p : CertValue) → AreApart (map node_of certs) → Mem certs c → Mem certs p → c.tbs.subject_key_identifier ≡ p.tbs.subject_key_identifier → c ≡ p
one_of_key certs c p apart m n e =
    let a = mem_at certs c m in let b = mem_at certs p n in
    let same : a.0 ≡ b.0 = apart a.0 b.0 (node_of c) (node_of p) (node_at certs a.0 c a.1) (node_at certs b.0 p b.1) e in
    same_Some c p (sym a.1 ∙ ap (λ (k : ℕ). slice_get certs k) same ∙ b.1)

pub good_list_told : (good : Verdicts) (now : ℕ) (p : CertValue) (crl : CrlValue) (r : Bool) → crl.tbs.authority_key_identifier ≡ p.tbs.subject_key_identifier → (IsStale crl now → ⊥)
    → (IsTrue r ↔ IsSignedBy good p.tbs.key crl.signed) → (IsTrue r ↔ IsGoodList good now p crl)
good_list_told good now p crl r of_issuer current h = ((λ t. record { of_issuer = of_issuer; signed = h.0 t; current = current }), (λ g. h.1 g.signed))

pub carried_told : (good : Verdicts) (now : ℕ) (certs : List CertValue) (p : CertValue) (crl : CrlValue) (r : Bool) → AreApart (map node_of certs) → Mem certs p
    → crl.tbs.authority_key_identifier ≡ p.tbs.subject_key_identifier → (IsTrue r ↔ IsGoodList good now p crl) → (IsTrue r ↔ IsGoodCarried good now certs crl)
carried_told good now certs p crl r apart m e h = (
  (λ t. record { one = p; among = m; is = h.0 t }),
  (λ g. h.1 (subst (λ (x : CertValue). IsGoodList good now x crl) (one_of_key certs g.one p apart g.among m (sym g.is.of_issuer ∙ e)) g.is)),
)
