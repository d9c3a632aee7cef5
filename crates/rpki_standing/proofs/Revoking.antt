-- Which certificates a point doesn't revoke, and else which test fails.
use Rattle.std.proofs.Common.{◌≡◌, ℕ, List, [], ◌∷◌, Some, None, refl, sym, ap, ◌∙◌, subst}
use Rattle.std.proofs.lemmas.Cmp.{tied_itself}
use Rattle.std.proofs.lemmas.Map.Lookups.{exact_bytes}
use Rattle.std.specs.Prelude.{◌↔◌, Bool, true, IsTrue}
use Rattle.std.specs.declared.cmp.Ordering.{Ordering}
use Rattle.std.specs.declared.cmp.Ordering.TheVariants.{Less, Equal, Greater}
use Rattle.std.specs.Ordering.{nat_cmp, is_eq}
use Rattle.std.specs.Cmp.Lexicographic.{slice_cmp, nat_list_cmp_total}
use Rattle.rpki_standing.specs.certs_basics.Lists.{Each, FirstFailing}
use Rattle.rpki_standing.specs.certs_basics.Uris.{lookup_key}
use Rattle.rpki_rules.specs.Certs.{Cert, Crl, IsOn}
use Rattle.rpki_rules.specs.declared.reason.files.RevocationTest.TheVariants.{NamesList, SameList, NotRevoked}
use Rattle.rpki_rules.specs.FileReasons.{PassesRevocation, revocation_tests}
use Rattle.rpki_rules.specs.declared.reason.files.RevocationTest.{RevocationTest}
use Rattle.rpki_rules.specs.Points.{Point}
use Rattle.rpki_rules.proofs.Firsts.{not_none}
use Rattle.rpki_standing.specs.Crls.{as_read}
use Rattle.rpki_standing.proofs.Failing.{one_value}

module _ (p : Point) (c : Cert) where
  abbrev Fails : RevocationTest → Type 0
  Fails t = FirstFailing (PassesRevocation p c) revocation_tests t

  -- The certificate names no list.
  pub names_none : c.tbs.crl_uri ≡ None → Fails NamesList
  names_none h = record { front = []; behind = SameList ∷ NotRevoked ∷ []; whole = refl; passed = tt; fails = λ n. n h }

  module _ (ee : Cert) (uri : List ℕ) (e : p.object.cert ≡ ee) (h : c.tbs.crl_uri ≡ Some uri) where
    -- The manifest's certificate names none.
    pub point_names_none : ee.tbs.crl_uri ≡ None → Fails SameList
    point_names_none k = record {
      front = NamesList ∷ [];
      behind = NotRevoked ∷ [];
      whole = refl;
      passed = (not_none c.tbs.crl_uri uri h, tt);
      fails = λ all.
          let l = all uri h in
          let wrong : None ≡ Some l.point_uri = sym k ∙ ap (λ (x : Cert). x.tbs.crl_uri) (sym e) ∙ l.point_uri_is in
          absurd cc;
    }

    module _ (point_uri : List ℕ) (k : ee.tbs.crl_uri ≡ Some point_uri) where
      point_named : p.object.cert.tbs.crl_uri ≡ Some point_uri
      point_named = ap (λ (x : Cert). x.tbs.crl_uri) e ∙ k

      -- It names another.
      pub other_list : (lookup_key uri ≡ lookup_key point_uri → ⊥) → Fails SameList
      other_list n = record {
        front = NamesList ∷ [];
        behind = NotRevoked ∷ [];
        whole = refl;
        passed = (not_none c.tbs.crl_uri uri h, tt);
        fails = λ all. let l = all uri h in n (l.same ∙ ap lookup_key (one_value l.point_uri point_uri p.object.cert.tbs.crl_uri l.point_uri_is point_named));
      }

      module _ (same : lookup_key uri ≡ lookup_key point_uri) where
        same_list : PassesRevocation p c SameList
        same_list u also = record {
          point_uri = point_uri;
          point_uri_is = point_named;
          same = ap lookup_key (one_value u uri c.tbs.crl_uri also h) ∙ same;
        }

        -- Both name one, and the certificate is on it, or isn't.
        pub revoked : (crl : Crl) (serial : ℕ) → p.crl ≡ crl → serial ≡ c.tbs.serial → IsOn crl serial → Fails NotRevoked
        revoked crl serial f s on = record {
          front = NamesList ∷ SameList ∷ [];
          behind = [];
          whole = refl;
          passed = (not_none c.tbs.crl_uri uri h, (same_list, tt));
          fails = λ n. n (subst (λ (l : Crl). IsOn l c.tbs.serial) (sym f) (subst (IsOn crl) s on));
        }

        pub unrevoked : (crl : Crl) (serial : ℕ) → p.crl ≡ crl → serial ≡ c.tbs.serial → (IsOn crl serial → ⊥) → Each (PassesRevocation p c) revocation_tests
        unrevoked crl serial f s n = (
          not_none c.tbs.crl_uri uri h,
          (
            same_list,
            (λ on. n (subst (IsOn crl) (sym s) (subst (λ (l : Crl). IsOn l c.tbs.serial) f on)), tt),
          ),
        )

-- A list that keeps its serial numbers aside has the same certificates on it.
pub on_read : {b : Bool} (crl list : Crl) {serial : ℕ} → as_read list ≡ crl → (IsTrue b ↔ IsOn list serial) → IsTrue b ↔ IsOn crl serial
on_read {b} crl list {serial} e told = subst (λ (l : Crl). IsTrue b ↔ IsOn l serial) e (
  λ t. let o = told.0 t in record { entry = o.entry; listed = o.listed; same = o.same },
  λ o. told.1 (record { entry = o.entry; listed = o.listed; same = o.same }),
)

equal_is : (o : Ordering) → is_eq o ≡ true → o ≡ Equal
equal_is Less e = absurd cc
equal_is Equal e = refl
equal_is Greater e = absurd cc

-- What the order of two rows says of rows that are equal to them.
pub alike_told : (answer : Bool) (o : Ordering) (a b x y : List ℕ) → answer ≡ is_eq o → o ≡ slice_cmp nat_cmp a b → a ≡ x → b ≡ y → IsTrue answer ↔ (x ≡ y)
alike_told answer o a b x y is compared p q = (
  λ t. sym p ∙ exact_bytes a b (sym compared ∙ equal_is o (sym is ∙ t)) ∙ q,
  λ e. is ∙ ap is_eq (compared ∙ ap (slice_cmp nat_cmp a) (q ∙ sym e ∙ sym p) ∙ tied_itself nat_list_cmp_total a),
)
