-- What is asked of signatures and lists, certificate by certificate, is what is asked of neighbours on paths.
use Rattle.std.proofs.Common.{◌≡◌, ℕ, ◌<◌, zero, suc, Bool, List, [], ◌∷◌, Option, Some, None, length, map, refl, sym, ap, ◌∙◌, subst, arith}
use Rattle.std.specs.Prelude.{◌↔◌, IsTrue}
use Rattle.std.specs.List.{AllZip, slice_get}
use Rattle.std.specs.Option.{option_map}
use Rattle.std.proofs.lemmas.Option.{same_Some, slice_get-map, slice_get_within}
use Rattle.std.proofs.lemmas.List.{length-map}
use Rattle.certs_verify.specs.certs_basics.Lists.{Each, Mem}
use Rattle.certs_verify.specs.certs_basics.Verdicts.{Verdicts}
use Rattle.certs_verify.specs.certs_extension.Cert.{CertValue}
use Rattle.certs_verify.specs.certs_extension.CrlText.{CrlValue, IsOn}
use Rattle.certs_verify.specs.certs_extension.Verified.{IsSignedAt}
use Rattle.objects_rta_valid.specs.Nodes.{Node, IsSelfSigned}
use Rattle.objects_rta_valid.specs.Apart.{AreApart, AreOnly}
use Rattle.objects_rta_valid.specs.Places.{AreLinks, BeginBelow, Stands, pairs}
use Rattle.objects_rta_valid.specs.Certs.{ArePairSigned, IsGoodList, IsOwnAnchor, IsPairUnrevoked, IsUnrevoked, NamesItself, node_of}
use Rattle.objects_rta_valid.specs.Vouched.{AreGoodOf, Has, IsVouched, Serves, authority_of, kept_aside}
use Rattle.objects_rta_valid.proofs.Steps.{each_by, each_of, zip_at, zip_by}
use Rattle.objects_rta_valid.proofs.Vouching.{at_mem, mem_at, one_of_key}
use Rattle.objects_rta_valid.proofs.Walks.{pair_linked, pairs_begin}

-- A certificate stands where its node does.
pub record Noded (certs : List CertValue) (k : ℕ) (n : Node) : Type 0 where
  pub cert : CertValue
  pub at : slice_get certs k ≡ Some cert
  pub is : node_of cert ≡ n

noded_from : (o : Option CertValue) (certs : List CertValue) (k : ℕ) (n : Node) → slice_get certs k ≡ o → option_map node_of o ≡ Some n → Noded certs k n
noded_from None certs k n e f = absurd cc
noded_from (Some c) certs k n e f = record { cert = c; at = e; is = same_Some (node_of c) n f }

pub noded : (certs : List CertValue) (k : ℕ) (n : Node) → slice_get (map node_of certs) k ≡ Some n → Noded certs k n
noded certs k n e = noded_from (slice_get certs k) certs k n refl (sym (slice_get-map node_of certs k) ∙ e)

-- What begins and what follows, by the count of certificates.
pub begin_certs : (certs : List CertValue) (sids paths : List (List ℕ)) (count : ℕ) → count ≡ length certs → AreOnly (map node_of certs) sids paths → BeginBelow count (pairs paths)
begin_certs certs sids paths count e only = subst (λ (n : ℕ). BeginBelow n (pairs paths)) (length-map certs node_of ∙ sym e) (pairs_begin (map node_of certs) sids paths only)

some_at : {X : Type 0} (xs : List X) (k : ℕ) → k < length xs → (x : X) × (slice_get xs k ≡ Some x)
some_at [] k lt = absurd (omega arith)
some_at (x ∷ xs) zero lt = (x, refl)
some_at (x ∷ xs) (suc k) lt = some_at xs k (omega arith)

module _ (good : Verdicts) (now : ℕ) (certs : List CertValue) (sids paths : List (List ℕ)) (links : List (Option ℕ)) (count : ℕ)
    (only : AreOnly (map node_of certs) sids paths) (long : count ≡ length certs) (behind : AreLinks (pairs paths) count links) where
  own_of : AllZip (IsVouched good now certs) certs links → (c : CertValue) → Mem certs c → IsOwnAnchor good now c
  own_of all c m =
      let k = mem_at certs c m in
      let l = some_at links k.0 (omega (arith, behind.long, slice_get_within certs k.0 c k.1)) in
      (zip_at (IsVouched good now certs) certs links k.0 c l.0 all k.1 l.1).0

  pair_of : AllZip (IsVouched good now certs) certs links → (q : ℕ × ℕ) → Mem (pairs paths) q → ArePairSigned good now certs q
  pair_of all q m =
      let l = pair_linked (map node_of certs) sids paths q.0 q.1 only m in
      let n = noded certs q.0 l.lower l.at in
      let other : NamesItself n.cert → ⊥ = λ s. l.open_end (subst IsSelfSigned n.is s) in
      record { one = n.cert; at = n.at; is = (zip_at (IsVouched good now certs) certs links q.0 n.cert (Some q.1) all n.at ((behind.same q.0 q.1).1 m)).1 other q.1 refl }

  vouched_of : ((c : CertValue) → Mem certs c → IsOwnAnchor good now c) → ((q : ℕ × ℕ) → Mem (pairs paths) q → ArePairSigned good now certs q)
      → (k : ℕ) (c : CertValue) (link : Option ℕ) → slice_get certs k ≡ Some c → slice_get links k ≡ Some link → IsVouched good now certs c link
  vouched_of own signed k c link at f = (
    (λ s. own c (at_mem certs k c at) s),
    (λ other next e.
        let s = signed (k, next) ((behind.same k next).0 (f ∙ ap (λ (o : Option ℕ). Some o) e)) in
        subst (λ (x : CertValue). Stands certs next (λ p. IsSignedAt good now p x)) (same_Some s.one c (sym s.at ∙ at)) s.is),
  )

  pub vouched_told : (r : Bool) → (IsTrue r ↔ AllZip (IsVouched good now certs) certs links)
      → (IsTrue r ↔ (Each (IsOwnAnchor good now) certs × Each (ArePairSigned good now certs) (pairs paths)))
  vouched_told r h = (
    (λ t. let all = h.0 t in (each_by (IsOwnAnchor good now) certs (own_of all), each_by (ArePairSigned good now certs) (pairs paths) (pair_of all))),
    (λ s. h.1 (zip_by (IsVouched good now certs) certs links (omega (arith, behind.long))
        (vouched_of (λ c m. each_of (IsOwnAnchor good now) certs c s.0 m) (λ q m. each_of (ArePairSigned good now certs) (pairs paths) q s.1 m)))),
  )

-- A serial number that is kept aside is on the list, and the other way round.
on_aside : (crl : CrlValue) (serial : ℕ) → IsOn crl serial → IsOn (kept_aside crl) serial
on_aside crl serial on = record { entry = on.entry; listed = on.listed; same = on.same }

aside_on : (crl : CrlValue) (serial : ℕ) → IsOn (kept_aside crl) serial → IsOn crl serial
aside_on crl serial on = record { entry = on.entry; listed = on.listed; same = on.same }

module _ (good : Verdicts) (now : ℕ) (certs : List CertValue) (crls lists : List CrlValue) (apart : AreApart (map node_of certs)) (of : AreGoodOf good now certs crls lists) where
  served : (c p : CertValue) → Mem certs p → Has (Serves p c) lists → IsUnrevoked good now crls p c
  served c p m h =
      let g = of.good_ones h.one h.among in
      let by = g.is.1 in
      let same : by.one ≡ p = one_of_key certs by.one p apart by.among m (sym by.is.of_issuer ∙ sym (ap authority_of g.is.0) ∙ h.is.0) in
      record {
        crl = g.one;
        carried = g.among;
        good_list = subst (λ (x : CertValue). IsGoodList good now x g.one) same by.is;
        unlisted = λ on. h.is.1 (subst (λ (x : CrlValue). IsOn x c.tbs.serial) (sym g.is.0) (on_aside g.one c.tbs.serial on));
      }

  serving : (c p : CertValue) → Mem certs p → IsUnrevoked good now crls p c → Has (Serves p c) lists
  serving c p m u = record {
    one = kept_aside u.crl;
    among = of.all u.crl u.carried (record { one = p; among = m; is = u.good_list });
    is = (u.good_list.of_issuer, λ on. u.unlisted (aside_on u.crl c.tbs.serial on));
  }

  abbrev IsServed : ℕ × ℕ → Type 0
  IsServed q = Stands certs q.0 (λ c. Stands certs q.1 (λ p. Has (Serves p c) lists))

  pair_served : (q : ℕ × ℕ) → IsServed q → IsPairUnrevoked good now certs crls q
  pair_served q s = record { one = s.one; at = s.at; is = record { one = s.is.one; at = s.is.at; is = served s.one s.is.one (at_mem certs q.1 s.is.one s.is.at) s.is.is } }

  pair_serving : (q : ℕ × ℕ) → IsPairUnrevoked good now certs crls q → IsServed q
  pair_serving q s = record { one = s.one; at = s.at; is = record { one = s.is.one; at = s.is.at; is = serving s.one s.is.one (at_mem certs q.1 s.is.one s.is.at) s.is.is } }

  each_served : (qs : List (ℕ × ℕ)) → Each IsServed qs → Each (IsPairUnrevoked good now certs crls) qs
  each_served [] all = tt
  each_served (q ∷ qs) all = (pair_served q all.0, each_served qs all.1)

  each_serving : (qs : List (ℕ × ℕ)) → Each (IsPairUnrevoked good now certs crls) qs → Each IsServed qs
  each_serving [] all = tt
  each_serving (q ∷ qs) all = (pair_serving q all.0, each_serving qs all.1)

  pub unrevoked_told : (r : Bool) (qs : List (ℕ × ℕ)) → (IsTrue r ↔ Each (λ (q : ℕ × ℕ). Stands certs q.0 (λ c. Stands certs q.1 (λ p. Has (Serves p c) lists))) qs)
      → (IsTrue r ↔ Each (IsPairUnrevoked good now certs crls) qs)
  unrevoked_told r qs h = ((λ t. each_served qs (h.0 t)), (λ u. h.1 (each_serving qs u)))
