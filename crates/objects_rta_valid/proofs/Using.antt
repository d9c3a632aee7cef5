-- Keys of the upper certificates of neighbours, and lists that are of these.
use Rattle.std.proofs.Common.{◌≡◌, ℕ, Bool, Bor, List, [], ◌∷◌, ◌++◌, Option, Some, None, length, map, inl, inr, refl, sym, ap, subst, ◌∙◌, append_assoc, arith}
use Rattle.std.specs.Prelude.{◌↔◌, IfNone, IfSome, IsTrue, MatchOption}
use Rattle.std.specs.List.{slice_get}
use Rattle.std.proofs.lemmas.List.{append-nil}
use Rattle.certs_verify.specs.certs_basics.Lists.{Each, Mem}
use Rattle.certs_verify.specs.certs_extension.Cert.{CertValue}
use Rattle.certs_verify.specs.certs_extension.CrlText.{CrlValue}
use Rattle.objects_rta_valid.specs.Nodes.{each_octets}
use Rattle.objects_rta_valid.specs.Certs.{IsUsed}
use Rattle.objects_rta_valid.specs.Keyed.{HasPlace, IsKeyed, KeyAt}
use Rattle.objects_rta_valid.specs.Vouched.{authority_of, key_list, subject_of, upper_key, upper_keys}
use Rattle.objects_rta_valid.specs.declared.keyed.KeyPlaces.{KeyPlaces}
use Rattle.objects_rta_valid.proofs.Sought.{key_here, place_told, some_here, told_place}
use Rattle.objects_rta_valid.proofs.Steps.{each_by, each_of, mem_left, mem_right, mem_split}
use Rattle.objects_rta_valid.proofs.Vouching.{at_mem, mem_at}

-- Keys that are gathered pair by pair.
pub upper_step : (certs : List CertValue) (rest others : List (ℕ × ℕ)) (q : ℕ × ℕ) (done whole : List (List ℕ)) → rest ≡ q ∷ others → done ++ upper_keys certs rest ≡ whole
    → (done ++ upper_key certs q.1) ++ upper_keys certs others ≡ whole
upper_step certs rest others q done whole e h =
    append_assoc done (upper_key certs q.1) (upper_keys certs others) ∙ subst (λ (xs : List (ℕ × ℕ)). done ++ upper_keys certs xs ≡ whole) e h

pub upper_end : (certs : List CertValue) (rest : List (ℕ × ℕ)) (done whole : List (List ℕ)) → length rest ≡ 0 → done ++ upper_keys certs rest ≡ whole → done ≡ whole
upper_end certs [] done whole e h = sym (append-nil done) ∙ h
upper_end certs (q ∷ qs) done whole e h = absurd (omega arith)

-- A key that is lent is that of its list.
pub lent_keyed : (slice lent : List (Bor (List ℕ))) (ids owned keys : List (List ℕ)) (table : KeyPlaces) → slice ≡ lent → each_octets lent ≡ ids → ids ≡ owned → owned ≡ keys
    → IsKeyed (each_octets slice) table → IsKeyed keys table
lent_keyed slice lent ids owned keys table e f g h k =
    subst (λ (ks : List (List ℕ)). IsKeyed ks table) (ap (λ (xs : List (Bor (List ℕ))). each_octets xs) e ∙ f ∙ g ∙ h) k

key_of_list : (o : Option CertValue) (key : List ℕ) → Mem (key_list o) key → (c : CertValue) × (o ≡ Some c) × (key ≡ subject_of c)
key_of_list None key m = absurd m
key_of_list (Some c) key (inl e) = (c, refl, sym e)
key_of_list (Some c) key (inr none) = absurd none

list_of_key : (o : Option CertValue) (c : CertValue) (key : List ℕ) → o ≡ Some c → key ≡ subject_of c → Mem (key_list o) key
list_of_key o c key e f = subst (λ (p : Option CertValue). Mem (key_list p) key) (sym e) (inl (sym f))

-- The key is one of an upper certificate of the pairs.
pub record IsUpper (certs : List CertValue) (ps : List (ℕ × ℕ)) (key : List ℕ) : Type 0 where
  pub lower : ℕ
  pub upper : ℕ
  pub neighbours : Mem ps (lower, upper)
  pub cert : CertValue
  pub at : slice_get certs upper ≡ Some cert
  pub is : key ≡ subject_of cert

upper_of : (certs : List CertValue) (ps : List (ℕ × ℕ)) (key : List ℕ) → Mem (upper_keys certs ps) key → IsUpper certs ps key
upper_of certs [] key m = absurd m
upper_of certs (q ∷ qs) key m = elim (mem_split (upper_key certs q.1) (upper_keys certs qs) key m) [
  | inl here ↦ (let k = key_of_list (slice_get certs q.1) key here in record { lower = q.0; upper = q.1; neighbours = inl refl; cert = k.0; at = k.1; is = k.2 })
  | inr there ↦ (let u = upper_of certs qs key there in record { lower = u.lower; upper = u.upper; neighbours = inr u.neighbours; cert = u.cert; at = u.at; is = u.is })
]

of_upper : (certs : List CertValue) (ps : List (ℕ × ℕ)) (key : List ℕ) (a b : ℕ) (c : CertValue) → slice_get certs b ≡ Some c → key ≡ subject_of c → Mem ps (a, b) → Mem (upper_keys certs ps) key
of_upper certs [] key a b c at is m = absurd m
of_upper certs (q ∷ qs) key a b c at is (inl e) =
    mem_left (upper_key certs q.1) (upper_keys certs qs) key (list_of_key (slice_get certs q.1) c key (ap (λ (x : ℕ × ℕ). slice_get certs x.1) e ∙ at) is)
of_upper certs (q ∷ qs) key a b c at is (inr m) = mem_right (upper_key certs q.1) (upper_keys certs qs) key (of_upper certs qs key a b c at is m)

module _ (certs : List CertValue) (ps : List (ℕ × ℕ)) (crls : List CrlValue) (table : KeyPlaces) (keyed : IsKeyed (upper_keys certs ps) table) where
  used_of : (crl : CrlValue) → HasPlace table (authority_of crl) → IsUsed certs ps crl
  used_of crl h =
      let m = at_mem (upper_keys certs ps) h.0 (authority_of crl) (place_told (upper_keys certs ps) (authority_of crl) table h.0 keyed h.1) in
      let u = upper_of certs ps (authority_of crl) m in
      record { lower = u.lower; upper = u.upper; neighbours = u.neighbours; of_issuer = record { one = u.cert; at = u.at; is = u.is } }

  of_used : (crl : CrlValue) → IsUsed certs ps crl → HasPlace table (authority_of crl)
  of_used crl u =
      let m = of_upper certs ps (authority_of crl) u.lower u.upper u.of_issuer.one u.of_issuer.at u.of_issuer.is u.neighbours in
      let k = mem_at (upper_keys certs ps) (authority_of crl) m in
      told_place (upper_keys certs ps) (authority_of crl) table k.0 keyed k.1

  pub used_told : (b : Bool) → (IsTrue b ↔ Each (λ (crl : CrlValue). HasPlace table (authority_of crl)) crls) → (IsTrue b ↔ Each (IsUsed certs ps) crls)
  used_told b h = (
    (λ t. each_by (IsUsed certs ps) crls (λ crl m. used_of crl (each_of (λ (x : CrlValue). HasPlace table (authority_of x)) crls crl (h.0 t) m))),
    (λ u. h.1 (each_by (λ (x : CrlValue). HasPlace table (authority_of x)) crls (λ crl m. of_used crl (each_of (IsUsed certs ps) crls crl u m)))),
  )

-- The certificate whose list it is.
pub found_there : (certs : List CertValue) (place : ℕ) (o : Option (Bor CertValue)) → MatchOption o (slice_get certs place ≡ None) (λ c. slice_get certs place ≡ Some c.now) → IfSome o (λ p. Mem certs p.now)
found_there certs place None h = tt
found_there certs place (Some b) h = at_mem certs place b.now h

pub found_issuer : (certs : List CertValue) (place : ℕ) (key : List ℕ) (o : Option (Bor CertValue)) → KeyAt (map subject_of certs) key place
    → MatchOption o (slice_get certs place ≡ None) (λ c. slice_get certs place ≡ Some c.now) → IfSome o (λ p. key ≡ p.now.tbs.subject_key_identifier)
found_issuer certs place key None here h = tt
found_issuer certs place key (Some b) here h = sym (key_here subject_of certs place b.now key here h)

pub found_none : (certs : List CertValue) (place : ℕ) (key : List ℕ) (o : Option (Bor CertValue)) (X : Type 0) → KeyAt (map subject_of certs) key place
    → MatchOption o (slice_get certs place ≡ None) (λ c. slice_get certs place ≡ Some c.now) → IfNone o X
found_none certs place key None X here h = absurd (none_some (slice_get certs place) (some_here subject_of certs place key here).0 h (some_here subject_of certs place key here).1)
  where
    none_some : (o : Option CertValue) (c : CertValue) → o ≡ None → o ≡ Some c → ⊥
    none_some o c e f = cc
found_none certs place key (Some b) X here h = tt
