-- Extensions, one by one and all together.
use Rattle.std.proofs.Common.{◌≡◌, ◌≢◌, ◌⊎◌, inl, inr, ℕ, Bool, true, false, List, [], ◌∷◌, ◌++◌, Option, Some, None, refl, sym, ap, ◌∙◌, subst, append-nil, bytes_eq, if◌then◌else◌}
use Rattle.std.proofs.lemmas.Slice.Eq.{bytes_eq-Decides}
use Rattle.certs_extension.specs.bcder_tree.Tree.{Tree}
use Rattle.certs_extension.specs.bcder_content.Texts.{ReadsFront}
use Rattle.certs_extension.specs.certs_basics.Lists.{Mem}
use Rattle.certs_extension.specs.resources_chain.declared.claims.Overclaim.{Overclaim}
use Rattle.certs_extension.specs.resources_chain.declared.claims.Overclaim.TheVariants.{Refuse, Trim}
use Rattle.certs_extension.specs.declared.error.ExtensionError.{ExtensionError}
use Rattle.certs_extension.specs.declared.error.ExtensionError.TheVariants.{Duplicate, Criticality, UnknownCritical, BadValue, MissingResources, MissingPolicy, WrongIpResources, WrongAsResources, MissingSubjectKeyIdentifier, MissingKeyUsage, Memory}
use Rattle.certs_extension.specs.CertText.{known, other}
use Rattle.certs_extension.specs.Extensions.{Extension, IsOptional, May, Need, of_kind}
use Rattle.certs_extension.specs.ExtensionKinds.{IsNamed}
use Rattle.certs_extension.specs.Filling.{CannotFill, Fills, Sets, SetsUnder, Under, is_of}
use Rattle.certs_extension.specs.Slots.{IsVersioned}

of_kind_append : (k : List ℕ) (xs ys : List Extension) → of_kind k (xs ++ ys) ≡ of_kind k xs ++ of_kind k ys
of_kind_append k [] ys = refl
of_kind_append k (x ∷ xs) ys = at x (of_kind k (xs ++ ys)) (of_kind k xs) (of_kind k ys) (of_kind_append k xs ys) (bytes_eq x.kind k)
  where
    at : (x : Extension) (both front behind : List Extension) → both ≡ front ++ behind → (b : Bool) → (if b then x ∷ both else both) ≡ (if b then x ∷ front else front) ++ behind
    at x both front behind e true = ap (λ zs. x ∷ zs) e
    at x both front behind e false = e

first_of : (k : List ℕ) (e : Extension) (ys : List Extension) → e.kind ≡ k → of_kind k (e ∷ ys) ≡ e ∷ of_kind k ys
first_of k e ys same = at (bytes_eq e.kind k) ((bytes_eq-Decides e.kind k).1 same)
  where
    at : (b : Bool) → b ≡ true → (if b then e ∷ of_kind k ys else of_kind k ys) ≡ e ∷ of_kind k ys
    at true t = refl
    at false t = absurd cc

first_not : (k : List ℕ) (e : Extension) (ys : List Extension) → (e.kind ≡ k → ⊥) → of_kind k (e ∷ ys) ≡ of_kind k ys
first_not k e ys differs = at (bytes_eq e.kind k) (λ t. differs ((bytes_eq-Decides e.kind k).0 t))
  where
    at : (b : Bool) → (b ≡ true → ⊥) → (if b then e ∷ of_kind k ys else of_kind k ys) ≡ of_kind k ys
    at true t = absurd (t refl)
    at false t = refl

-- An extension of that kind stands among those of the kind, where it stands.
pub among : (k : List ℕ) (e : Extension) (xs ys : List Extension) → e.kind ≡ k → of_kind k (xs ++ (e ∷ ys)) ≡ of_kind k xs ++ (e ∷ of_kind k ys)
among k e xs ys same = of_kind_append k xs (e ∷ ys) ∙ ap (λ (zs : List Extension). of_kind k xs ++ zs) (first_of k e ys same)

-- One of another kind doesn't.
pub apart : (k : List ℕ) (e : Extension) (xs : List Extension) → (e.kind ≡ k → ⊥) → of_kind k (xs ++ (e ∷ [])) ≡ of_kind k xs
apart k e xs differs = of_kind_append k xs (e ∷ []) ∙ ap (λ (zs : List Extension). of_kind k xs ++ zs) (first_not k e [] differs) ∙ append-nil (of_kind k xs)

not_none : (xs ys : List Extension) (e : Extension) → xs ++ (e ∷ ys) ≡ [] → ⊥
not_none [] ys e h = absurd cc
not_none (x ∷ xs) ys e h = absurd cc

front_none : (xs ys : List Extension) → xs ++ ys ≡ [] → xs ≡ []
front_none [] ys h = refl
front_none (x ∷ xs) ys h = absurd cc

-- What the identifier of a kind decides.
decides : (named : Option (List ℕ)) (octets k : List ℕ) → IsNamed named octets → Mem known k → (is_of named k ≡ true → octets ≡ k) × (is_of named k ≡ false → octets ≡ k → ⊥)
decides (Some a) octets k n m = (λ t. n ∙ (bytes_eq-Decides a k).0 t, λ f same. let t = (bytes_eq-Decides a k).1 (sym n ∙ same) in let c : true ≡ false = sym t ∙ f in absurd cc)
decides None octets k n m = (λ t. absurd cc, λ f same. n (subst (Mem known) (sym same) m))

module _ {A : Type 0} (need : Need) (Q : Tree → A → Type 0) (e : Extension) where
  none_there : (a : Extension) (before : List Extension) → IsOptional need Q (a ∷ before) None → ⊥
  none_there a [] p = p
  none_there a (b ∷ bs) p = p

  empty_before : (before : List Extension) (old : Option A) → old ≡ None → IsOptional need Q before old → before ≡ []
  empty_before [] old h p = refl
  empty_before (a ∷ before) old h p = absurd (none_there a before (subst (IsOptional need Q (a ∷ before)) h p))

  filled : (before : List Extension) (old new : Option A) → Fills need Q e old new → IsOptional need Q before old → IsOptional need Q (before ++ (e ∷ [])) new
  filled before old new h p = subst (λ (zs : List Extension). IsOptional need Q (zs ++ (e ∷ [])) new) (sym (empty_before before old h.empty p)) (subst (IsOptional need Q (e ∷ [])) (sym h.put) (h.met, h.reads))

  -- One more extension.
  pub grown : (named : Option (List ℕ)) (k : List ℕ) → IsNamed named e.kind → Mem known k → (xs : List Extension) (old new : Option A) → Sets (is_of named k) need Q e old new → IsOptional need Q (of_kind k xs) old → IsOptional need Q (of_kind k (xs ++ (e ∷ []))) new
  grown named k n m xs old new = let d = decides named e.kind k n m in at (is_of named k) d.0 d.1
    where
      at : (b : Bool) → (b ≡ true → e.kind ≡ k) → (b ≡ false → e.kind ≡ k → ⊥) → Sets b need Q e old new → IsOptional need Q (of_kind k xs) old → IsOptional need Q (of_kind k (xs ++ (e ∷ []))) new
      at true holds lacks s p = subst (λ (zs : List Extension). IsOptional need Q zs new) (sym (among k e xs [] (holds refl))) (filled (of_kind k xs) old new s p)
      at false holds lacks s p = subst (λ (zs : List Extension). IsOptional need Q zs new) (sym (apart k e xs (lacks refl))) (subst (IsOptional need Q (of_kind k xs)) (sym s) p)

  ruled_out : (fault : ExtensionError) (old : Option A) (x : A) → CannotFill need Q e old fault → fault ≢ Memory → IsOptional need Q [] old → IsOptional need Q (e ∷ []) (Some x) → ⊥
  ruled_out Duplicate None x h m p q = h refl
  ruled_out Duplicate (Some y) x h m p q = p
  ruled_out Criticality old x h m p q = h.1 q.0
  ruled_out UnknownCritical old x h m p q = h
  ruled_out BadValue old x h m p q = h.1 x q.1
  ruled_out MissingResources old x h m p q = h
  ruled_out MissingPolicy old x h m p q = h
  ruled_out WrongIpResources old x h m p q = h
  ruled_out WrongAsResources old x h m p q = h
  ruled_out MissingSubjectKeyIdentifier old x h m p q = h
  ruled_out MissingKeyUsage old x h m p q = h
  ruled_out Memory old x h m p q = m refl

  none_joined : (fault : ExtensionError) (before behind : List Extension) (old v : Option A) → CannotFill need Q e old fault → fault ≢ Memory → IsOptional need Q before old → IsOptional need Q (before ++ (e ∷ behind)) v → ⊥
  none_joined fault [] [] old (Some x) h m p q = ruled_out fault old x h m p q
  none_joined fault [] [] old None h m p q = q
  none_joined fault [] (f ∷ fs) old v h m p q = q
  none_joined fault (a ∷ []) behind old v h m p q = q
  none_joined fault (a ∷ b ∷ before) behind old v h m p q = q

  -- No list goes on with an extension whose slot can't be filled.
  pub not_grown : (fault : ExtensionError) (k : List ℕ) → e.kind ≡ k → (xs ys : List Extension) (old v : Option A) → CannotFill need Q e old fault → fault ≢ Memory → IsOptional need Q (of_kind k xs) old → IsOptional need Q (of_kind k (xs ++ (e ∷ ys))) v → ⊥
  not_grown fault k same xs ys old v h m p q = none_joined fault (of_kind k xs) (of_kind k ys) old v h m p (subst (λ (zs : List Extension). IsOptional need Q zs v) (among k e xs ys same) q)

-- One of two policies is that one or the other.
pub one_or_other : (v w : Overclaim) → (w ≡ v) ⊎ (w ≡ other v)
one_or_other Refuse Refuse = inl refl
one_or_other Refuse Trim = inr refl
one_or_other Trim Refuse = inr refl
one_or_other Trim Trim = inl refl

module _ {A : Type 0} (octets : Overclaim → List ℕ) (differ : octets Refuse ≢ octets Trim) (Q : Tree → A → Type 0) (e : Extension) where
  other_differs : (v : Overclaim) → e.kind ≡ octets v → e.kind ≡ octets (other v) → ⊥
  other_differs Refuse same also = differ (sym same ∙ also)
  other_differs Trim same also = differ (sym also ∙ same)

  nothing : (v : Overclaim) (xs : List Extension) (old : Option (Overclaim × A)) → old ≡ None → IsVersioned octets Q xs old → (of_kind (octets v) xs ≡ []) × (of_kind (octets (other v)) xs ≡ [])
  nothing Refuse xs None h p = p
  nothing Trim xs None h p = (p.1, p.0)
  nothing v xs (Some x) h p = absurd cc

  under_reads : (v : Overclaim) (o : List ℕ) (x : Overclaim × A) → ReadsFront (Under v Q) o x → (x.0 ≡ v) × ReadsFront Q o x.1
  under_reads v o x r = (r.is.is.policy_is, record { text = r.text; rest = r.rest; whole = r.whole; is = record { tree = r.is.tree; is = r.is.is.is; spelled = r.is.spelled } })

  reads_under : (v : Overclaim) (o : List ℕ) (x : Overclaim × A) → x.0 ≡ v → ReadsFront Q o x.1 → ReadsFront (Under v Q) o x
  reads_under v o x same r = record { text = r.text; rest = r.rest; whole = r.whole; is = record { tree = r.is.tree; is = record { policy_is = same; is = r.is.is }; spelled = r.is.spelled } }

  versioned : (v : Overclaim) → e.kind ≡ octets v → (xs : List Extension) (old new : Option (Overclaim × A)) → Fills May (Under v Q) e old new → IsVersioned octets Q xs old → IsVersioned octets Q (xs ++ (e ∷ [])) new
  versioned v same xs old new h p =
      let none = nothing v xs old h.empty p in
      let r = under_reads v e.octets h.value h.reads in
      let none_other : of_kind (octets (other v)) (xs ++ (e ∷ [])) ≡ [] = apart (octets (other v)) e xs (other_differs v same) ∙ none.1 in
      let one : of_kind (octets v) (xs ++ (e ∷ [])) ≡ e ∷ [] = among (octets v) e xs [] same ∙ ap (λ (zs : List Extension). zs ++ (e ∷ [])) none.0 in
      subst (IsVersioned octets Q (xs ++ (e ∷ []))) (sym h.put) (
        subst (λ (w : Overclaim). of_kind (octets (other w)) (xs ++ (e ∷ [])) ≡ []) (sym r.0) none_other,
        subst (λ (w : Overclaim). IsOptional May Q (of_kind (octets w) (xs ++ (e ∷ []))) (Some h.value.1)) (sym r.0) (subst (λ (zs : List Extension). IsOptional May Q zs (Some h.value.1)) (sym one) (tt, r.1)),
      )

  unversioned : (xs : List Extension) (old : Option (Overclaim × A)) → (e.kind ≡ octets Refuse → ⊥) → (e.kind ≡ octets Trim → ⊥) → IsVersioned octets Q xs old → IsVersioned octets Q (xs ++ (e ∷ [])) old
  unversioned xs None first second p = (apart (octets Refuse) e xs first ∙ p.0, apart (octets Trim) e xs second ∙ p.1)
  unversioned xs (Some x) first second p = (
    apart (octets (other x.0)) e xs (neither (other x.0)) ∙ p.0,
    subst (λ (zs : List Extension). IsOptional May Q zs (Some x.1)) (sym (apart (octets x.0) e xs (neither x.0))) p.1,
  )
    where
      neither : (v : Overclaim) → e.kind ≡ octets v → ⊥
      neither Refuse same = first same
      neither Trim same = second same

  -- One more extension.
  pub grown_under : (named : Option (List ℕ)) → IsNamed named e.kind → Mem known (octets Refuse) → Mem known (octets Trim) → (xs : List Extension) (old new : Option (Overclaim × A)) → SetsUnder (is_of named (octets Refuse)) (is_of named (octets Trim)) Q e old new → IsVersioned octets Q xs old → IsVersioned octets Q (xs ++ (e ∷ [])) new
  grown_under named n m l xs old new =
      let first = decides named e.kind (octets Refuse) n m in
      let second = decides named e.kind (octets Trim) n l in
      at (is_of named (octets Refuse)) (is_of named (octets Trim)) first.0 first.1 second.0 second.1
    where
      at : (a b : Bool) → (a ≡ true → e.kind ≡ octets Refuse) → (a ≡ false → e.kind ≡ octets Refuse → ⊥) → (b ≡ true → e.kind ≡ octets Trim) → (b ≡ false → e.kind ≡ octets Trim → ⊥) → SetsUnder a b Q e old new → IsVersioned octets Q xs old → IsVersioned octets Q (xs ++ (e ∷ [])) new
      at true b f g h k s p = versioned Refuse (f refl) xs old new s p
      at false true f g h k s p = versioned Trim (h refl) xs old new s p
      at false false f g h k s p = subst (IsVersioned octets Q (xs ++ (e ∷ []))) (sym s) (unversioned xs old (g refl) (k refl) p)

  -- There was none of either version, if another extension after goes with those of that one alone.
  pub not_under : (fault : ExtensionError) (v : Overclaim) → e.kind ≡ octets v → (xs ys : List Extension) (old new : Option (Overclaim × A)) → CannotFill May (Under v Q) e old fault → fault ≢ Memory → IsVersioned octets Q xs old → IsVersioned octets Q (xs ++ (e ∷ ys)) new → ⊥
  not_under fault v same xs ys old new h m p q = by_new new q
    where
      here_is : of_kind (octets v) (xs ++ (e ∷ ys)) ≡ of_kind (octets v) xs ++ (e ∷ of_kind (octets v) ys)
      here_is = among (octets v) e xs ys same

      not_empty : of_kind (octets v) (xs ++ (e ∷ ys)) ≡ [] → ⊥
      not_empty z = not_none (of_kind (octets v) xs) (of_kind (octets v) ys) e (sym here_is ∙ z)

      alone : (before behind : List Extension) (x : A) → IsOptional May Q (before ++ (e ∷ behind)) (Some x) → (before ≡ []) × ReadsFront Q e.octets x
      alone [] [] x z = (refl, z.1)
      alone [] (f ∷ fs) x z = absurd z
      alone (a ∷ []) behind x z = absurd z
      alone (a ∷ b ∷ before) behind x z = absurd z

      only_one : (w : Overclaim) (x : A) → w ≡ v → IsOptional May Q (of_kind (octets w) (xs ++ (e ∷ ys))) (Some x) → (of_kind (octets v) xs ≡ []) × ReadsFront Q e.octets x
      only_one w x is z = alone (of_kind (octets v) xs) (of_kind (octets v) ys) x (subst (λ (zs : List Extension). IsOptional May Q zs (Some x)) here_is (subst (λ (u : Overclaim). IsOptional May Q (of_kind (octets u) (xs ++ (e ∷ ys))) (Some x)) is z))

      some_old : (y : Overclaim × A) → of_kind (octets v) xs ≡ [] → of_kind (octets (other v)) xs ≡ [] → IsVersioned octets Q xs (Some y) → ⊥
      some_old y none none_other z = at (one_or_other v y.0)
        where
          at : (y.0 ≡ v) ⊎ (y.0 ≡ other v) → ⊥
          at (inl is) = subst (λ (zs : List Extension). IsOptional May Q zs (Some y.1)) (ap (λ (u : Overclaim). of_kind (octets u) xs) is ∙ none) z.1
          at (inr is) = subst (λ (zs : List Extension). IsOptional May Q zs (Some y.1)) (ap (λ (u : Overclaim). of_kind (octets u) xs) is ∙ none_other) z.1

      by_fault : (f : ExtensionError) (before : Option (Overclaim × A)) (x : Overclaim × A) → CannotFill May (Under v Q) e before f → f ≢ Memory → IsVersioned octets Q xs before → x.0 ≡ v → of_kind (octets v) xs ≡ [] → of_kind (octets (other v)) xs ≡ [] → ReadsFront Q e.octets x.1 → ⊥
      by_fault Duplicate None x c l z is none none_other r = c refl
      by_fault Duplicate (Some y) x c l z is none none_other r = some_old y none none_other z
      by_fault Criticality before x c l z is none none_other r = c.1 tt
      by_fault UnknownCritical before x c l z is none none_other r = c
      by_fault BadValue before x c l z is none none_other r = c.1 x (reads_under v e.octets x is r)
      by_fault MissingResources before x c l z is none none_other r = c
      by_fault MissingPolicy before x c l z is none none_other r = c
      by_fault WrongIpResources before x c l z is none none_other r = c
      by_fault WrongAsResources before x c l z is none none_other r = c
      by_fault MissingSubjectKeyIdentifier before x c l z is none none_other r = c
      by_fault MissingKeyUsage before x c l z is none none_other r = c
      by_fault Memory before x c l z is none none_other r = l refl

      twice : (u : Overclaim) → other (other u) ≡ u
      twice Refuse = refl
      twice Trim = refl

      by_version : (x : Overclaim × A) → IsVersioned octets Q (xs ++ (e ∷ ys)) (Some x) → (x.0 ≡ v) ⊎ (x.0 ≡ other v) → ⊥
      by_version x z (inl is) =
          let one = only_one x.0 x.1 is z.1 in
          let behind : of_kind (octets (other v)) (xs ++ (e ∷ ys)) ≡ [] = ap (λ (u : Overclaim). of_kind (octets (other u)) (xs ++ (e ∷ ys))) (sym is) ∙ z.0 in
          let none_other = front_none (of_kind (octets (other v)) xs) (of_kind (octets (other v)) (e ∷ ys)) (sym (of_kind_append (octets (other v)) xs (e ∷ ys)) ∙ behind) in
          by_fault fault old x h m p is one.0 none_other one.1
      by_version x z (inr is) = not_empty (ap (λ (u : Overclaim). of_kind (octets u) (xs ++ (e ∷ ys))) (sym (ap other is ∙ twice v)) ∙ z.0)

      by_new : (s : Option (Overclaim × A)) → IsVersioned octets Q (xs ++ (e ∷ ys)) s → ⊥
      by_new None z = neither v not_empty z
        where
          neither : (u : Overclaim) → (of_kind (octets u) (xs ++ (e ∷ ys)) ≡ [] → ⊥) → (of_kind (octets Refuse) (xs ++ (e ∷ ys)) ≡ []) × (of_kind (octets Trim) (xs ++ (e ∷ ys)) ≡ []) → ⊥
          neither Refuse n w = n w.0
          neither Trim n w = n w.1
      by_new (Some x) z = by_version x z (one_or_other v x.0)
