-- Attributes one by one, each of which says something, are signed attributes as a whole.
use Rattle.std.proofs.Common.{◌≡◌, ℕ, zero, suc, Bool, true, false, cond, List, [], ◌∷◌, Option, Some, None, refl, sym, ap, ◌∙◌, subst, arith, filter_map, bytes_eq, All, Contains}
use Rattle.std.proofs.lemmas.List.Elements.{All-nil, All-cons, All-head, All-tail}
use Rattle.std.proofs.lemmas.Slice.Eq.{bytes_eq-Decides}
use Rattle.std.specs.List.{cons_option}
use Rattle.objects_cms.specs.bcder_tree.declared.mode.Mode.{Mode}
use Rattle.objects_cms.specs.bcder_tree.Tags.{oid_tag}
use Rattle.objects_cms.specs.bcder_tree.Tree.{Tree, Trees}
use Rattle.objects_cms.specs.bcder_tree.Strings.{IsOctetString}
use Rattle.objects_cms.specs.bcder_content.Grammar.{ManyCases, OctetsOf, One}
use Rattle.objects_cms.specs.bcder_content.Words.{Gathers}
use Rattle.objects_cms.specs.bcder.declared.oid.oid.Oid.{Oid}
use Rattle.objects_cms.specs.bcder.Identifiers.{IsOid}
use Rattle.objects_cms.specs.certs_basics.Forms.{IsTime}
use Rattle.objects_payload.specs.SignedAttributes.{AreAttributes, Attribute, AttributesValue, IsAttribute, IsBinaryTime, IsOnce, kinds as signed_kinds, those_of}
use Rattle.objects_cms.specs.declared.attributes.kinds.Kind.{Kind}
use Rattle.objects_cms.specs.declared.attributes.kinds.Kind.TheVariants as kinds
use Rattle.objects_cms.specs.declared.attributes.said.Said.{Said}
use Rattle.objects_cms.specs.declared.attributes.said.Said.TheVariants.{ContentType, MessageDigest, SigningTime, BinarySigningTime}
use Rattle.objects_cms.specs.Said.{IsSaid, IsValueOf, kind_of, octets_of}
use Rattle.objects_cms.specs.Slots.{AreSlots, IsOnly, digest_in, seconds_in, time_in, type_in}
use Rattle.objects_cms.specs.Kept.{slots_of}
use Rattle.objects_cms.proofs.Single.{Says, kind_is, said_from, said_to, same_kind}
use Rattle.objects_cms.proofs.AttributeOnes.{oid_value_one, seconds_one, string_value_one, time_value_one}

-- One by one: attributes, and what each says.
abbrev pub Zips : Mode → List Attribute → List Said → Type 0
Zips m [] [] = Unit {0}
Zips m [] (s ∷ ss) = ⊥
Zips m (a ∷ all) [] = ⊥
Zips m (a ∷ all) (s ∷ ss) = Says m a s × Zips m all ss

record Unzipped (m : Mode) (ts : Trees) (ss : List Said) : Type 0 where
  all : List Attribute
  are : ManyCases IsAttribute ts all
  zips : Zips m all ss

unzip : {m : Mode} (ts : Trees) (ss : List Said) → ManyCases (IsSaid m) ts ss → Unzipped m ts ss
unzip ts [] e = record { all = []; are = e; zips = tt }
unzip {m} ts (s ∷ ss) p =
    let first = said_from p.3 in
    let rest = unzip p.1 ss p.4 in
    record { all = first.attribute ∷ rest.all; are = (p.0, p.1, p.2, first.is, rest.are); zips = (first.says, rest.zips) }

zip_up : (m : Mode) (ts : Trees) (all : List Attribute) (ss : List Said) → ManyCases IsAttribute ts all → Zips m all ss → ManyCases (IsSaid m) ts ss
zip_up m ts [] [] e z = e
zip_up m ts [] (s ∷ ss) e z = absurd z
zip_up m ts (a ∷ all) [] p z = absurd z
zip_up m ts (a ∷ all) (s ∷ ss) p z = (p.0, p.1, p.2, said_to p.3 z.0, zip_up m p.1 all ss p.4 z.1)

-- Values one by one, and what they mean.
abbrev Values : {A : Type 0} → (Tree → A → Type 0) → List Attribute → List A → Type 0
Values Q [] [] = Unit {0}
Values Q [] (x ∷ xs) = ⊥
Values Q (a ∷ all) [] = ⊥
Values Q (a ∷ all) (x ∷ xs) = Q a.value x × Values Q all xs

once : {A : Type 0} (Q : Tree → A → Type 0) (all : List Attribute) (xs : List A) (v : Option A) → Values Q all xs → IsOnly xs v → IsOnce Q all v
once Q [] [] None z h = tt
once Q [] [] (Some x) z h = absurd cc
once Q [] (y ∷ xs) v z h = absurd z
once Q (a ∷ all) [] v z h = absurd z
once Q (a ∷ []) (y ∷ []) None z h = absurd cc
once Q (a ∷ []) (y ∷ []) (Some x) z h = let e : x ≡ y = cc in subst (λ w. Q a.value w) (sym e) z.0
once Q (a ∷ []) (y ∷ w ∷ xs) v z h = absurd h
once Q (a ∷ b ∷ all) (y ∷ []) v z h = absurd z.1
once Q (a ∷ b ∷ all) (y ∷ w ∷ xs) v z h = absurd h

only : {A : Type 0} (Q : Tree → A → Type 0) → One Q → (all : List Attribute) (xs : List A) (v : Option A) → Values Q all xs → IsOnce Q all v → IsOnly xs v
only Q o [] [] None z h = refl
only Q o [] [] (Some x) z h = absurd h
only Q o [] (y ∷ xs) v z h = absurd z
only Q o (a ∷ all) [] v z h = absurd z
only Q o (a ∷ []) (y ∷ []) None z h = absurd h
only Q o (a ∷ []) (y ∷ []) (Some x) z h = ap (λ w. Some w) (o.one a.value x y h z.0)
only Q o (a ∷ []) (y ∷ w ∷ xs) v z h = absurd z.1
only Q o (a ∷ b ∷ all) (y ∷ []) v z h = absurd z.1
only Q o (a ∷ b ∷ all) (y ∷ w ∷ xs) v z h = absurd h

-- What attributes of one kind say.
record Tells {A : Type 0} (m : Mode) (k : Kind) (f : Said → Option A) (Q : Tree → A → Type 0) : Type 0 where
  there : (t : Tree) (s : Said) → IsValueOf m k t s → (x : A) × (f s ≡ Some x) × Q t x
  back : (t : Tree) (x : A) → Q t x → (s : Said) × IsValueOf m k t s
  other : (s : Said) → (kind_of s ≡ k → ⊥) → f s ≡ None

module _ {A : Type 0} {m : Mode} {k : Kind} {f : Said → Option A} {Q : Tree → A → Type 0} (tells : Tells m k f Q) where
  of_one : (a : Attribute) (s : Said) → Says m a s → a.kind ≡ octets_of k → (x : A) × (f s ≡ Some x) × Q a.value x
  of_one a s p e =
      let same = same_kind p.kind k (sym p.named ∙ e) in
      tells.there a.value s (subst (λ (l : Kind). IsValueOf m l a.value s) same p.is)

  of_other : (a : Attribute) (s : Said) → Says m a s → (a.kind ≡ octets_of k → ⊥) → f s ≡ None
  of_other a s p n = tells.other s (λ e. n (p.named ∙ ap octets_of (sym (kind_is m p.kind a.value s p.is) ∙ e)))

  of_kind : (all : List Attribute) (ss : List Said) → Zips m all ss → Values Q (those_of (octets_of k) all) (filter_map f ss)
  of_kind [] [] z = tt
  of_kind [] (s ∷ ss) z = absurd z
  of_kind (a ∷ all) [] z = absurd z
  of_kind (a ∷ all) (s ∷ ss) z =
      let d = bytes_eq-Decides a.kind (octets_of k) in
      at (bytes_eq a.kind (octets_of k)) d.0 d.1 (of_kind all ss z.1)
    where
      at : (b : Bool) → (b ≡ true → a.kind ≡ octets_of k) → (a.kind ≡ octets_of k → b ≡ true) → Values Q (those_of (octets_of k) all) (filter_map f ss)
          → Values Q (cond b (a ∷ those_of (octets_of k) all) (those_of (octets_of k) all)) (cons_option (f s) (filter_map f ss))
      at true t n rest =
          let x = of_one a s z.0 (t refl) in
          subst (λ (o : Option A). Values Q (a ∷ those_of (octets_of k) all) (cons_option o (filter_map f ss))) (sym x.1) (x.2, rest)
      at false t n rest =
          let none = of_other a s z.0 (λ e. let c : false ≡ true = n e in absurd cc) in
          subst (λ (o : Option A). Values Q (those_of (octets_of k) all) (cons_option o (filter_map f ss))) (sym none) rest

  -- A value of that kind stands in each attribute of the kind.
  has_value : (l : List Attribute) (v : Option A) → IsOnce Q l v → All (λ a. (x : A) × Q a.value x) l
  has_value [] v h = All-nil (λ a. (x : A) × Q a.value x)
  has_value (a ∷ []) None h = absurd h
  has_value (a ∷ []) (Some x) h = All-cons (λ a. (x : A) × Q a.value x) a [] (x, h) (All-nil (λ a. (x : A) × Q a.value x))
  has_value (a ∷ b ∷ l) v h = absurd h

  abbrev Has : Attribute → Type 0
  Has a = a.kind ≡ octets_of k → (s : Said) × IsValueOf m k a.value s

  each_has : (all : List Attribute) → All (λ a. (x : A) × Q a.value x) (those_of (octets_of k) all) → All Has all
  each_has [] h = All-nil Has
  each_has (a ∷ all) h =
      let d = bytes_eq-Decides a.kind (octets_of k) in
      at (each_has all) (bytes_eq a.kind (octets_of k)) d.0 d.1 h
    where
      at : (All (λ a. (x : A) × Q a.value x) (those_of (octets_of k) all) → All Has all) → (b : Bool) → (b ≡ true → a.kind ≡ octets_of k) → (a.kind ≡ octets_of k → b ≡ true)
          → All (λ a. (x : A) × Q a.value x) (cond b (a ∷ those_of (octets_of k) all) (those_of (octets_of k) all)) → All Has (a ∷ all)
      at others true t n l =
          let x = All-head (λ a. (x : A) × Q a.value x) a (those_of (octets_of k) all) l in
          All-cons Has a all (λ e. tells.back a.value x.0 x.1) (others (All-tail (λ a. (x : A) × Q a.value x) a (those_of (octets_of k) all) l))
      at others false t n l = All-cons Has a all (λ e. let c : false ≡ true = n e in absurd cc) (others l)

  has_each : (all : List Attribute) (v : Option A) → IsOnce Q (those_of (octets_of k) all) v → All Has all
  has_each all v h = each_has all (has_value (those_of (octets_of k) all) v h)

-- The four kinds.
abbrev IsType : Tree → Oid (List ℕ) → Type 0
IsType t oid = OctetsOf oid_tag IsOid t oid.0

tells_type : {m : Mode} → Tells m kinds.ContentType type_in IsType
tells_type = record {
  there = λ t s p. (record { 0 = p.x }, ap type_in p.means, p.is);
  back = λ t x p. (ContentType x, record { x = x.0; is = p; means = refl });
  other = other;
}
  where
    other : (s : Said) → (kind_of s ≡ kinds.ContentType → ⊥) → type_in s ≡ None
    other (ContentType oid) n = absurd (n refl)
    other (MessageDigest digest) n = refl
    other (SigningTime time) n = refl
    other (BinarySigningTime seconds) n = refl

tells_digest : {m : Mode} → Tells m kinds.MessageDigest digest_in (IsOctetString m)
tells_digest = record {
  there = λ t s p. (p.x, ap digest_in p.means, p.is);
  back = λ t x p. (MessageDigest x, record { x = x; is = p; means = refl });
  other = other;
}
  where
    other : (s : Said) → (kind_of s ≡ kinds.MessageDigest → ⊥) → digest_in s ≡ None
    other (ContentType oid) n = refl
    other (MessageDigest digest) n = absurd (n refl)
    other (SigningTime time) n = refl
    other (BinarySigningTime seconds) n = refl

tells_time : {m : Mode} → Tells m kinds.SigningTime time_in IsTime
tells_time = record {
  there = λ t s p. (p.x, ap time_in p.means, p.is);
  back = λ t x p. (SigningTime x, record { x = x; is = p; means = refl });
  other = other;
}
  where
    other : (s : Said) → (kind_of s ≡ kinds.SigningTime → ⊥) → time_in s ≡ None
    other (ContentType oid) n = refl
    other (MessageDigest digest) n = refl
    other (SigningTime time) n = absurd (n refl)
    other (BinarySigningTime seconds) n = refl

tells_seconds : {m : Mode} → Tells m kinds.BinarySigningTime seconds_in IsBinaryTime
tells_seconds = record {
  there = λ t s p. (p.x, ap seconds_in p.means, p.is);
  back = λ t x p. (BinarySigningTime x, record { x = x; is = p; means = refl });
  other = other;
}
  where
    other : (s : Said) → (kind_of s ≡ kinds.BinarySigningTime → ⊥) → seconds_in s ≡ None
    other (ContentType oid) n = refl
    other (MessageDigest digest) n = refl
    other (SigningTime time) n = refl
    other (BinarySigningTime seconds) n = absurd (n refl)

-- The content type, as octets and as an identifier.
type_octets : (all : List Attribute) (octets : List ℕ) → IsOnce IsType all (Some (record { 0 = octets })) → IsOnce (OctetsOf oid_tag IsOid) all (Some octets)
type_octets [] octets h = absurd h
type_octets (a ∷ []) octets h = h
type_octets (a ∷ b ∷ all) octets h = absurd h

octets_type : (all : List Attribute) (octets : List ℕ) → IsOnce (OctetsOf oid_tag IsOid) all (Some octets) → IsOnce IsType all (Some (record { 0 = octets }))
octets_type [] octets h = absurd h
octets_type (a ∷ []) octets h = h
octets_type (a ∷ b ∷ all) octets h = absurd h

type_one : One IsType
type_one = record { one = λ t x y p q. ap (λ (o : List ℕ). let oid : Oid (List ℕ) = record { 0 = o } in oid) (oid_value_one.one t x.0 y.0 p q) }

-- Known kinds.
known : (octets : List ℕ) (k : Kind) → octets ≡ octets_of k → Contains signed_kinds octets
known octets kinds.ContentType e = (0, omega arith, sym e)
known octets kinds.MessageDigest e = (1, omega arith, sym e)
known octets kinds.SigningTime e = (2, omega arith, sym e)
known octets kinds.BinarySigningTime e = (3, omega arith, sym e)

which : (octets : List ℕ) → Contains signed_kinds octets → (k : Kind) × (octets ≡ octets_of k)
which octets (zero, l, e) = (kinds.ContentType, sym e)
which octets (suc zero, l, e) = (kinds.MessageDigest, sym e)
which octets (suc (suc zero), l, e) = (kinds.SigningTime, sym e)
which octets (suc (suc (suc zero)), l, e) = (kinds.BinarySigningTime, sym e)
which octets (suc (suc (suc (suc n))), l, e) = absurd (omega (arith, l))

no_other : (m : Mode) (all : List Attribute) (ss : List Said) → Zips m all ss → All (λ a. Contains signed_kinds a.kind) all
no_other m [] ss z = All-nil (λ a. Contains signed_kinds a.kind)
no_other m (a ∷ all) [] z = absurd z
no_other m (a ∷ all) (s ∷ ss) z = All-cons (λ a. Contains signed_kinds a.kind) a all (known a.kind z.0.kind z.0.named) (no_other m all ss z.1)

-- One by one they are signed attributes.
pub attributes_are : {m : Mode} {ts : Trees} {x : AttributesValue} → Gathers (IsSaid m) AreSlots ts (slots_of x) → AreAttributes m ts x
attributes_are {m} {ts} {x} g =
    let u = unzip ts g.xs g.are.cases in
    record {
      xs = u.all;
      are = record { cases = u.are };
      says = record {
        no_other = no_other m u.all g.xs u.zips;
        content_type = type_octets (those_of (octets_of kinds.ContentType) u.all) x.content_type (once IsType _ _ _ (of_kind tells_type u.all g.xs u.zips) g.says.content_type);
        digest = once (IsOctetString m) _ _ _ (of_kind tells_digest u.all g.xs u.zips) g.says.message_digest;
        signing_time = once IsTime _ _ _ (of_kind tells_time u.all g.xs u.zips) g.says.signing_time;
        binary_signing_time = once IsBinaryTime _ _ _ (of_kind tells_seconds u.all g.xs u.zips) g.says.binary_signing_time;
      };
    }

-- Each attribute says something.
record Zipped (m : Mode) (all : List Attribute) : Type 0 where
  ss : List Said
  zips : Zips m all ss

says_by : {m : Mode} (a : Attribute) (k : Kind) → a.kind ≡ octets_of k → Has (tells_type {m = m}) a → Has (tells_digest {m = m}) a → Has (tells_time {m = m}) a → Has (tells_seconds {m = m}) a → (s : Said) × Says m a s
says_by a kinds.ContentType e b c d f = let x = b e in (x.0, record { kind = kinds.ContentType; named = e; is = x.1 })
says_by a kinds.MessageDigest e b c d f = let x = c e in (x.0, record { kind = kinds.MessageDigest; named = e; is = x.1 })
says_by a kinds.SigningTime e b c d f = let x = d e in (x.0, record { kind = kinds.SigningTime; named = e; is = x.1 })
says_by a kinds.BinarySigningTime e b c d f = let x = f e in (x.0, record { kind = kinds.BinarySigningTime; named = e; is = x.1 })

zipped : {m : Mode} (all : List Attribute) → All (λ a. Contains signed_kinds a.kind) all → All (Has (tells_type {m = m})) all → All (Has (tells_digest {m = m})) all → All (Has (tells_time {m = m})) all → All (Has (tells_seconds {m = m})) all → Zipped m all
zipped [] n b c d f = record { ss = []; zips = tt }
zipped {m} (a ∷ all) n b c d f =
    let w = which a.kind (All-head (λ a. Contains signed_kinds a.kind) a all n) in
    let s = says_by a w.0 w.1 (All-head (Has (tells_type {m = m})) a all b) (All-head (Has (tells_digest {m = m})) a all c) (All-head (Has (tells_time {m = m})) a all d) (All-head (Has (tells_seconds {m = m})) a all f) in
    let rest = zipped all (All-tail (λ a. Contains signed_kinds a.kind) a all n) (All-tail (Has (tells_type {m = m})) a all b) (All-tail (Has (tells_digest {m = m})) a all c) (All-tail (Has (tells_time {m = m})) a all d) (All-tail (Has (tells_seconds {m = m})) a all f) in
    record { ss = s.0 ∷ rest.ss; zips = (s.1, rest.zips) }

-- Signed attributes are so one by one.
pub attributes_by_slots : {m : Mode} {ts : Trees} {x : AttributesValue} → AreAttributes m ts x → Gathers (IsSaid m) AreSlots ts (slots_of x)
attributes_by_slots {m} {ts} {x} g =
    let all = g.xs in
    let says = g.says in
    let type = octets_type (those_of (octets_of kinds.ContentType) all) x.content_type says.content_type in
    let z = zipped all says.no_other (has_each (tells_type {m = m}) all _ type) (has_each (tells_digest {m = m}) all _ says.digest) (has_each (tells_time {m = m}) all _ says.signing_time) (has_each (tells_seconds {m = m}) all _ says.binary_signing_time) in
    record {
      xs = z.ss;
      are = record { cases = zip_up m ts all z.ss g.are.cases z.zips };
      says = record {
        content_type = only IsType type_one _ _ _ (of_kind tells_type all z.ss z.zips) type;
        message_digest = only (IsOctetString m) (string_value_one m) _ _ _ (of_kind tells_digest all z.ss z.zips) says.digest;
        signing_time = only IsTime time_value_one _ _ _ (of_kind tells_time all z.ss z.zips) says.signing_time;
        binary_signing_time = only IsBinaryTime seconds_one _ _ _ (of_kind tells_seconds all z.ss z.zips) says.binary_signing_time;
      };
    }
