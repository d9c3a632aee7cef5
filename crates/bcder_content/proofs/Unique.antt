-- Grammars by which a value is read in one way, and those whose values all have one tag.
use Rattle.std.proofs.Common.{◌≡◌, ℕ, List, [], ◌∷◌, Option, Some, None, refl, sym, ap, ◌∙◌, subst, inl, inr}
use Rattle.bcder_content.specs.bcder_tree.Tags.{TagValue}
use Rattle.bcder_content.specs.bcder_tree.Tree.{Tree, Trees, primitive, constructed, none, more}
use Rattle.bcder_content.specs.Contents.{tag_of}
use Rattle.bcder_primitive.specs.Values.{IsUnsigned, AnyOctets}
use Rattle.bcder_content.specs.Grammar.{Inside, OctetsOf, Any, Where, OneOf, As, End, Rest, Then, OptCases, Opt, Default, ManyCases, Many, Tagged, One, OneAll, OneOctets}

-- Tags.

pub inside_tagged : {A : Type 0} (tag : TagValue) (P : Trees → A → Type 0) → Tagged tag (Inside tag P)
inside_tagged tag P = record { tagged = λ t x p. ap tag_of p.whole }

pub octets_tagged : {A : Type 0} (tag : TagValue) (P : List ℕ → A → Type 0) → Tagged tag (OctetsOf tag P)
octets_tagged tag P = record { tagged = λ t x p. ap tag_of p.whole }

pub such_tagged : {A : Type 0} {tag : TagValue} {Q : Tree → A → Type 0} {passes : A → Type 0} → Tagged tag Q → Tagged tag (Where Q passes)
such_tagged g = record { tagged = λ t x p. g.tagged t x p.is }

pub as_tagged : {A B : Type 0} {tag : TagValue} {Q : Tree → A → Type 0} {f : A → B} → Tagged tag Q → Tagged tag (As Q f)
as_tagged g = record { tagged = λ t y p. g.tagged t p.x p.is }

pub one_of_tagged : {A : Type 0} {tag : TagValue} {Q R : Tree → A → Type 0} → Tagged tag Q → Tagged tag R → Tagged tag (OneOf Q R)
one_of_tagged g h = record {
  tagged = λ t x p. elim p.cases [
    | inl q ↦ g.tagged t x q
    | inr r ↦ h.tagged t x r
  ];
}

-- One reading of a value.

pub same_content : {t u : TagValue} {v w : List ℕ} → primitive t v ≡ primitive u w → v ≡ w
same_content e = cc

pub same_values : {t u : TagValue} {ts us : Trees} → constructed t ts ≡ constructed u us → ts ≡ us
same_values e = cc

pub same_trees : {t u : Tree} {ts us : Trees} → more t ts ≡ more u us → (t ≡ u) × (ts ≡ us)
same_trees e = (cc, cc)

pub octets_one : {A : Type 0} {tag : TagValue} {P : List ℕ → A → Type 0} → OneOctets P → One (OctetsOf tag P)
octets_one {A} {tag} {P} o = record { one = λ t x y p q. o.one q.content x y (subst (λ (s : List ℕ). P s x) (same_content (sym p.whole ∙ q.whole)) p.is) q.is }

-- An INTEGER from 0 up is read in one way.
pub unsigned_one : {bound : ℕ} → OneOctets (IsUnsigned bound)
unsigned_one = record { one = λ content x y p q. sym p.value ∙ q.value }

-- Octets as they are are read in one way.
pub any_octets_one : OneOctets AnyOctets
any_octets_one = record { one = λ content x y p q. sym p.same ∙ q.same }

pub inside_one : {A : Type 0} {tag : TagValue} {P : Trees → A → Type 0} → OneAll P → One (Inside tag P)
inside_one {A} {tag} {P} o = record { one = λ t x y p q. o.one q.values x y (subst (λ (us : Trees). P us x) (same_values (sym p.whole ∙ q.whole)) p.is) q.is }

pub any_one : One Any
any_one = record { one = λ t x y p q. refl }

pub such_one : {A : Type 0} {Q : Tree → A → Type 0} {passes : A → Type 0} → One Q → One (Where Q passes)
such_one o = record { one = λ t x y p q. o.one t x y p.is q.is }

pub as_one : {A B : Type 0} {Q : Tree → A → Type 0} {f : A → B} → One Q → One (As Q f)
as_one {f = f} o = record { one = λ t x y p q. p.means ∙ ap f (o.one t p.x q.x p.is q.is) ∙ sym q.means }

-- A choice between tags.
pub one_of_one : {A : Type 0} {tag other : TagValue} {Q R : Tree → A → Type 0} → Tagged tag Q → Tagged other R → (tag ≡ other → ⊥) → One Q → One R → One (OneOf Q R)
one_of_one {A} {tag} {other} {Q} {R} g h apart a b = record {
  one = λ t x y p q. elim p.cases [
    | inl l ↦ elim q.cases [
      | inl m ↦ a.one t x y l m
      | inr m ↦ absurd (apart (sym (g.tagged t x l) ∙ h.tagged t y m))
    ]
    | inr l ↦ elim q.cases [
      | inl m ↦ absurd (apart (sym (g.tagged t y m) ∙ h.tagged t x l))
      | inr m ↦ b.one t x y l m
    ]
  ];
}

-- One reading of values.

pub end_one : OneAll End
end_one = record { one = λ ts x y p q. refl }

pub rest_one : OneAll Rest
rest_one = record { one = λ ts x y p q. refl }

pub then_one : {A B : Type 0} {Q : Tree → A → Type 0} {R : Trees → B → Type 0} → One Q → OneAll R → OneAll (Then Q R)
then_one {A} {B} {Q} {R} a b = record { one = at }
  where
    at : (ts : Trees) (x y : A × B) → Then Q R ts x → Then Q R ts y → x ≡ y
    at ts x y p q =
        let e = same_trees (sym p.whole ∙ q.whole) in
        let f : x.0 ≡ y.0 = a.one q.first x.0 y.0 (subst (λ (t : Tree). Q t x.0) e.0 p.is) q.is in
        let r : x.1 ≡ y.1 = b.one q.others x.1 y.1 (subst (λ (us : Trees). R us x.1) e.1 p.rest) q.rest in
        ap (λ (z : A). (z, x.1)) f ∙ ap (λ (z : B). (y.0, z)) r

pub opt_one : {A B : Type 0} {tag : TagValue} {Q : Tree → A → Type 0} {R : Trees → B → Type 0} → Tagged tag Q → One Q → OneAll R → OneAll (Opt tag Q R)
opt_one {A} {B} {tag} {Q} {R} g a b = record { one = λ ts x y p q. at ts x.0 y.0 x.1 y.1 p.cases q.cases }
  where
    at : (ts : Trees) (o p : Option A) (x y : B) → OptCases tag Q R ts o x → OptCases tag Q R ts p y → ◌≡◌ {A = Option A × B} (o, x) (p, y)
    at ts None None x y p q = ap (λ (z : B). (None, z)) (b.one ts x y p.1 q.1)
    at ts (Some v) (Some w) x y p q = let e = (then_one a b).one ts (v, x) (w, y) p q in ap (λ (z : A × B). (Some z.0, z.1)) e
    at ts None (Some w) x y p q = absurd (p.0.unlike q.first q.others q.whole (g.tagged q.first w q.is))
    at ts (Some v) None x y p q = absurd (q.0.unlike p.first p.others p.whole (g.tagged p.first v p.is))

pub default_one : {A B : Type 0} {tag : TagValue} {Q : Tree → A → Type 0} {missing : A} {R : Trees → B → Type 0} → Tagged tag Q → One Q → OneAll R → OneAll (Default tag Q missing R)
default_one {A} {B} {tag} {Q} {missing} {R} g a b = record {
  one = λ ts x y p q. elim p.cases [
    | inl l ↦ elim q.cases [
      | inl m ↦ let f : x.0 ≡ y.0 = l.1 ∙ sym m.1 in let r : x.1 ≡ y.1 = b.one ts x.1 y.1 l.2 m.2 in ap (λ (z : A). (z, x.1)) f ∙ ap (λ (z : B). (y.0, z)) r
      | inr m ↦ absurd (l.0.unlike m.first m.others m.whole (g.tagged m.first y.0 m.is))
    ]
    | inr l ↦ elim q.cases [
      | inl m ↦ absurd (m.0.unlike l.first l.others l.whole (g.tagged l.first x.0 l.is))
      | inr m ↦ (then_one a b).one ts x y l m
    ]
  ];
}

pub many_one : {A : Type 0} {Q : Tree → A → Type 0} → One Q → OneAll (Many Q)
many_one {A} {Q} a = record { one = λ ts xs ys p q. at ts xs ys p.cases q.cases }
  where
    at : (ts : Trees) (xs ys : List A) → ManyCases Q ts xs → ManyCases Q ts ys → xs ≡ ys
    at ts [] [] p q = refl
    at ts (x ∷ xs) (y ∷ ys) p q =
        let e = same_trees (sym p.2 ∙ q.2) in
        let f : x ≡ y = a.one q.0 x y (subst (λ (t : Tree). Q t x) e.0 p.3) q.3 in
        let r : xs ≡ ys = at q.1 xs ys (subst (λ (us : Trees). ManyCases Q us xs) e.1 p.4) q.4 in
        ap (λ (z : A). z ∷ xs) f ∙ ap (λ (zs : List A). y ∷ zs) r
    at ts [] (y ∷ ys) p q = let k : none ≡ more q.0 q.1 = sym p ∙ q.2 in cc
    at ts (x ∷ xs) [] p q = let k : none ≡ more p.0 p.1 = sym q ∙ p.2 in cc
