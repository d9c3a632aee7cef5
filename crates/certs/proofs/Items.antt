-- Lists of extensions of which each kind is there once at most, by its place.
use Rattle.std.proofs.Common.{◌≡◌, inl, ℕ, Bool, true, false, List, [], ◌∷◌, ◌++◌, Option, Some, None, refl, sym, ap, ◌∙◌, append-nil, bytes_eq, if◌then◌else◌}
use Rattle.certs.specs.certs_basics.Lists.{Each, Mem}
use Rattle.certs.specs.certs_extension.CertText.{IsKnownOrSkipped, known}
use Rattle.certs.specs.certs_extension.Extensions.{Extension, of_kind}
use Rattle.certs.proofs.Ext.{raw}

-- A place of a list: a kind, and the octets of its value if there is one.
pub record Item : Type 0 where
  pub kind : List ℕ
  pub critical : Bool
  pub found : Option (List ℕ)

abbrev pub item : List ℕ → Bool → Option (List ℕ) → Item
item kind critical found = record { kind = kind; critical = critical; found = found }

abbrev pub there : List ℕ → Bool → Option (List ℕ) → List Extension
there kind critical None = []
there kind critical (Some value) = raw kind critical value ∷ []

abbrev pub flat : List Item → List Extension
flat [] = []
flat (s ∷ ss) = there s.kind s.critical s.found ++ flat ss

-- Those of that kind.
abbrev pub items_of : List ℕ → List Item → List Item
items_of kind [] = []
items_of kind (s ∷ ss) = if bytes_eq s.kind kind then s ∷ items_of kind ss else items_of kind ss

none_more : (b : Bool) (s : Item) (ss : List Item) → s.found ≡ None → flat (if b then s ∷ ss else ss) ≡ flat ss
none_more true s ss e = ap (λ (o : Option (List ℕ)). there s.kind s.critical o ++ flat ss) e
none_more false s ss e = refl

one_more : (b : Bool) (kind : List ℕ) (critical : Bool) (value : List ℕ) (xs : List Extension) (ss : List Item) → xs ≡ flat ss
    → (if b then raw kind critical value ∷ xs else xs) ≡ flat (if b then item kind critical (Some value) ∷ ss else ss)
one_more true kind critical value xs ss e = ap (λ (ys : List Extension). raw kind critical value ∷ ys) e
one_more false kind critical value xs ss e = e

of_flat : (kind : List ℕ) (ss : List Item) → of_kind kind (flat ss) ≡ flat (items_of kind ss)
of_flat kind [] = refl
of_flat kind (s ∷ ss) = at s.kind s.critical s.found (of_flat kind ss)
  where
    at : (k : List ℕ) (critical : Bool) (found : Option (List ℕ)) → of_kind kind (flat ss) ≡ flat (items_of kind ss)
        → of_kind kind (there k critical found ++ flat ss) ≡ flat (if bytes_eq k kind then item k critical found ∷ items_of kind ss else items_of kind ss)
    at k critical None rest = rest ∙ sym (none_more (bytes_eq k kind) (item k critical None) (items_of kind ss) refl)
    at k critical (Some value) rest = one_more (bytes_eq k kind) k critical value (of_kind kind (flat ss)) (items_of kind ss) rest

-- Where one place alone is of that kind, and where none is.
pub of_only : (kind : List ℕ) (ss : List Item) (s : Item) → items_of kind ss ≡ s ∷ [] → of_kind kind (flat ss) ≡ there s.kind s.critical s.found
of_only kind ss s e = of_flat kind ss ∙ ap flat e ∙ append-nil (there s.kind s.critical s.found)

pub of_none : (kind : List ℕ) (ss : List Item) → items_of kind ss ≡ [] → of_kind kind (flat ss) ≡ []
of_none kind ss e = of_flat kind ss ∙ ap flat e

-- All kinds are known.
pub all_known : (ss : List Item) → Each (λ (s : Item). Mem known s.kind) ss → Each IsKnownOrSkipped (flat ss)
all_known [] p = tt
all_known (s ∷ ss) p = at s.kind s.critical s.found p.0 (all_known ss p.1)
  where
    at : (k : List ℕ) (critical : Bool) (found : Option (List ℕ)) → Mem known k → Each IsKnownOrSkipped (flat ss) → Each IsKnownOrSkipped (there k critical found ++ flat ss)
    at k critical None m rest = rest
    at k critical (Some value) m rest = (inl m, rest)

pub flat_append : (a b : List Item) → flat a ++ flat b ≡ flat (a ++ b)
flat_append [] b = refl
flat_append (s ∷ a) b = at s.kind s.critical s.found (flat_append a b)
  where
    at : (k : List ℕ) (critical : Bool) (found : Option (List ℕ)) → flat a ++ flat b ≡ flat (a ++ b) → (there k critical found ++ flat a) ++ flat b ≡ there k critical found ++ flat (a ++ b)
    at k critical None rest = rest
    at k critical (Some value) rest = ap (λ (ys : List Extension). raw k critical value ∷ ys) rest
