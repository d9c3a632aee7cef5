-- What is named, by tests and by facts.
use Rattle.std.proofs.Common.{◌≡◌, ℕ, zero, suc, ◌<◌, ◌⊎◌, ◌↔◌, ◌||◌, Bool, true, false, IsTrue, List, [], ◌∷◌, Option, Some, None, Vec, Global, length, get_or, refl, sym, subst, inl, inr, arith, bytes_eq}
use Rattle.std.specs.List.{list_any}
use Rattle.std.proofs.lemmas.Slice.Eq.{bytes_eq-Decides}
use Rattle.rpki_walk.specs.rpki_bundle.declared.parts.Locator.{Locator}
use Rattle.rpki_walk.specs.rpki_bundle.Uris.{lookup_key}
use Rattle.rpki_rules.specs.Certs.{Cert}
use Rattle.rpki_walk.proofs.of_objects_payload.Locators.{one_locator}
use Rattle.rpki_rules.specs.Words.{Mem}
use Rattle.rpki_rules.specs.World.{World}
use Rattle.rpki_rules.specs.Reach.{IsOneOf, NamesOne, SomeLocatorNames}
use Rattle.rpki_rules.proofs.Orders.{mem_map}
use Rattle.rpki_walk.specs.Repository.{locator_at}
use Rattle.rpki_walk.proofs.Mems.{mem_get_or}
use Rattle.rpki_walk.specs.Naming.{AreLocatorKeys, AreNamed, names_key, names_any, NamesOneOf, LocatorNames}

or_tells : (a b : Bool) → IsTrue (a || b) ↔ (IsTrue a ⊎ IsTrue b)
or_tells true b = (λ t. inl refl, λ h. refl)
or_tells false b = (λ t. inr t, λ h. elim h [ inl e ↦ absurd (let f : false ≡ true = e in cc) | inr t ↦ t ])

any_tells : {X : Type 0} (p : X → Bool) (xs : List X) → IsTrue (list_any p xs) ↔ ((x : X) × Mem xs x × IsTrue (p x))
any_tells p [] = (λ t. absurd (let f : false ≡ true = t in cc), λ h. absurd h.1)
any_tells p (x ∷ xs) = let h = any_tells p xs in let o = or_tells (p x) (list_any p xs) in (
  λ t. elim (o.0 t) [ inl a ↦ (x, inl refl, a) | inr b ↦ let q = h.0 b in (q.0, inr q.1, q.2) ],
  λ q. o.1 (elim q.1 [ inl e ↦ inl (subst (λ y. IsTrue (p y)) (sym e) q.2) | inr m ↦ inr (h.1 (q.0, m, q.2)) ]),
)

pub names_key_tells : (uris : List (List ℕ)) (key : List ℕ) → IsTrue (names_key uris key) ↔ IsOneOf uris key
names_key_tells uris key = let h = any_tells (λ (uri : List ℕ). bytes_eq key (lookup_key uri)) uris in (
  λ t. let q = h.0 t in record { uri = q.0; one = q.1; same = sym ((bytes_eq-Decides key (lookup_key q.0)).0 q.2) },
  λ o. h.1 (o.uri, o.one, (bytes_eq-Decides key (lookup_key o.uri)).1 (sym o.same)),
)

pub names_any_tells : (uris keys : List (List ℕ)) → IsTrue (names_any uris keys) ↔ NamesOneOf uris keys
names_any_tells uris keys = let h = any_tells (λ (key : List ℕ). names_key uris key) keys in (
  λ t. let q = h.0 t in record { key = q.0; listed = q.1; one = (names_key_tells uris q.0).0 q.2 },
  λ o. h.1 (o.key, o.listed, (names_key_tells uris o.key).1 o.one),
)

-- An authority.
pub authority_names : (uris keys : List (List ℕ)) (w : World) (ca : Cert) → AreNamed w ca keys → IsTrue (names_any uris keys) ↔ NamesOne uris w ca
authority_names uris keys w ca named = let h = names_any_tells uris keys in (
  λ t. let q = h.0 t in record { key = q.key; one = q.one; names = (named q.key).0 q.listed },
  λ o. h.1 (record { key = o.key; listed = (named o.key).1 o.names; one = o.one }),
)

-- A locator.
pub locator_some : (uris : List (List ℕ)) (l : Locator) (o : Option (Vec (List ℕ) Global)) (keys : Vec (List ℕ) Global) → o ≡ Some keys → AreLocatorKeys l o → IsTrue (names_any uris keys.items) ↔ LocatorNames uris l
locator_some uris l o keys e a =
    let r : AreLocatorKeys l (Some keys) = subst (λ (x : Option (Vec (List ℕ) Global)). AreLocatorKeys l x) e a in
    let h = names_any_tells uris keys.items in (
      λ t. let q = h.0 t in
          let m = (mem_map lookup_key r.0 q.key).0 (subst (λ (ks : List (List ℕ)). Mem ks q.key) r.3 q.listed) in
          record { named = r.0; key = r.1; reads = r.2; uri = m.0; one = m.1; forged = subst (λ (k : List ℕ). IsOneOf uris k) (sym m.2) q.one },
      λ n. let u = (one_locator l.text n.named r.0 n.key r.1 n.reads r.2).0 in
          h.1 (record { key = lookup_key n.uri; listed = subst (λ (ks : List (List ℕ)). Mem ks (lookup_key n.uri)) (sym r.3) ((mem_map lookup_key r.0 (lookup_key n.uri)).1 (n.uri, subst (λ (us : List (List ℕ)). Mem us n.uri) u n.one, refl)); one = n.forged }),
    )

pub locator_none : (uris : List (List ℕ)) (l : Locator) (o : Option (Vec (List ℕ) Global)) → o ≡ None → AreLocatorKeys l o → IsTrue false ↔ LocatorNames uris l
locator_none uris l o e a =
    let r : AreLocatorKeys l None = subst (λ (x : Option (Vec (List ℕ) Global)). AreLocatorKeys l x) e a in
    (λ t. absurd (let f : false ≡ true = t in cc), λ n. absurd (r n.named n.key n.reads))

mem_index : {X : Type 0} (xs : List X) (d x : X) → Mem xs x → (k : ℕ) × (k < length xs) × (get_or xs k d ≡ x)
mem_index [] d x m = absurd m
mem_index (y ∷ ys) d x (inl e) = (zero, omega arith, e)
mem_index (y ∷ ys) d x (inr m) = let h = mem_index ys d x m in (suc h.0, (let l : h.0 < length ys = h.1 in omega arith), h.2)

-- All locators.
pub some_names : (uris : List (List ℕ)) (w : World) (k : ℕ) → k < length w.locators → LocatorNames uris (locator_at w k) → SomeLocatorNames uris w
some_names uris w k l n = record { locator = locator_at w k; in_list = mem_get_or w.locators k (record { name = []; text = [] }) l; named = n.named; key = n.key; reads = n.reads; uri = n.uri; one = n.one; forged = n.forged }

pub none_names : (uris : List (List ℕ)) (w : World) → ((k : ℕ) → k < length w.locators → ¬ (LocatorNames uris (locator_at w k))) → ¬ (SomeLocatorNames uris w)
none_names uris w n s =
    let i = mem_index w.locators (record { name = []; text = [] }) s.locator s.in_list in
    n i.0 i.1 (subst (λ (l : Locator). LocatorNames uris l) (sym i.2) (record { named = s.named; key = s.key; reads = s.reads; uri = s.uri; one = s.one; forged = s.forged }))
