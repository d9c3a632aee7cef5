-- What authorities name.
use Rattle.std.proofs.Common.{◌≡◌, ◌⊎◌, inl, inr, ℕ, List, [], ◌∷◌, ◌++◌, Vec, Global, Some, None, Result, Ok, Err, sym, ap, subst, ◌∙◌}
use Rattle.std.specs.Prelude.{◌↔◌, IfOk}
use Rattle.rpki_standing.specs.objects_valid.Kinds.{KindValue}
use Rattle.rpki_rules.specs.Certs.{Cert, Digests, Verdicts}
use Rattle.rpki_standing.specs.rpki_bundle.Bundle.{BundleValue}
use Rattle.rpki_rules.specs.Objects.{Manifest, Object}
use Rattle.rpki_rules.specs.Points.{files}
use Rattle.rpki_rules.specs.Reach.{NamesFile}
use Rattle.rpki_rules.specs.Words.{Mem}
use Rattle.rpki_rules.specs.World.{World, world_of}
use Rattle.rpki_standing.specs.certs_basics.Uris.{lookup_key}
use Rattle.rpki_walk.specs.Naming.{AreNamed}
use Rattle.rpki_rules.specs.PointReasons.{HasManifest}
use Rattle.rpki_rules.proofs.PointReasons.{same_manifest}

module _ (w : World) (ca : Cert) where
  -- The manifest that an authority's named file is listed by.
  read_of : (key : List ℕ) (n : NamesFile w ca key) → HasManifest w ca n.object n.content
  read_of key n = record { octets = n.octets; has = record { uri = n.uri; uri_is = n.uri_is; held = n.held }; reads = n.reads }

  -- A manifest reads there.
  pub listed_by : (k : KindValue Manifest) (keys : List (List ℕ)) → HasManifest w ca k.signed k.content → keys ≡ files ca k.content → (key : List ℕ) → Mem keys key ↔ NamesFile w ca key
  listed_by k keys p e key = (
    λ m. record { uri = p.has.uri; uri_is = p.has.uri_is; octets = p.octets; held = p.has.held; object = k.signed; content = k.content; reads = p.reads; listed = subst (λ (ks : List (List ℕ)). Mem ks key) e m },
    λ n. subst (λ (ks : List (List ℕ)). Mem ks key) (sym e) (subst (λ (m : Manifest). Mem (files ca m) key) (same_manifest w ca n.object k.signed n.content k.content (read_of key n) p).1 n.listed),
  )

  -- None does.
  pub listed_none : (keys : List (List ℕ)) → ((o : Object) (m : Manifest) → ¬ (HasManifest w ca o m)) → keys ≡ [] → (key : List ℕ) → Mem keys key ↔ NamesFile w ca key
  listed_none keys n e key = (
    λ m. let wrong : ⊥ = subst (λ (ks : List (List ℕ)). Mem ks key) e m in absurd wrong,
    λ f. absurd (n f.object f.content (read_of key f)),
  )

  -- The authority has a manifest URI.
  mem_push : (xs : List (List ℕ)) (y x : List ℕ) → Mem (xs ++ y ∷ []) x ↔ (Mem xs x ⊎ (y ≡ x))
  mem_push [] y x = (λ m. elim m [ inl e ↦ inr e | inr n ↦ absurd n ], λ m. elim m [ inl n ↦ absurd n | inr e ↦ inl e ])
  mem_push (z ∷ xs) y x =
      let h = mem_push xs y x in (
        λ m. elim m [ inl e ↦ inl (inl e) | inr n ↦ elim (h.0 n) [ inl k ↦ inl (inr k) | inr e ↦ inr e ] ],
        λ m. elim m [ inl n ↦ elim n [ inl e ↦ inl e | inr k ↦ inr (h.1 (inl k)) ] | inr e ↦ inr (h.1 (inr e)) ],
      )

  pub named_more : (keys all : List (List ℕ)) (uri one : List ℕ) → ca.tbs.access.manifest ≡ Some uri → one ≡ lookup_key uri → all ≡ keys ++ one ∷ [] → ((key : List ℕ) → Mem keys key ↔ NamesFile w ca key) → AreNamed w ca all
  named_more keys all uri one u o e listed key = (
    λ m. elim ((mem_push keys one key).0 (subst (λ (ks : List (List ℕ)). Mem ks key) e m)) [
      | inl k ↦ inr ((listed key).0 k)
      | inr k ↦ inl (uri, u, sym o ∙ k)
    ],
    λ n. subst (λ (ks : List (List ℕ)). Mem ks key) (sym e) ((mem_push keys one key).1 (elim n [
      | inl k ↦
          let s : Some k.0 ≡ Some uri = sym k.1 ∙ u in
          let same : k.0 ≡ uri = cc in
          inr (o ∙ (ap lookup_key (sym same) ∙ k.2))
      | inr f ↦ inl ((listed key).1 f)
    ])),
  )

  -- It has none.
  pub named_none : (keys : List (List ℕ)) → ca.tbs.access.manifest ≡ None → ((key : List ℕ) → Mem keys key ↔ NamesFile w ca key) → AreNamed w ca keys
  named_none keys u listed key = (
    λ m. inr ((listed key).0 m),
    λ n. elim n [
      | inl k ↦ let wrong : None ≡ Some k.0 = sym u ∙ k.1 in absurd cc
      | inr f ↦ (listed key).1 f
    ],
  )

pub listed_told : {E : Type 0} (b : BundleValue) (ca : Cert) (k : KindValue Manifest) (m : Manifest) (r : Result (Vec (List ℕ) Global) E) → m ≡ k.content → ((d : Digests) (v : Verdicts) → HasManifest (world_of d v b) ca k.signed k.content)
    → IfOk r (λ keys. keys.items ≡ files ca m) → IfOk r (λ keys. (d : Digests) (v : Verdicts) (key : List ℕ) → Mem keys.items key ↔ NamesFile (world_of d v b) ca key)
listed_told b ca k m (Ok keys) e reads is = λ d v. listed_by (world_of d v b) ca k keys.items (reads d v) (is ∙ ap (files ca) e)
listed_told b ca k m (Err x) e reads is = tt

pub named_told : {E : Type 0} (b : BundleValue) (d : Digests) (v : Verdicts) (ca : Cert) (r : Result (Vec (List ℕ) Global) E)
    → IfOk r (λ keys. (d : Digests) (v : Verdicts) → AreNamed (world_of d v b) ca keys.items) → IfOk r (λ keys. AreNamed (world_of d v b) ca keys.items)
named_told b d v ca (Ok keys) h = h d v
named_told b d v ca (Err x) h = tt
