-- Accepted chains that begin as one, and the authorities that they go on below.
use Rattle.std.proofs.Common.{◌≡◌, ◌⊎◌, ◌↔◌, ◌≤◌, ℕ, suc, List, [], ◌∷◌, ◌++◌, length, Some, refl, sym, ap, subst, ◌∙◌, inl, inr, arith}
use Rattle.rpki_rules.specs.Certs.{Cert}
use Rattle.rpki_rules.specs.Locators.{https_first}
use Rattle.rpki_rules.specs.Words.{Mem, NoRepeat}
use Rattle.rpki_rules.specs.World.{World}
use Rattle.rpki_rules.specs.Points.{Link, Point, files, IsFirstHeld}
use Rattle.rpki_rules.specs.Chains.{last_of, keys, IsFront, Stands, Descends, CertAt, Accepted}
use Rattle.rpki_rules.proofs.Readings.{one_cert_at, one_point}
use Rattle.rpki_rules.proofs.Fronts.{front_itself, front_up, front_cases, accepted_front}
use Rattle.rpki_walk.specs.Cost.{Chain, above}
use Rattle.rpki_walk.specs.Tallied.{Begins, BeginsAt}

-- The first that is held is what is held there.
at_first : (w : World) (us : List (List ℕ)) (uri octets : List ℕ) → IsFirstHeld w us uri octets → w.object uri ≡ Some octets
at_first w [] uri octets h = absurd h
at_first w (u ∷ us) uri octets (inl h) = subst (λ (k : List ℕ). w.object k ≡ Some octets) h.0 h.1
at_first w (u ∷ us) uri octets (inr h) = at_first w us uri octets h.1

-- Each certificate of a chain stands at its lookup key, and its key is one of the chain's.
link_at : (w : World) (name : List ℕ) (a : Link) (cs : List Link) → Descends w name a cs → (l : Link) → Mem (cs ++ a ∷ []) l → CertAt w l.uri l.cert
link_at w name a [] h l (inl e) = subst (λ (k : Link). CertAt w k.uri k.cert) e (record { octets = h.octets; held = at_first w (https_first h.uris) a.uri h.octets h.held; reads = h.cert })
link_at w name a [] h l (inr m) = absurd m
link_at w name a (c ∷ cs) h l (inl e) = subst (λ (k : Link). CertAt w k.uri k.cert) e h.3.file.reads
link_at w name a (c ∷ cs) h l (inr m) = link_at w name a cs h.0 l m

key_on : (a : Link) (cs : List Link) (l : Link) → Mem (cs ++ a ∷ []) l → Mem (keys a cs) l.cert.tbs.subject_key_identifier
key_on a [] l (inl e) = inl (ap (λ (k : Link). k.cert.tbs.subject_key_identifier) e)
key_on a [] l (inr m) = absurd m
key_on a (c ∷ cs) l (inl e) = inl (ap (λ (k : Link). k.cert.tbs.subject_key_identifier) e)
key_on a (c ∷ cs) l (inr m) = inr (key_on a cs l m)

above_on : (a : Link) (cs : List Link) (uri : List ℕ) (c : Link) → Mem (above a (c ∷ cs)) uri → (l : Link) × Mem (cs ++ a ∷ []) l × (l.uri ≡ uri)
above_on a [] uri c (inl e) = (a, inl refl, e)
above_on a [] uri c (inr m) = absurd m
above_on a (d ∷ cs) uri c (inl e) = (d, inl refl, e)
above_on a (d ∷ cs) uri c (inr m) = let h = above_on a cs uri d m in (h.0, inr h.1, h.2)

-- So no authority is met twice above a chain's last certificate.
pub above_apart : (w : World) (name : List ℕ) (a : Link) (cs : List Link) → Descends w name a cs → NoRepeat (keys a cs) → NoRepeat (above a cs)
above_apart w name a [] d k = tt
above_apart w name a (c ∷ []) d k = ((λ m. absurd m), tt)
above_apart w name a (c ∷ e ∷ cs) d k = (again, above_apart w name a (e ∷ cs) d.0 k.1)
  where
    again : ¬ (Mem (above a (e ∷ cs)) e.uri)
    again m =
        let h = above_on a cs e.uri e m in
        let there : CertAt w e.uri h.0.cert = subst (λ (u : List ℕ). CertAt w u h.0.cert) h.2 (link_at w name a cs d.0.0 h.0 h.1) in
        let same : h.0.cert ≡ e.cert = one_cert_at w e.uri h.0.cert e.cert there d.0.3.file.reads in
        k.1.0 (subst (λ (x : Cert). Mem (keys a cs) x.tbs.subject_key_identifier) same (key_on a cs h.0 h.1))

-- Fronts of one chain that are as long as each other are one.
front_short : (cs ds : List Link) → IsFront cs ds → length cs ≤ length ds
front_short cs [] f = let e = ap length f in omega (arith, e)
front_short cs (d ∷ ds) (inl f) = let e = ap length f in omega (arith, e)
front_short cs (d ∷ ds) (inr f) = let h : length cs ≤ length ds = front_short cs ds f in let e : length (d ∷ ds) ≡ suc (length ds) = refl in omega (arith, h, e)

fronts_same : (xs ys ds : List Link) → length xs ≡ length ys → IsFront xs ds → IsFront ys ds → xs ≡ ys
fronts_same xs ys [] l f g = f ∙ sym g
fronts_same xs ys (d ∷ ds) l (inl f) (inl g) = f ∙ sym g
fronts_same xs ys (d ∷ ds) l (inl f) (inr g) =
    let e : length xs ≡ suc (length ds) = ap length f in let h = front_short ys ds g in absurd (omega (arith, e, h, l))
fronts_same xs ys (d ∷ ds) l (inr f) (inl g) =
    let e : length ys ≡ suc (length ds) = ap length g in let h = front_short xs ds f in absurd (omega (arith, e, h, l))
fronts_same xs ys (d ∷ ds) l (inr f) (inr g) = fronts_same xs ys ds l f g

-- A chain that begins with two certificates at one place begins with one.
pub begins_one : (w : World) (name : List ℕ) (a : Link) (cs : List Link) (k l : Link) (c : Chain) → Begins w name a (k ∷ cs) c → Begins w name a (l ∷ cs) c → k.uri ≡ l.uri
begins_one w name a cs k l c f g =
    let e : k ∷ cs ≡ l ∷ cs = fronts_same (k ∷ cs) (l ∷ cs) c.below refl f.front g.front in
    ap (λ (xs : List Link). (last_of a xs).uri) e

module _ (w : World) (name : List ℕ) (a : Link) (cs : List Link) where
  abbrev pub here : Chain
  here = record { locator = name; anchor = a; below = cs }

  pub begins_longer : (l : Link) (c : Chain) → Begins w name a (l ∷ cs) c → ¬ (here ≡ c)
  begins_longer l c b e =
      let h : length (l ∷ cs) ≤ length c.below = front_short (l ∷ cs) c.below b.front in
      let k : length cs ≡ length c.below = ap (λ (x : Chain). length x.below) e in
      let s : length (l ∷ cs) ≡ suc (length cs) = refl in absurd (omega (arith, h, k, s))

  pub begins_up : (l : Link) (c : Chain) → Begins w name a (l ∷ cs) c → Begins w name a cs c
  begins_up l c b = record { name_is = b.name_is; anchor_is = b.anchor_is; front = front_up l cs c.below b.front; accepted = b.accepted }

  pub accepted_so : (c : Chain) → Begins w name a cs c → Accepted w name a c.below
  accepted_so c b = subst (λ (x : Link). Accepted w name x c.below) b.anchor_is (subst (λ (n : List ℕ). Accepted w n c.anchor c.below) b.name_is b.accepted)

  here_is : (c : Chain) → Begins w name a cs c → c.below ≡ cs → here ≡ c
  here_is c b e = λ i. record { locator = sym b.name_is i; anchor = sym b.anchor_is i; below = sym e i }

  module _ (acc : Accepted w name a cs) where
    pub here_begins : (c : Chain) → here ≡ c → Begins w name a cs c
    here_begins c e = subst (λ (x : Chain). Begins w name a cs x) e (record { name_is = refl; anchor_is = refl; front = front_itself cs; accepted = acc })

    -- Where no point stands at its end, the chain is the only one that begins as it does.
    pub begins_none : ((p : Point) → ¬ (Stands w a cs p)) → (c : Chain) → Begins w name a cs c → here ≡ c
    begins_none n c b = elim (front_cases cs c.below b.front) [
      | inl e ↦ here_is c b e
      | inr g ↦ let h = accepted_front w name a (g.0 ∷ cs) c.below g.1 (accepted_so c b) in absurd (n h.descends.1 h.descends.2)
    ]

    -- Where one stands, the others go on with one of its files.
    pub begins_point : (p : Point) → Stands w a cs p → (c : Chain) → Begins w name a cs c ↔ ((here ≡ c) ⊎ ((uri : List ℕ) × Mem (files (last_of a cs).cert p.manifest) uri × BeginsAt w name a cs uri c))
    begins_point p s c = (
      λ b. elim (front_cases cs c.below b.front) [
        | inl e ↦ inl (here_is c b e)
        | inr g ↦
            let h = accepted_front w name a (g.0 ∷ cs) c.below g.1 (accepted_so c b) in
            let d = h.descends in
            let o = one_point w (last_of a cs).cert d.1 p d.2.point s.point in
            inr (
              g.0.uri,
              subst (λ (r : Point). Mem (files (last_of a cs).cert r.manifest) g.0.uri) o d.3.file.listed,
              (g.0.cert, record { name_is = b.name_is; anchor_is = b.anchor_is; front = g.1; accepted = b.accepted }),
            )
      ],
      λ h. elim h [
        | inl e ↦ here_begins c e
        | inr q ↦ begins_up (record { uri = q.0; cert = q.2.0 }) c q.2.1
      ],
    )
