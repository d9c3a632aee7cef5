-- What is refused and what is diagnosed are the same.
use Rattle.std.proofs.Common.{◌≡◌, ◌⊎◌, ℕ, List, [], ◌∷◌, map, inl, inr, refl, sym, ap, subst}
use Rattle.rpki_rules.specs.rpki_bundle.declared.parts.Locator.{Locator}
use Rattle.rpki_rules.specs.declared.cause.Cause.{Cause}
use Rattle.rpki_rules.specs.declared.cause.Cause.TheVariants as cause
use Rattle.rpki_rules.specs.Words.{Mem}
use Rattle.rpki_rules.specs.World.{World}
use Rattle.rpki_rules.specs.Points.{Link, Anchor, Point}
use Rattle.rpki_rules.specs.Chains.{last_of, places, keys, Holds}
use Rattle.rpki_rules.specs.Lines.{cause_text, Refusal}
use Rattle.rpki_rules.specs.Refused.{PointRefused, FileRefused, IsRefused}
use Rattle.rpki_rules.specs.LocatorReasons.{locator_cause}
use Rattle.rpki_rules.specs.FileReasons.{FileFails, file_cause}
use Rattle.rpki_rules.specs.ReasonLaws.{IsLocatorRefused, IsNamedAlone}
use Rattle.rpki_rules.specs.Diagnoses.{OfLocator, OfPoint, OfFile, DiagnosisValue, cause_of, refusal_in, on_chain, DiagnosesLocator, DiagnosesChain, IsDiagnosis}
use Rattle.rpki_rules.specs.DiagnosisViews.{diagnosis_of}
use Rattle.rpki_rules.specs.DiagnosisLaws.{RefusalsAreDiagnosed}
use Rattle.rpki_rules.proofs.Fronts.{keys_count}
use Rattle.rpki_rules.proofs.Orders.{mem_map}
use Rattle.rpki_rules.proofs.Sets.{one_cause}
use Rattle.rpki_rules.proofs.Cross.{octets_dec}
use Rattle.rpki_rules.proofs.LocatorReasons.{locators_have_reasons}
use Rattle.rpki_rules.proofs.PointReasons.{points_have_reasons}
use Rattle.rpki_rules.proofs.FileReasons.{files_have_reasons}

-- Refusals can be compared.
refusals_same : (x y : Refusal) → (x ≡ y) ⊎ ¬ (x ≡ y)
refusals_same x y = elim (octets_dec x.name y.name) [
  | inl p ↦ elim (octets_dec (cause_text x.cause) (cause_text y.cause)) [
    | inl q ↦ let c = one_cause x.cause y.cause q in inl (λ i. record { name = p i; cause = c i })
    | inr n ↦ inr (λ e. n (ap (λ (r : Refusal). cause_text r.cause) e))
  ]
  | inr n ↦ inr (λ e. n (ap (λ (r : Refusal). r.name) e))
]

found : (xs : List Refusal) (x : Refusal) → ¬ (¬ (Mem xs x)) → Mem xs x
found xs x n = elim (decide xs) [ inl m ↦ m | inr away ↦ absurd (n away) ]
  where
    decide : (ys : List Refusal) → Mem ys x ⊎ ¬ (Mem ys x)
    decide [] = inr (λ m. m)
    decide (y ∷ ys) = elim (refusals_same y x) [
      | inl e ↦ inl (inl e)
      | inr d ↦ elim (decide ys) [ inl m ↦ inl (inr m) | inr away ↦ inr (λ m. elim m [ inl e ↦ d e | inr k ↦ away k ]) ]
    ]

module _ (w : World) (alone : (l : Locator) → Mem w.locators l → IsNamedAlone w l) where
  -- What is diagnosed is refused.
  of_locator : (name : List ℕ) (why : Cause) → IsLocatorRefused w name why → IsRefused w name why
  of_locator name why (inl h) = inl h
  of_locator name why (inr h) = inr (inl h)

  abbrev Refused-in : DiagnosisValue → Type 0
  Refused-in d = IsRefused w d.name (cause_of d.reason)

  locator_refused : (l : Locator) → Mem w.locators l → (d : DiagnosisValue) → DiagnosesLocator w l d → Refused-in d
  locator_refused l m d f =
      let r = of_locator l.name (locator_cause f.reason) ((locators_have_reasons w l (alone l m)).refuses f.reason f.fails) in
      subst (λ (x : DiagnosisValue). IsRefused w x.name (cause_of x.reason)) (sym f.is) r

  chain_refused : (d : DiagnosisValue) → DiagnosesChain w d → Refused-in d
  chain_refused d f = elim f.ends [
    | inl h ↦
        let p = (points_have_reasons w f.name f.anchor f.below f.accepted).refuses h.reason h.fails in
        subst (λ (x : DiagnosisValue). IsRefused w x.name (cause_of x.reason)) (sym h.is) (inr (inr (f.name, f.anchor, f.below, inl p)))
    | inr h ↦
        let n = subst (λ (n : ℕ). FileFails w (Holds f.anchor f.below) (keys f.anchor f.below) n (last_of f.anchor f.below).cert h.point d.name h.reason) (keys_count f.anchor f.below) h.fails in
        let p = (files_have_reasons w f.name f.anchor f.below h.point d.name f.accepted h.stands h.listed).refuses h.reason n in
        let e : file_cause h.reason ≡ cause_of d.reason = sym (ap (λ (x : DiagnosisValue). cause_of x.reason) h.is) in
        inr (inr (f.name, f.anchor, f.below, inr (subst (λ (c : Cause). FileRefused w f.name f.anchor f.below d.name c) e p)))
  ]

  refused_in : (d : DiagnosisValue) → IsDiagnosis w d → Refused-in d
  refused_in d (inl f) = locator_refused f.0 f.1 d f.2
  refused_in d (inr f) = chain_refused d f

  -- What is refused isn't without a diagnosis.
  module _ (name : List ℕ) (why : Cause) (none : (d : DiagnosisValue) → IsDiagnosis w d → ¬ (refusal_in d ≡ record { name = name; cause = why })) where
    no_locator : (l : Locator) → Mem w.locators l → l.name ≡ name → ¬ (IsLocatorRefused w l.name why)
    no_locator l m e h =
        (locators_have_reasons w l (alone l m)).some why h
        (λ r q f. none (on_chain (record { locator = l.name; chain = [] }) l.name (OfLocator r)) (inl (l, m, record { reason = r; fails = f; is = refl })) (λ i. record { name = e i; cause = q i }))

    no_point : (l : List ℕ) (a : Link) (cs : List Link) → ¬ ((why ≡ cause.Point) × PointRefused w l a cs name)
    no_point l a cs h =
        let p = h.1 in
        (points_have_reasons w l a cs p.accepted).some why (h.0, record { accepted = p.accepted; place = refl; none = p.none })
        (λ r q f.
        let path = on_chain (record { locator = l; chain = places a cs }) (last_of a cs).uri (OfPoint r) in
        none path (inr (record { name = l; anchor = a; below = cs; accepted = p.accepted; ends = inl (record { reason = r; fails = f; is = refl }) })) (λ i. record { name = p.place i; cause = q i }))

    no_file : (l : List ℕ) (a : Link) (cs : List Link) → ¬ (FileRefused w l a cs name why)
    no_file l a cs h =
        (files_have_reasons w l a cs h.point name h.accepted h.stands h.listed).some why h
        (λ r q f.
        let n = subst (λ (n : ℕ). FileFails w (Holds a cs) (keys a cs) n (last_of a cs).cert h.point name r) (sym (keys_count a cs)) f in
        none (on_chain (record { locator = l; chain = places a cs }) name (OfFile r))
        (inr (record { name = l; anchor = a; below = cs; accepted = h.accepted; ends = inr (record { point = h.point; stands = h.stands; listed = h.listed; reason = r; fails = n; is = refl }) }))
        (λ i. record { name = name; cause = q i }))

    not_refused : ¬ (IsRefused w name why)
    not_refused (inl h) = let r = h.1 in no_locator r.locator r.in_list r.named (inl (h.0, record { locator = r.locator; in_list = r.in_list; named = refl; none = r.none }))
    not_refused (inr (inl h)) =
        let r = h.1 in
        no_locator r.locator r.in_list r.named
        (inr (h.0, record { locator = r.locator; in_list = r.in_list; named = refl; uris = r.uris; key = r.key; reads = r.reads; none = λ a k. r.none a (subst (λ (n : List ℕ). Anchor w n a) r.named k) }))
    not_refused (inr (inr h)) = elim h.3 [ inl p ↦ no_point h.0 h.1 h.2 p | inr f ↦ no_file h.0 h.1 h.2 f ]

pub refusals_are_diagnosed : RefusalsAreDiagnosed
refusals_are_diagnosed w alone r report ds are x = (
  λ m. found (map refusal_in (map diagnosis_of ds)) x (λ no.
      not_refused w alone x.name x.cause
      (λ d i e. no ((mem_map refusal_in (map diagnosis_of ds) x).1 (d, (are.exact d).1 i, e)))
      ((report.refusals_are.exact x).0 m)),
  λ m.
      let h = (mem_map refusal_in (map diagnosis_of ds) x).0 m in
      let i = refused_in w alone h.0 ((are.exact h.0).0 h.1) in
      (report.refusals_are.exact x).1 (subst (λ (y : Refusal). IsRefused w y.name y.cause) h.2 i),
)
