-- A world has one diagnosis at most of what has a name on a chain.
use Rattle.std.proofs.Common.{◌≡◌, ◌↔◌, ℕ, List, [], ◌∷◌, ◌++◌, map, length, refl, sym, ap, subst, ◌∙◌, inl, inr}
use Rattle.std.specs.declared.cmp.Ordering.TheVariants.{Equal}
use Rattle.std.specs.Ordering.{nat_cmp}
use Rattle.std.specs.Cmp.Lexicographic.{slice_cmp}
use Rattle.std.specs.List.Sorted.{IsStrictlySortedBy}
use Rattle.rpki_rules.specs.resources_chain.Sets.{Run}
use Rattle.rpki_rules.specs.rpki_bundle.declared.parts.Locator.{Locator}
use Rattle.rpki_rules.specs.Certs.{Cert}
use Rattle.rpki_rules.specs.Objects.{Object, Manifest}
use Rattle.rpki_rules.specs.Locators.{https_first}
use Rattle.rpki_rules.specs.Words.{Mem, NoRepeat}
use Rattle.rpki_rules.specs.Kinds.{Kind}
use Rattle.rpki_rules.specs.World.{World}
use Rattle.rpki_rules.specs.Points.{Link, Anchor, Point}
use Rattle.rpki_rules.specs.Chains.{last_of, places, keys, Holds, CertAt, Descends}
use Rattle.rpki_rules.specs.Attests.{Payload}
use Rattle.rpki_rules.specs.Views.{PathValue}
use Rattle.rpki_rules.specs.LocatorReasons.{LocatorFails}
use Rattle.rpki_rules.specs.PointReasons.{ListTest, ListAuthority, ListThisUpdate, ListNextUpdate, NotOnList, ListSignature, ManifestClaim, HasManifest, PointReason, NoManifest, BadManifest, ManifestFails, BadList, ListFails, PointFails}
use Rattle.rpki_rules.specs.FileReasons.{CerTest, CerRevocation, CerCert, CerClaim, ObjectTest, ObjectRevocation, ObjectCert, ObjectContent, ObjectClaim, PrefixHeld, CustomerHeld, HasPayload, FileReason, BadCer, CerFails, Loop, Depth, BadObject, ObjectFails, FileFails}
use Rattle.rpki_rules.specs.Diagnoses.{OfLocator, OfPoint, OfFile, DiagnosisValue, diagnosis_cmp, ListTells, PointTells, CerTells, ObjectTells, FileTells, on_chain, DiagnosesLocator, DiagnosesPoint, DiagnosesFile, DiagnosesEnd, DiagnosesChain, IsDiagnosis, IsTold}
use Rattle.rpki_rules.specs.declared.reason.diagnosis.Diagnosis.{Diagnosis}
use Rattle.rpki_rules.specs.DiagnosisViews.{diagnosis_of, unheld_of, diagnoses_cmp, AreDiagnoses}
use Rattle.rpki_rules.proofs.Readings.{first_held, one_cert_at, one_point}
use Rattle.rpki_rules.proofs.Groups.{not_empty}
use Rattle.rpki_rules.proofs.WitnessNames.{some_places}
use Rattle.rpki_rules.proofs.Orders.{mem_map, sorted_map}
use Rattle.rpki_rules.proofs.Sets.{then_equal, octets_equal, list_equal}
use Rattle.rpki_rules.proofs.LocatorReasons.{one_reason as one_locator_reason}
use Rattle.rpki_rules.proofs.PointReasons.{one_reason as one_point_reason, refutes}
use Rattle.rpki_rules.proofs.FileReasons.{one_reason as one_file_reason}
use Rattle.resources.proofs.of_resources_chain.SetLemmas.{one_list_of}

-- Chains by their places

one_end : (xs ys : List (List ℕ)) (x y : List ℕ) → xs ++ x ∷ [] ≡ ys ++ y ∷ [] → (xs ≡ ys) × (x ≡ y)
one_end [] [] x y e = let q : x ≡ y = cc in (refl, q)
one_end [] (z ∷ ys) x y e = let n : ys ++ y ∷ [] ≡ [] = cc in absurd (not_empty ys y n)
one_end (z ∷ xs) [] x y e = let n : xs ++ x ∷ [] ≡ [] = cc in absurd (not_empty xs x n)
one_end (z ∷ xs) (v ∷ ys) x y e =
    let h : z ≡ v = cc in
    let t : xs ++ x ∷ [] ≡ ys ++ y ∷ [] = cc in
    let r = one_end xs ys x y t in
    (λ i. h i ∷ r.0 i, r.1)

anchor_at : (w : World) (name : List ℕ) (a : Link) → Anchor w name a → CertAt w a.uri a.cert
anchor_at w name a h = record { octets = h.octets; held = first_held w (https_first h.uris) a.uri h.octets h.held; reads = h.cert }

same_link : (w : World) (c d : Link) → CertAt w c.uri c.cert → CertAt w d.uri d.cert → c.uri ≡ d.uri → c ≡ d
same_link w c d s t e =
    let f = one_cert_at w d.uri c.cert d.cert (subst (λ (u : List ℕ). CertAt w u c.cert) e s) t in
    λ i. record { uri = e i; cert = f i }

-- Chains with the same places are one.
pub one_chain : (w : World) (n m : List ℕ) (a b : Link) (cs ds : List Link) → Descends w n a cs → Descends w m b ds → places a cs ≡ places b ds → (a ≡ b) × (cs ≡ ds)
one_chain w n m a b [] [] g h e =
    let q : a.uri ≡ b.uri = cc in
    (same_link w a b (anchor_at w n a g) (anchor_at w m b h) q, refl)
one_chain w n m a b [] (d ∷ ds) g h e = let r = one_end [] (places b ds) a.uri d.uri e in absurd (some_places b ds (sym r.0))
one_chain w n m a b (c ∷ cs) [] g h e = let r = one_end (places a cs) [] c.uri b.uri e in absurd (some_places a cs r.0)
one_chain w n m a b (c ∷ cs) (d ∷ ds) g h e =
    let r = one_end (places a cs) (places b ds) c.uri d.uri e in
    let k = one_chain w n m a b cs ds g.0 h.0 r.0 in
    let l = same_link w c d g.3.file.reads h.3.file.reads r.1 in
    (k.0, λ i. l i ∷ k.1 i)

-- The numbers that a reason tells are one list.
module _ (w : World) (held : Kind → ℕ → Type 0) (ca : Cert) where
  list_tells_one : (o : Object) (m : Manifest) → HasManifest w ca o m → (t : ListTest) (x y : List Run) → ListTells w held ca t x → ListTells w held ca t y → x ≡ y
  list_tells_one o m h ListAuthority x y e f = e ∙ sym f
  list_tells_one o m h ListThisUpdate x y e f = e ∙ sym f
  list_tells_one o m h ListNextUpdate x y e f = e ∙ sym f
  list_tells_one o m h NotOnList x y e f = e ∙ sym f
  list_tells_one o m h ListSignature x y e f = e ∙ sym f
  list_tells_one o m h (ManifestClaim k) x y e f = one_list_of (e o m h).outside (f o m h).outside

  pub point_tells_one : (r : PointReason) → PointFails w held ca r → (x y : List Run) → PointTells w held ca r x → PointTells w held ca r y → x ≡ y
  point_tells_one NoManifest h x y e f = e ∙ sym f
  point_tells_one BadManifest h x y e f = e ∙ sym f
  point_tells_one (ManifestFails t) h x y e f = e ∙ sym f
  point_tells_one BadList h x y e f = e ∙ sym f
  point_tells_one (ListFails t) h x y e f = list_tells_one h.0.object h.0.manifest h.1.has t x y e f

  module _ (uri : List ℕ) where
    cer_tells_one : (c : Cert) → CertAt w uri c → (t : CerTest) (x y : List Run) → CerTells w held uri t x → CerTells w held uri t y → x ≡ y
    cer_tells_one c h (CerRevocation t) x y e f = e ∙ sym f
    cer_tells_one c h (CerCert t) x y e f = e ∙ sym f
    cer_tells_one c h (CerClaim k) x y e f = one_list_of (e c h).outside (f c h).outside

    object_tells_one : (o : Object) (z : Payload) → HasPayload w uri o z → (t : ObjectTest) (x y : List Run) → ObjectTells w held uri t x → ObjectTells w held uri t y → x ≡ y
    object_tells_one o z h (ObjectRevocation t) x y e f = e ∙ sym f
    object_tells_one o z h (ObjectCert t) x y e f = e ∙ sym f
    object_tells_one o z h (ObjectContent t) x y e f = e ∙ sym f
    object_tells_one o z h (ObjectClaim k) x y e f = one_list_of (e o z h).outside (f o z h).outside
    object_tells_one o z h (PrefixHeld k a) x y e f = e ∙ sym f
    object_tells_one o z h (CustomerHeld n) x y e f = e ∙ sym f

    pub file_tells_one : (on : List (List ℕ)) (count : ℕ) (p : Point) (r : FileReason) → FileFails w held on count ca p uri r → (x y : List Run) → FileTells w held uri r x → FileTells w held uri r y → x ≡ y
    file_tells_one on count p BadCer h x y e f = e ∙ sym f
    file_tells_one on count p (CerFails t) h x y e f = cer_tells_one h.0 h.1.reads t x y e f
    file_tells_one on count p Loop h x y e f = e ∙ sym f
    file_tells_one on count p Depth h x y e f = e ∙ sym f
    file_tells_one on count p BadObject h x y e f = e ∙ sym f
    file_tells_one on count p (ObjectFails t) h x y e f = object_tells_one h.0 h.1 h.2 t x y e f

  -- At the end of one chain there is one diagnosis of a name.
  module _ (on : List (List ℕ)) (path : PathValue) (uri : List ℕ) (d e : DiagnosisValue) where
    point_end : DiagnosesPoint w held path uri ca d → DiagnosesPoint w held path uri ca e → d ≡ e
    point_end f g =
        let q = one_point_reason w ca held f.reason g.reason f.fails g.fails in
        let same : on_chain path uri (OfPoint f.reason) ≡ on_chain path uri (OfPoint g.reason) = λ i. on_chain path uri (OfPoint (q i)) in
        f.is ∙ (same ∙ sym g.is)

    file_end : d.name ≡ e.name → DiagnosesFile w held on path ca d → DiagnosesFile w held on path ca e → d ≡ e
    file_end named f g =
        let p = one_point w ca f.point g.point f.stands.point g.stands.point in
        let here = subst (λ (v : Point). FileFails w held on (length on) ca v d.name f.reason) p f.fails in
        let there = subst (λ (u : List ℕ). FileFails w held on (length on) ca g.point u f.reason) named here in
        let q = one_file_reason w held ca g.point e.name on (length on) f.reason g.reason there g.fails in
        let same : on_chain path d.name (OfFile f.reason) ≡ on_chain path e.name (OfFile g.reason) = λ i. on_chain path (named i) (OfFile (q i)) in
        f.is ∙ (same ∙ sym g.is)

    one_in_end : d.name ≡ e.name → DiagnosesEnd w held on path uri ca d → DiagnosesEnd w held on path uri ca e → d ≡ e
    one_in_end named (inl f) (inl g) = point_end f g
    one_in_end named (inl f) (inr g) = absurd (refutes w ca held f.reason f.fails g.point g.stands)
    one_in_end named (inr f) (inl g) = absurd (refutes w ca held g.reason g.fails f.point f.stands)
    one_in_end named (inr f) (inr g) = file_end named f g

  end_path : (on : List (List ℕ)) (path : PathValue) (uri : List ℕ) (d : DiagnosisValue) → DiagnosesEnd w held on path uri ca d → (d.locator ≡ path.locator) × (d.chain ≡ path.chain)
  end_path on path uri d (inl f) = (ap (λ (x : DiagnosisValue). x.locator) f.is, ap (λ (x : DiagnosisValue). x.chain) f.is)
  end_path on path uri d (inr f) = (ap (λ (x : DiagnosisValue). x.locator) f.is, ap (λ (x : DiagnosisValue). x.chain) f.is)

abbrev EndOf : World → List ℕ → Link → List Link → DiagnosisValue → Type 0
EndOf w n a cs d = DiagnosesEnd w (Holds a cs) (keys a cs) (record { locator = n; chain = places a cs }) (last_of a cs).uri (last_of a cs).cert d

chain_path : (w : World) (d : DiagnosisValue) → (f : DiagnosesChain w d) → (d.locator ≡ f.name) × (d.chain ≡ places f.anchor f.below)
chain_path w d f =
    end_path w (Holds f.anchor f.below) (last_of f.anchor f.below).cert (keys f.anchor f.below) (record { locator = f.name; chain = places f.anchor f.below }) (last_of f.anchor f.below).uri d f.ends

one_on_chain : (w : World) (d e : DiagnosisValue) → d.name ≡ e.name → d.locator ≡ e.locator → d.chain ≡ e.chain → DiagnosesChain w d → DiagnosesChain w e → d ≡ e
one_on_chain w d e named located chained f g =
    let p = chain_path w d f in let q = chain_path w e g in
    let n : f.name ≡ g.name = sym p.0 ∙ (located ∙ q.0) in
    let k = one_chain w f.name g.name f.anchor g.anchor f.below g.below f.accepted.descends g.accepted.descends (sym p.1 ∙ (chained ∙ q.1)) in
    let x = subst (λ (m : List ℕ). EndOf w m f.anchor f.below d) n f.ends in
    let y = subst (λ (b : Link). EndOf w g.name b f.below d) k.0 x in
    let z = subst (λ (ds : List Link). EndOf w g.name g.anchor ds d) k.1 y in
    one_in_end w (Holds g.anchor g.below) (last_of g.anchor g.below).cert (keys g.anchor g.below) (record { locator = g.name; chain = places g.anchor g.below }) (last_of g.anchor g.below).uri d e named z g.ends

-- Locators of a list whose names differ are one by their names.
names_alone : (ls : List Locator) → NoRepeat (map (λ (l : Locator). l.name) ls) → (l k : Locator) → Mem ls l → Mem ls k → l.name ≡ k.name → l ≡ k
names_alone [] n l k m o e = absurd m
names_alone (x ∷ ls) n l k (inl p) (inl q) e = sym p ∙ q
names_alone (x ∷ ls) n l k (inl p) (inr o) e =
    absurd (n.0 ((mem_map (λ (y : Locator). y.name) ls x.name).1 (k, o, sym e ∙ ap (λ (y : Locator). y.name) (sym p))))
names_alone (x ∷ ls) n l k (inr m) (inl q) e =
    absurd (n.0 ((mem_map (λ (y : Locator). y.name) ls x.name).1 (l, m, e ∙ ap (λ (y : Locator). y.name) (sym q))))
names_alone (x ∷ ls) n l k (inr m) (inr o) e = names_alone ls n.1 l k m o e

module _ (w : World) (apart : NoRepeat (map (λ (l : Locator). l.name) w.locators)) where
  one_of_locators : (d e : DiagnosisValue) → d.name ≡ e.name → (l k : Locator) → Mem w.locators l → Mem w.locators k → DiagnosesLocator w l d → DiagnosesLocator w k e → d ≡ e
  one_of_locators d e named l k m o f g =
      let p : d.name ≡ l.name = ap (λ (x : DiagnosisValue). x.name) f.is in
      let q : e.name ≡ k.name = ap (λ (x : DiagnosisValue). x.name) g.is in
      let s = names_alone w.locators apart l k m o (sym p ∙ (named ∙ q)) in
      let r = one_locator_reason w k f.reason g.reason (subst (λ (x : Locator). LocatorFails w x f.reason) s f.fails) g.fails in
      let same : on_chain (record { locator = l.name; chain = [] }) l.name (OfLocator f.reason) ≡ on_chain (record { locator = k.name; chain = [] }) k.name (OfLocator g.reason) =
      λ i. on_chain (record { locator = (s i).name; chain = [] }) (s i).name (OfLocator (r i)) in
      f.is ∙ (same ∙ sym g.is)

  no_chain : (d e : DiagnosisValue) → d.chain ≡ e.chain → (l : Locator) → DiagnosesLocator w l d → ¬ (DiagnosesChain w e)
  no_chain d e chained l f g =
      let p : d.chain ≡ [] = ap (λ (x : DiagnosisValue). x.chain) f.is in
      some_places g.anchor g.below (sym (chain_path w e g).1 ∙ (sym chained ∙ p))

  pub one_diagnosis : (d e : DiagnosisValue) → IsDiagnosis w d → IsDiagnosis w e → diagnosis_cmp d e ≡ Equal → d ≡ e
  one_diagnosis d e f g c = go f g
    where
      parts : (d.name ≡ e.name) × (d.locator ≡ e.locator) × (d.chain ≡ e.chain)
      parts =
          let a = then_equal _ _ c in let b = then_equal _ _ a.1 in
          (octets_equal d.name e.name a.0, octets_equal d.locator e.locator b.0, list_equal (slice_cmp nat_cmp) octets_equal d.chain e.chain b.1)

      go : IsDiagnosis w d → IsDiagnosis w e → d ≡ e
      go (inl f) (inl g) = one_of_locators d e parts.0 f.0 g.0 f.1 g.1 f.2 g.2
      go (inl f) (inr g) = absurd (no_chain d e parts.2 f.0 f.2 g)
      go (inr f) (inl g) = absurd (no_chain e d (sym parts.2) g.0 g.2 f)
      go (inr f) (inr g) = one_on_chain w d e parts.0 parts.1 parts.2 f g

  -- A list that has just the diagnoses of the world, sorted without repeats.
  pub sorted_diagnoses : (old new : List Diagnosis) → ((d : DiagnosisValue) → Mem (map diagnosis_of old) d ↔ IsDiagnosis w d) → ((x : Diagnosis) → Mem old x → IsTold w (diagnosis_of x) (unheld_of x)) → IsStrictlySortedBy diagnoses_cmp new → ((x : Diagnosis) → Mem new x → Mem old x) → ((x : Diagnosis) → Mem old x → (y : Diagnosis) × Mem new y × (diagnoses_cmp x y ≡ Equal)) → AreDiagnoses w new
  sorted_diagnoses old new exact told s from kept = record {
    ascend = sorted_map diagnosis_of diagnoses_cmp diagnosis_cmp (λ x y. refl) new s;
    exact = λ d. (
      λ m. let h = (mem_map diagnosis_of new d).0 m in (exact d).0 ((mem_map diagnosis_of old d).1 (h.0, from h.0 h.1, h.2)),
      λ i.
          let h = (mem_map diagnosis_of old d).0 ((exact d).1 i) in
          let k = kept h.0 h.1 in
          let x = (exact (diagnosis_of h.0)).0 ((mem_map diagnosis_of old (diagnosis_of h.0)).1 (h.0, h.1, refl)) in
          let y = (exact (diagnosis_of k.0)).0 ((mem_map diagnosis_of old (diagnosis_of k.0)).1 (k.0, from k.0 k.1, refl)) in
          let e = one_diagnosis (diagnosis_of h.0) (diagnosis_of k.0) x y k.2 in
          (mem_map diagnosis_of new d).1 (k.0, k.1, sym e ∙ h.2),
    );
    told = λ x m. told x (from x m);
  }
