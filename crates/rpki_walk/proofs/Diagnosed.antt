-- What is found to be wrong is what is wrong.
use Rattle.std.proofs.Common.{◌≡◌, ℕ, ◌+◌, ◌<◌, ◌⊎◌, ◌↔◌, List, [], ◌∷◌, ◌++◌, map, length, take, get_or, Option, Some, None, Result, Ok, Err, OnOk, IfSome, refl, sym, ap, subst, ◌∙◌, inl, inr}
use Rattle.rpki_walk.specs.resources_chain.Sets.{Run}
use Rattle.rpki_walk.specs.rpki_bundle.declared.parts.Locator.{Locator}
use Rattle.rpki_rules.specs.Certs.{Cert}
use Rattle.rpki_rules.specs.Words.{Mem, NoRepeat}
use Rattle.rpki_rules.specs.Kinds.{Kind}
use Rattle.rpki_rules.specs.World.{World}
use Rattle.rpki_rules.specs.Points.{Point, files}
use Rattle.rpki_rules.specs.Chains.{StandsIn}
use Rattle.rpki_rules.specs.Views.{PathValue}
use Rattle.rpki_rules.specs.declared.reason.locators.LocatorReason.{LocatorReason}
use Rattle.rpki_rules.specs.LocatorReasons.{LocatorFails}
use Rattle.rpki_rules.specs.PointReasons.{PointReason, PointFails}
use Rattle.rpki_rules.specs.FileReasons.{FileReason, FileFails}
use Rattle.rpki_rules.specs.Diagnoses.{OfLocator, OfPoint, OfFile, DiagnosisValue, ListTells, PointTells, CerTells, ObjectTells, FileTells, on_chain, DiagnosesLocator, DiagnosesFile, DiagnosesEnd, DiagnosesChain, TellsEnd, TellsChain, IsDiagnosis, IsTold}
use Rattle.rpki_rules.specs.ReasonViews.{list_test_of, point_reason_of, cer_test_of, object_test_of, file_reason_of, ListUnheld, PointUnheld, CerUnheld, ObjectUnheld, FileUnheld}
use Rattle.rpki_rules.specs.DiagnosisViews.{list_numbers, point_numbers, cer_numbers, object_numbers, file_numbers, diagnosis_of, unheld_of, diagnoses_cmp, AreDiagnoses}
use Rattle.rpki_rules.specs.declared.reason.points.ListTest.{ListTest as CodeListTest}
use Rattle.rpki_rules.specs.declared.reason.points.ListTest.TheVariants as crl
use Rattle.rpki_rules.specs.declared.reason.points.PointReason.{PointReason as CodePointReason}
use Rattle.rpki_rules.specs.declared.reason.points.PointReason.TheVariants as point
use Rattle.rpki_rules.specs.declared.reason.files.CerTest.{CerTest as CodeCerTest}
use Rattle.rpki_rules.specs.declared.reason.files.CerTest.TheVariants as cer
use Rattle.rpki_rules.specs.declared.reason.files.ObjectTest.{ObjectTest as CodeObjectTest}
use Rattle.rpki_rules.specs.declared.reason.files.ObjectTest.TheVariants as object
use Rattle.rpki_rules.specs.declared.reason.files.FileReason.{FileReason as CodeFileReason}
use Rattle.rpki_rules.specs.declared.reason.files.FileReason.TheVariants as file
use Rattle.rpki_rules.specs.declared.reason.diagnosis.Diagnosis.{Diagnosis}
use Rattle.std.specs.declared.cmp.Ordering.TheVariants.{Equal}
use Rattle.std.specs.List.Sorted.{IsStrictlySortedBy}
use Rattle.rpki_rules.proofs.Readings.{one_point}
use Rattle.rpki_rules.proofs.Orders.{mem_map}
use Rattle.rpki_rules.proofs.LocatorReasons.{one_reason as one_locator_reason}
use Rattle.rpki_rules.proofs.PointReasons.{one_reason as one_point_reason, refutes}
use Rattle.rpki_rules.proofs.FileReasons.{one_reason as one_file_reason}
use Rattle.rpki_rules.proofs.Diagnoses.{point_tells_one, file_tells_one, sorted_diagnoses}
use Rattle.rpki_walk.specs.Asked.{HasLocatorReason, IsJudged, HasFileReason}
use Rattle.rpki_walk.specs.Diagnosed.{DiagnosesAt, ToldValue, told_of, TellsAt, IsOfLocator, IsOnly, Adds, has_diagnosed, IsDiagnosed}
use Rattle.rpki_walk.specs.declared.diagnosis.judged.Judged.{Judged}
use Rattle.rpki_walk.specs.Facts.{Refuses, Shows, Originates, Provides, Reaches, Chains, Diagnoses, Unheld, ReachedBy, Gains, IsFinding}
use Rattle.rpki_walk.proofs.Mems.{any_more, mem_push}
use Rattle.rpki_walk.proofs.Chained.{seen_more}

abbrev pub told_at : DiagnosisValue → List Run → ToldValue
told_at d numbers = record { diagnosis = d; numbers = numbers }

-- Of a claim a reason tells the numbers that aren't held, and of another test none.
module _ (w : World) (held : Kind → ℕ → Type 0) where
  list_told : (ca : Cert) (t : CodeListTest) → ListUnheld w held ca t → ListTells w held ca (list_test_of t) (list_numbers t)
  list_told ca crl.ListAuthority u = refl
  list_told ca crl.ListThisUpdate u = refl
  list_told ca crl.ListNextUpdate u = refl
  list_told ca crl.NotOnList u = refl
  list_told ca crl.ListSignature u = refl
  list_told ca (crl.ManifestClaim x) u = u

  point_told : (ca : Cert) (r : CodePointReason) → PointUnheld w held ca r → PointTells w held ca (point_reason_of r) (point_numbers r)
  point_told ca point.NoManifest u = refl
  point_told ca point.BadManifest u = refl
  point_told ca (point.ManifestFails t) u = refl
  point_told ca point.BadList u = refl
  point_told ca (point.ListFails t) u = list_told ca t u

  cer_told : (uri : List ℕ) (t : CodeCerTest) → CerUnheld w held uri t → CerTells w held uri (cer_test_of t) (cer_numbers t)
  cer_told uri (cer.CerRevocation t) u = refl
  cer_told uri (cer.CerCert t) u = refl
  cer_told uri (cer.CerClaim x) u = u

  object_told : (uri : List ℕ) (t : CodeObjectTest) → ObjectUnheld w held uri t → ObjectTells w held uri (object_test_of t) (object_numbers t)
  object_told uri (object.ObjectRevocation t) u = refl
  object_told uri (object.ObjectCert t) u = refl
  object_told uri (object.ObjectContent t) u = refl
  object_told uri (object.ObjectClaim x) u = u
  object_told uri (object.PrefixHeld family a) u = refl
  object_told uri (object.CustomerHeld asn) u = refl

  file_told : (uri : List ℕ) (r : CodeFileReason) → FileUnheld w held uri r → FileTells w held uri (file_reason_of r) (file_numbers r)
  file_told uri file.BadCer u = refl
  file_told uri (file.CerFails t) u = cer_told uri t u
  file_told uri file.Loop u = refl
  file_told uri file.Depth u = refl
  file_told uri file.BadObject u = refl
  file_told uri (file.ObjectFails t) u = object_told uri t u

  module _ (on : List (List ℕ)) (path : PathValue) (ca : Cert) where
    module _ (p : Point) (uri : List ℕ) where
      -- A file has one diagnosis at most.
      file_one : (r : FileReason) → FileFails w held on (length on) ca p uri r → (d : DiagnosisValue) → (a : DiagnosesAt w held on path ca p uri d) → a.reason ≡ r
      file_one r h d a = one_file_reason w held ca p uri on (length on) a.reason r a.fails h

      pub file_is : (r : FileReason) → FileFails w held on (length on) ca p uri r → (d : DiagnosisValue) → DiagnosesAt w held on path ca p uri d ↔ (on_chain path uri (OfFile r) ≡ d)
      file_is r h d = (
        λ a.
            let q = file_one r h d a in
            let same : on_chain path uri (OfFile a.reason) ≡ on_chain path uri (OfFile r) = λ i. on_chain path uri (OfFile (q i)) in
            sym (a.is ∙ same),
        λ e. record { reason = r; fails = h; is = sym e },
      )

      pub file_tells : (r : CodeFileReason) → FileFails w held on (length on) ca p uri (file_reason_of r) × FileUnheld w held uri r → (t : ToldValue) → TellsAt w held on path ca p uri t ↔ (told_at (on_chain path uri (OfFile (file_reason_of r))) (file_numbers r) ≡ t)
      file_tells r h t = (
        λ x.
            let a = x.0 in
            let d = (file_is (file_reason_of r) h.0 t.diagnosis).0 a in
            let told = subst (λ (s : FileReason). FileTells w held uri s t.numbers) (file_one (file_reason_of r) h.0 t.diagnosis a) x.1 in
            let n = file_tells_one w held ca uri on (length on) p (file_reason_of r) h.0 t.numbers (file_numbers r) told (file_told uri r h.1) in
            λ i. told_at (d i) (sym n i),
        λ e. subst (λ (u : ToldValue). TellsAt w held on path ca p uri u) e (record { reason = file_reason_of r; fails = h.0; is = refl }, file_told uri r h.1),
      )

    -- Where a point has a reason its diagnosis is the one at the end of the chain.
    module _ (uri : List ℕ) where
      pub point_is : (r : PointReason) → PointFails w held ca r → (d : DiagnosisValue) → DiagnosesEnd w held on path uri ca d ↔ (on_chain path uri (OfPoint r) ≡ d)
      point_is r h d = (
        λ f. elim f [
          | inl a ↦
              let q = one_point_reason w ca held a.reason r a.fails h in
              let same : on_chain path uri (OfPoint a.reason) ≡ on_chain path uri (OfPoint r) = λ i. on_chain path uri (OfPoint (q i)) in
              sym (a.is ∙ same)
          | inr a ↦ absurd (refutes w ca held r h a.point a.stands)
        ],
        λ e. inl (record { reason = r; fails = h; is = sym e }),
      )

      pub point_tells : (r : CodePointReason) → PointFails w held ca (point_reason_of r) × PointUnheld w held ca r → (t : ToldValue) → TellsEnd w held on path uri ca t.diagnosis t.numbers ↔ (told_at (on_chain path uri (OfPoint (point_reason_of r))) (point_numbers r) ≡ t)
      point_tells r h t = (
        λ f. elim f [
          | inl a ↦
              let d = (point_is (point_reason_of r) h.0 t.diagnosis).0 (inl a.0) in
              let q = one_point_reason w ca held a.0.reason (point_reason_of r) a.0.fails h.0 in
              let told = subst (λ (s : PointReason). PointTells w held ca s t.numbers) q a.1 in
              let n = point_tells_one w held ca (point_reason_of r) h.0 t.numbers (point_numbers r) told (point_told ca r h.1) in
              λ i. told_at (d i) (sym n i)
          | inr a ↦ absurd (refutes w ca held (point_reason_of r) h.0 a.0.point a.0.stands)
        ],
        λ e. subst (λ (u : ToldValue). TellsEnd w held on path uri ca u.diagnosis u.numbers) e (inl (record { reason = point_reason_of r; fails = h.0; is = refl }, point_told ca r h.1)),
      )

      -- Where it stands they are those of its files.
      module _ (p : Point) (s : StandsIn w held ca p) where
        abbrev at_file : (d : DiagnosisValue) → (a : DiagnosesFile w held on path ca d) → (b : DiagnosesAt w held on path ca p d.name d) × (b.reason ≡ a.reason)
        at_file d a =
            let o = one_point w ca a.point p a.stands.point s.point in
            (record { reason = a.reason; fails = subst (λ (v : Point). FileFails w held on (length on) ca v d.name a.reason) o a.fails; is = a.is }, refl)

        listed_file : (d : DiagnosisValue) → DiagnosesFile w held on path ca d → Mem (files ca p.manifest) d.name
        listed_file d a = subst (λ (v : Point). Mem (files ca v.manifest) d.name) (one_point w ca a.point p a.stands.point s.point) a.listed

        named : (u : List ℕ) (d : DiagnosisValue) → DiagnosesAt w held on path ca p u d → u ≡ d.name
        named u d a = sym (ap (λ (x : DiagnosisValue). x.name) a.is)

        abbrev of_file : (u : List ℕ) (d : DiagnosisValue) → Mem (files ca p.manifest) u → (a : DiagnosesAt w held on path ca p u d) → (b : DiagnosesFile w held on path ca d) × (b.reason ≡ a.reason)
        of_file u d m a = let e = named u d a in (
          record {
            point = p;
            stands = s;
            listed = subst (λ (v : List ℕ). Mem (files ca p.manifest) v) e m;
            reason = a.reason;
            fails = subst (λ (v : List ℕ). FileFails w held on (length on) ca p v a.reason) e a.fails;
            is = subst (λ (v : List ℕ). d ≡ on_chain path v (OfFile a.reason)) e a.is;
          },
          refl,
        )

        pub files_are : (d : DiagnosisValue) → ((u : List ℕ) × Mem (files ca p.manifest) u × DiagnosesAt w held on path ca p u d) ↔ DiagnosesEnd w held on path uri ca d
        files_are d = (
          λ g. inr (of_file g.0 d g.1 g.2).0,
          λ f. elim f [
            | inl a ↦ absurd (refutes w ca held a.reason a.fails p s)
            | inr a ↦ (d.name, listed_file d a, (at_file d a).0)
          ],
        )

        pub files_tell : (t : ToldValue) → ((u : List ℕ) × Mem (files ca p.manifest) u × TellsAt w held on path ca p u t) ↔ TellsEnd w held on path uri ca t.diagnosis t.numbers
        files_tell t = (
          λ g.
              let b = of_file g.0 t.diagnosis g.1 g.2.0 in
              let e = named g.0 t.diagnosis g.2.0 in
              inr (b.0, subst (λ (v : List ℕ). FileTells w held v g.2.0.reason t.numbers) e g.2.1),
          λ f. elim f [
            | inl a ↦ absurd (refutes w ca held a.0.reason a.0.fails p s)
            | inr a ↦ (t.diagnosis.name, listed_file t.diagnosis a.0, ((at_file t.diagnosis a.0).0, a.1))
          ],
        )

-- Of a locator.
pub locator_is : (w : World) (l : Locator) (r : LocatorReason) → LocatorFails w l r → (d : DiagnosisValue) → DiagnosesLocator w l d ↔ (on_chain (record { locator = l.name; chain = [] }) l.name (OfLocator r) ≡ d)
locator_is w l r h d = (
  λ a.
      let q = one_locator_reason w l a.reason r a.fails h in
      let same : on_chain (record { locator = l.name; chain = [] }) l.name (OfLocator a.reason) ≡ on_chain (record { locator = l.name; chain = [] }) l.name (OfLocator r) = λ i. on_chain (record { locator = l.name; chain = [] }) l.name (OfLocator (q i)) in
      sym (a.is ∙ same),
  λ e. record { reason = r; fails = h; is = sym e },
)

-- Lists of diagnoses, as they are seen.
module _ {X : Type 0} (seen : Diagnosis → X) where
  pub adds_none : (P : X → Type 0) (old : List Diagnosis) → ((x : X) → ¬ (P x)) → Adds seen old P old
  adds_none P old n x = (λ m. inl m, λ m. elim m [ inl a ↦ a | inr p ↦ absurd (n x p) ])

  pub adds_one : (P : X → Type 0) (old new : List Diagnosis) (z : Diagnosis) → new ≡ old ++ z ∷ [] → ((x : X) → P x ↔ (seen z ≡ x)) → Adds seen old P new
  adds_one P old new z e h x =
      let m = seen_more seen old new z e x in (
        λ k. elim (m.0 k) [ inl a ↦ inl a | inr q ↦ inr ((h x).1 q) ],
        λ k. m.1 (elim k [ inl a ↦ inl a | inr p ↦ inr ((h x).0 p) ]),
      )

  pub adds_same : (P Q : X → Type 0) (old new : List Diagnosis) → Adds seen old P new → ((x : X) → P x ↔ Q x) → Adds seen old Q new
  adds_same P Q old new g e x = let h = g x in (
    λ m. elim (h.0 m) [ inl a ↦ inl a | inr p ↦ inr ((e x).0 p) ],
    λ m. h.1 (elim m [ inl a ↦ inl a | inr q ↦ inr ((e x).1 q) ]),
  )

  -- At a loop's beginning, and a step of it.
  pub adds_first : {Y : Type 0} (F : Y → X → Type 0) (old : List Diagnosis) (ys : List Y) → ys ≡ [] → Adds seen old (λ x. (u : Y) × Mem ys u × F u x) old
  adds_first {Y} F old ys e x = (λ m. inl m, λ m. elim m [ inl a ↦ a | inr p ↦ absurd (subst (λ (zs : List Y). Mem zs p.0) e p.1) ])

  pub adds_next : {Y : Type 0} (F : Y → X → Type 0) (old mid new : List Diagnosis) (ys : List Y) (i : ℕ) (y : Y) → i < length ys → Adds seen old (λ x. (u : Y) × Mem (take i ys) u × F u x) mid → Adds seen mid (F (get_or ys i y)) new → Adds seen old (λ x. (u : Y) × Mem (take (i + 1) ys) u × F u x) new
  adds_next F old mid new ys i y l g h x =
      let e = any_more (λ u. F u x) ys i y l in let a = g x in let b = h x in (
        λ m. elim (b.0 m) [
          | inl k ↦ elim (a.0 k) [ inl o ↦ inl o | inr p ↦ inr (e.1 (inl p)) ]
          | inr q ↦ inr (e.1 (inr q))
        ],
        λ m. elim m [
          | inl o ↦ b.1 (inl (a.1 (inl o)))
          | inr r ↦ elim (e.0 r) [ inl p ↦ b.1 (inl (a.1 (inr p))) | inr q ↦ b.1 (inr q) ]
        ],
      )

  pub only_none : (P : X → Type 0) (o : Option Diagnosis) → o ≡ None → IsOnly seen P o → (x : X) → ¬ (P x)
  only_none P o e h = let n : IsOnly seen P None = subst (λ (q : Option Diagnosis). IsOnly seen P q) e h in n

  pub only_some : (P : X → Type 0) (o : Option Diagnosis) (z : Diagnosis) → o ≡ Some z → IsOnly seen P o → (x : X) → P x ↔ (seen z ≡ x)
  only_some P o z e h = let n : IsOnly seen P (Some z) = subst (λ (q : Option Diagnosis). IsOnly seen P q) e h in n

-- Of locators: what is listed is of one of them, and tells no numbers.
pub told_first : (w : World) (old : List Diagnosis) (ls : List Locator) (d : Diagnosis) → Mem old d → Mem old d ⊎ ((u : Locator) × Mem ls u × IsOfLocator w u d)
told_first w old ls d m = inl m

pub told_more : (w : World) (old new : List Diagnosis) (z : Diagnosis) (l : Locator) → new ≡ old ++ z ∷ [] → IsOfLocator w l z → (d : Diagnosis) → Mem new d → Mem old d ⊎ IsOfLocator w l d
told_more w old new z l e h d m = elim ((mem_push old z d).0 (subst (λ (xs : List Diagnosis). Mem xs d) e m)) [
  | inl a ↦ inl a
  | inr q ↦ inr (subst (λ (x : Diagnosis). IsOfLocator w l x) q h)
]

pub told_next : (w : World) (ls : List Locator) (i : ℕ) (x : Locator) → i < length ls → (old mid new : List Diagnosis)
    → ((d : Diagnosis) → Mem mid d → Mem old d ⊎ ((u : Locator) × Mem (take i ls) u × IsOfLocator w u d))
    → ((d : Diagnosis) → Mem new d → Mem mid d ⊎ IsOfLocator w (get_or ls i x) d)
    → (d : Diagnosis) → Mem new d → Mem old d ⊎ ((u : Locator) × Mem (take (i + 1) ls) u × IsOfLocator w u d)
told_next w ls i x l old mid new g h d m =
    let e = any_more (λ (u : Locator). IsOfLocator w u d) ls i x l in
    elim (h d m) [
      | inl a ↦ elim (g d a) [ inl o ↦ inl o | inr p ↦ inr (e.1 (inl p)) ]
      | inr q ↦ inr (e.1 (inr q))
    ]

-- What is answered is added, or nothing is.
module _ {X : Type 0} (seen : Diagnosis → X) (P : X → Type 0) (o : Option Diagnosis) (only : IsOnly seen P o) (old new : List Diagnosis) where
  pub only_adds : (z : Diagnosis) → o ≡ Some z → new ≡ old ++ z ∷ [] → Adds seen old P new
  only_adds z e n = adds_one seen P old new z n (only_some seen P o z e only)

  pub only_keeps : ((z : Diagnosis) → ¬ (o ≡ Some z)) → new ≡ old → Adds seen old P new
  only_keeps n e = subst (λ (ds : List Diagnosis). Adds seen old P ds) (sym e) (adds_none seen P old (go o refl))
    where
      go : (q : Option Diagnosis) → o ≡ q → (x : X) → ¬ (P x)
      go None f = only_none seen P o f only
      go (Some z) f = absurd (n z f)

pub only_told : (w : World) (l : Locator) (o : Option Diagnosis) (z : Diagnosis) → o ≡ Some z → IsOnly diagnosis_of (DiagnosesLocator w l) o → IfSome o (λ (d : Diagnosis). unheld_of d ≡ []) → IsOfLocator w l z
only_told w l o z e only told =
    let h : IfSome (Some z) (λ (d : Diagnosis). unheld_of d ≡ []) = subst (λ (q : Option Diagnosis). IfSome q (λ (d : Diagnosis). unheld_of d ≡ [])) e told in
    ((only_some diagnosis_of (DiagnosesLocator w l) o z e only (diagnosis_of z)).1 refl, h)

-- What a walk tells to be wrong is what is wrong at the ends of chains, with the numbers that this tells.
pub told_wrong : (w : World) (d : DiagnosisValue) → IsFinding [] w (Diagnoses d) ↔ DiagnosesChain w d
told_wrong w d = (to, λ r. inr (inr (r.name, r.anchor, r.below, r.accepted, inl r.ends)))
  where
    to : IsFinding [] w (Diagnoses d) → DiagnosesChain w d
    to (inl t) = absurd (let e = t.1 in cc)
    to (inr (inl t)) = absurd (let e = t.1 in cc)
    to (inr (inr t)) = elim t.4 [
      | inl r ↦ record { name = t.0; anchor = t.1; below = t.2; accepted = t.3; ends = r }
      | inr u ↦ elim u [
        | inl n ↦ absurd (let e = n.0 in cc)
        | inr q ↦ elim q.4 [ inl r ↦ absurd r | inr y ↦ absurd y.2 ]
      ]
    ]

pub told_unheld : (w : World) (d : DiagnosisValue) (numbers : List Run) → IsFinding [] w (Unheld d numbers) → TellsChain w d numbers
told_unheld w d numbers (inl t) = absurd (let e = t.1 in cc)
told_unheld w d numbers (inr (inl t)) = absurd (let e = t.1 in cc)
told_unheld w d numbers (inr (inr t)) = elim t.4 [
  | inl r ↦ record { name = t.0; anchor = t.1; below = t.2; accepted = t.3; ends = r }
  | inr u ↦ elim u [
    | inl n ↦ absurd (let e = n.0 in cc)
    | inr q ↦ elim q.4 [ inl r ↦ absurd r | inr y ↦ absurd y.2 ]
  ]
]

-- What is answered of a file and of a locator.
pub file_answer : (w : World) (held : Kind → ℕ → Type 0) (on : List (List ℕ)) (ca : Cert) (p : Point) (u v : List ℕ) → u ≡ v → (o q : Option CodeFileReason) → o ≡ q → HasFileReason w held on ca p u o → HasFileReason w held on ca p v q
file_answer w held on ca p u v e o q f h = subst (λ (x : Option CodeFileReason). HasFileReason w held on ca p v x) f (subst (λ (x : List ℕ). HasFileReason w held on ca p x o) e h)

pub locator_answer : (w : World) (l : Locator) (o q : Option LocatorReason) → o ≡ q → HasLocatorReason w l o → HasLocatorReason w l q
locator_answer w l o q e h = subst (λ (x : Option LocatorReason). HasLocatorReason w l x) e h

pub point_answer : {P : Type 0} (point : P → Point) (w : World) (held : Kind → ℕ → Type 0) (ca : Cert) (o q : Result P CodePointReason) → o ≡ q → IsJudged point w held ca o → IsJudged point w held ca q
point_answer {P = P} point w held ca o q e h = subst (λ (x : Result P CodePointReason). IsJudged point w held ca x) e h

-- It is what this is, too.
pub only_same : {X : Type 0} (P : X → Type 0) (a b : X) → a ≡ b → ((x : X) → P x ↔ (b ≡ x)) → (x : X) → P x ↔ (a ≡ x)
only_same P a b e h x = (λ p. e ∙ (h x).0 p, λ q. (h x).1 (sym e ∙ q))

-- What is gained by a chain.
pub visit_gains : {E : Type 0} (r : Result (Unit {0}) E) (w : World) (held : Kind → ℕ → Type 0) (on : List (List ℕ)) (path : PathValue) (uri : List ℕ) (ca : Cert) (old new : Judged) → OnOk r (Adds diagnosis_of old.found.items (DiagnosesEnd w held on path uri ca) new.found.items) → OnOk r (Adds told_of old.found.items (λ (t : ToldValue). TellsEnd w held on path uri ca t.diagnosis t.numbers) new.found.items) → OnOk r (Gains IsDiagnosed (has_diagnosed old) (ReachedBy [] w held on path uri ca) (has_diagnosed new))
visit_gains (Err e) w held on path uri ca old new f g = tt
visit_gains (Ok u) w held on path uri ca old new f g = go
  where
    go : Gains IsDiagnosed (has_diagnosed old) (ReachedBy [] w held on path uri ca) (has_diagnosed new)
    go (Refuses n y) i = absurd i
    go (Shows s) i = absurd i
    go (Originates s) i = absurd i
    go (Provides s) i = absurd i
    go (Reaches k n) i = absurd i
    go (Chains v) i = absurd i
    go (Diagnoses d) i = f d
    go (Unheld d numbers) i = g (told_at d numbers)

-- All that is wrong, sorted.
pub all_diagnosed : (w v : World) → v ≡ w → (first walked : Judged) → first.found.items ≡ []
    → Gains IsDiagnosed (has_diagnosed first) (IsFinding [] w) (has_diagnosed walked)
    → (old : List Diagnosis)
    → Adds diagnosis_of walked.found.items (λ (d : DiagnosisValue). (l : Locator) × Mem v.locators l × DiagnosesLocator v l d) old
    → ((d : Diagnosis) → Mem old d → Mem walked.found.items d ⊎ ((l : Locator) × Mem v.locators l × IsOfLocator v l d))
    → NoRepeat (map (λ (l : Locator). l.name) v.locators)
    → (new : List Diagnosis) → IsStrictlySortedBy diagnoses_cmp new → ((x : Diagnosis) → Mem new x → Mem old x)
    → ((x : Diagnosis) → Mem old x → (y : Diagnosis) × Mem new y × (diagnoses_cmp x y ≡ Equal)) → AreDiagnoses w new
all_diagnosed w v e first walked empty gained old wrong told apart new s from kept =
    sorted_diagnoses w apart_there old new exact numbers s from kept
  where
    apart_there : NoRepeat (map (λ (l : Locator). l.name) w.locators)
    apart_there = subst (λ (z : World). NoRepeat (map (λ (l : Locator). l.name) z.locators)) e apart

    wrong_there : Adds diagnosis_of walked.found.items (λ (d : DiagnosisValue). (l : Locator) × Mem w.locators l × DiagnosesLocator w l d) old
    wrong_there = subst (λ (z : World). Adds diagnosis_of walked.found.items (λ (d : DiagnosisValue). (l : Locator) × Mem z.locators l × DiagnosesLocator z l d) old) e wrong

    told_there : (d : Diagnosis) → Mem old d → Mem walked.found.items d ⊎ ((l : Locator) × Mem w.locators l × IsOfLocator w l d)
    told_there = subst (λ (z : World). (d : Diagnosis) → Mem old d → Mem walked.found.items d ⊎ ((l : Locator) × Mem z.locators l × IsOfLocator z l d)) e told

    none_first : {X : Type 0} (seen : Diagnosis → X) (x : X) → ¬ (Mem (map seen first.found.items) x)
    none_first seen x m = let h = (mem_map seen first.found.items x).0 m in subst (λ (ds : List Diagnosis). Mem ds h.0) empty h.1

    exact : (d : DiagnosisValue) → Mem (map diagnosis_of old) d ↔ IsDiagnosis w d
    exact d =
        let h = wrong_there d in let k = gained (Diagnoses d) tt in let t = told_wrong w d in (
          λ m. elim (h.0 m) [
            | inl a ↦ elim (k.0 a) [ inl o ↦ absurd (none_first diagnosis_of d o) | inr f ↦ inr (t.0 f) ]
            | inr q ↦ inl q
          ],
          λ i. elim i [ inl q ↦ h.1 (inr q) | inr c ↦ h.1 (inl (k.1 (inr (t.1 c)))) ],
        )

    numbers : (x : Diagnosis) → Mem old x → IsTold w (diagnosis_of x) (unheld_of x)
    numbers x m = elim (told_there x m) [
      | inl a ↦
          let k = gained (Unheld (diagnosis_of x) (unheld_of x)) tt in
          elim (k.0 ((mem_map told_of walked.found.items (told_of x)).1 (x, a, refl))) [
            | inl o ↦ absurd (none_first told_of (told_of x) o)
            | inr f ↦ inr (told_unheld w (diagnosis_of x) (unheld_of x) f)
          ]
      | inr q ↦ inl (q.0, q.1, q.2.0, q.2.1)
    ]
