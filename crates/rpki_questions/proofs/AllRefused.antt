-- All that is refused, sorted as its lines are.
use Rattle.std.proofs.Common.{◌≡◌, List, [], ◌∷◌, map, refl, sym, ap, subst, ◌∙◌, inl, inr}
use Rattle.std.specs.declared.cmp.Ordering.{Ordering}
use Rattle.std.specs.declared.cmp.Ordering.TheVariants.{Equal, Less, Greater}
use Rattle.std.specs.Ordering.{nat_cmp, ordering_reverse, ordering_then}
use Rattle.std.specs.Cmp.{IsTotalOrder}
use Rattle.std.specs.Cmp.Lexicographic.{slice_cmp}
use Rattle.std.specs.List.Sorted.{IsStrictlySortedBy}
use Rattle.std.proofs.lemmas.Cmp.{on_total, then_total, lists_total, nat_list_cmp_total}
use Rattle.rpki_rules.specs.Words.{Mem}
use Rattle.rpki_rules.specs.World.{World}
use Rattle.rpki_rules.specs.Diagnoses.{DiagnosisValue, IsDiagnosis, IsTold, diagnosis_cmp}
use Rattle.rpki_rules.specs.DiagnosisViews.{AreDiagnoses, diagnosis_of, unheld_of}
use Rattle.rpki_rules.specs.declared.reason.diagnosis.Diagnosis.{Diagnosis}
use Rattle.rpki_validator.specs.rpki_walk.Diagnosed.{ToldValue}
use Rattle.rpki_rules.proofs.Orders.{mem_map, sorted_head, sorted_map, sorted_tail}
use Rattle.rpki_rules.proofs.Sets.{list_equal, octets_equal, then_equal}
use Rattle.rpki_questions.specs.Orders.{diagnosed, refused_cmp, refused_of}
use Rattle.rpki_questions.specs.Refused.{AreRefused, diagnosed_cmp, told_cmp}
use Rattle.rpki_questions.specs.declared.refused.Refused.{Refused}

-- What two are of, where their order has them equal.
abbrev SamePlace : DiagnosisValue → DiagnosisValue → Type 0
SamePlace d e = (d.name ≡ e.name) × (d.locator ≡ e.locator) × (d.chain ≡ e.chain)

same_place : (d e : DiagnosisValue) → diagnosed_cmp d e ≡ Equal → SamePlace d e
same_place d e c =
    let a = then_equal _ _ c in let n = then_equal _ _ a.0 in let b = then_equal _ _ a.1 in
    (octets_equal d.name e.name n.0, octets_equal d.locator e.locator b.0, list_equal (slice_cmp nat_cmp) octets_equal d.chain e.chain b.1)

total : IsTotalOrder diagnosis_cmp
total =
    then_total (on_total (λ (d : DiagnosisValue). d.name) nat_list_cmp_total)
    (then_total (on_total (λ (d : DiagnosisValue). d.locator) nat_list_cmp_total)
    (on_total (λ (d : DiagnosisValue). d.chain) (lists_total nat_list_cmp_total)))

no_less : (o : Ordering) → o ≡ ordering_reverse o → o ≡ Less → ⊥
no_less Less h e = let q : Less ≡ Greater = h in absurd cc
no_less Equal h e = absurd cc
no_less Greater h e = absurd cc

not_before : (d e : DiagnosisValue) → SamePlace d e → diagnosis_cmp d e ≡ Less → ⊥
not_before d e p h =
    let same : diagnosis_cmp d e ≡ diagnosis_cmp e e = λ i. ordering_then (slice_cmp nat_cmp (p.0 i) e.name) (ordering_then (slice_cmp nat_cmp (p.1 i) e.locator) (slice_cmp (slice_cmp nat_cmp) (p.2 i) e.chain)) in
    no_less (diagnosis_cmp e e) (total.antisymm e e) (sym same ∙ h)

-- Of a list that ascends by name, locator and chain one at most is of a place.
one_there : (xs : List DiagnosisValue) → IsStrictlySortedBy diagnosis_cmp xs → (d e : DiagnosisValue) → Mem xs d → Mem xs e → SamePlace d e → d ≡ e
one_there [] s d e m n p = absurd m
one_there (x ∷ xs) s d e (inl a) (inl b) p = sym a ∙ b
one_there (x ∷ xs) s d e (inl a) (inr n) p =
    absurd (not_before d e p (subst (λ (y : DiagnosisValue). diagnosis_cmp y e ≡ Less) a (sorted_head diagnosis_cmp x xs s e n)))
one_there (x ∷ xs) s d e (inr m) (inl b) p =
    absurd (not_before e d (sym p.0, sym p.1, sym p.2) (subst (λ (y : DiagnosisValue). diagnosis_cmp y d ≡ Less) b (sorted_head diagnosis_cmp x xs s d m)))
one_there (x ∷ xs) s d e (inr m) (inr n) p = one_there xs (sorted_tail diagnosis_cmp x xs s) d e m n p

-- What the diagnoses of a world are of, sorted without repeats.
module _ (w : World) (ds : List Diagnosis) (old new : List Refused) (all : AreDiagnoses w ds) (is : old ≡ map diagnosed ds) (from : (x : Refused) → Mem new x → Mem old x) where
  listed : (x : Refused) → Mem new x → Mem ds x.diagnosis
  listed x m =
      let h = (mem_map diagnosed ds x).0 (subst (λ (l : List Refused). Mem l x) is (from x m)) in
      subst (Mem ds) (ap (λ (r : Refused). r.diagnosis) h.2) h.1

  seen : (x : Refused) → Mem ds x.diagnosis → Mem (map diagnosis_of ds) (diagnosis_of x.diagnosis)
  seen x m = (mem_map diagnosis_of ds (diagnosis_of x.diagnosis)).1 (x.diagnosis, m, refl)

  pub sorted_refused : IsStrictlySortedBy refused_cmp new → ((x : Refused) → Mem old x → (y : Refused) × Mem new y × (refused_cmp x y ≡ Equal)) → AreRefused w (map refused_of new)
  sorted_refused s kept = record {
    ascend = sorted_map refused_of refused_cmp told_cmp (λ x y. refl) new s;
    exact = λ d. (
      λ m.
          let h = (mem_map (λ (t : ToldValue). t.diagnosis) (map refused_of new) d).0 m in
          let k = (mem_map refused_of new h.0).0 h.1 in
          let e : diagnosis_of k.0.diagnosis ≡ d = ap (λ (t : ToldValue). t.diagnosis) k.2 ∙ h.2 in
          subst (IsDiagnosis w) e ((all.exact (diagnosis_of k.0.diagnosis)).0 (seen k.0 (listed k.0 k.1))),
      λ i.
          let h = (mem_map diagnosis_of ds d).0 ((all.exact d).1 i) in
          let g : Mem old (diagnosed h.0) = subst (λ (l : List Refused). Mem l (diagnosed h.0)) (sym is) ((mem_map diagnosed ds (diagnosed h.0)).1 (h.0, h.1, refl)) in
          let k = kept (diagnosed h.0) g in
          let same = one_there (map diagnosis_of ds) all.ascend (diagnosis_of h.0) (diagnosis_of k.0.diagnosis) (seen (diagnosed h.0) h.1) (seen k.0 (listed k.0 k.1)) (same_place _ _ k.2) in
          let e : (refused_of k.0).diagnosis ≡ d = sym same ∙ h.2 in
          (mem_map (λ (t : ToldValue). t.diagnosis) (map refused_of new) d).1 (refused_of k.0, (mem_map refused_of new (refused_of k.0)).1 (k.0, k.1, refl), e),
    );
    told = λ t m.
        let k = (mem_map refused_of new t).0 m in
        let h : IsTold w (diagnosis_of k.0.diagnosis) (unheld_of k.0.diagnosis) = all.told k.0.diagnosis (listed k.0 k.1) in
        subst (λ (u : ToldValue). IsTold w u.diagnosis u.numbers) k.2 h;
  }
