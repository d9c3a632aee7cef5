use Rattle.std.proofs.Common.{◌≡◌, ℕ, ◌+◌, ◌⊎◌, List, [], ◌∷◌, ◌++◌, ◌↔◌, take, take_all, get_or, sym, ap, subst, ◌∙◌, inl, inr}
use Rattle.rpki_walk.specs.resources.Resources.{Resources}
use Rattle.rpki_rules.specs.Certs.{Cert}
use Rattle.rpki_rules.specs.declared.cause.Cause.{Cause}
use Rattle.rpki_rules.specs.World.{World}
use Rattle.rpki_rules.specs.Attests.{Payload}
use Rattle.rpki_rules.specs.Words.{Mem}
use Rattle.rpki_rules.specs.Kinds.{InSet}
use Rattle.rpki_rules.specs.Points.{files}
use Rattle.rpki_rules.specs.Chains.{StandsIn}
use Rattle.rpki_rules.specs.Views.{PathValue, path_of}
use Rattle.rpki_walk.specs.Facts.{Finding, Refuses, ShownBy, ReachedBy, Gains, FromFile, Found, Walks, Classified}
use Rattle.rpki_walk.proofs.Mems.{mem_get_or, gains_same, gains_next}
use Rattle.rpki_walk.proofs.Findings.{read_none, read_some, none_here, all_here, arm_nothing, arm_refused, arm_attests, arm_child}
use Rattle.rpki_walk.proofs.chains.+walk_from.Goals as goal
use Rattle.rpki_walk.proofs.chains.+walk_from.Goals.{in-Nothing, in-Refused+in_ok-refuse-in-Refused, in-Attests+in_ok-show-in-Attests, in-Child+in_ok-longer-in-Child+in_ok-longer-in-Child-2+in_ok-more-in-Child+in_ok-walk_from-in-Child}

-- At the file itself.
moved_refuse : (wants old new : Finding → Type 0) (u v : List ℕ) (why : Cause) → u ≡ v → Gains wants old (λ x. Refuses u why ≡ x) new → Gains wants old (λ x. Refuses v why ≡ x) new
moved_refuse wants old new u v why e g = subst (λ (z : List ℕ). Gains wants old (λ x. Refuses z why ≡ x) new) e g

moved_show : (wants old new : Finding → Type 0) (path : PathValue) (x : Payload) (u v : List ℕ) → u ≡ v → Gains wants old (ShownBy (record { locator = path.locator; chain = path.chain; object = u }) x) new → Gains wants old (ShownBy (record { locator = path.locator; chain = path.chain; object = v }) x) new
moved_show wants old new path x u v e g = subst (λ (z : List ℕ). Gains wants old (ShownBy (record { locator = path.locator; chain = path.chain; object = z }) x) new) e g

moved_walk : (wants old new : Finding → Type 0) (w : World) (path : PathValue) (on : List (List ℕ)) (ca : Cert) (sets : Resources) (us vs : List (List ℕ)) → us ≡ vs → (u v : List ℕ) → u ≡ v → Walks wants us w path on u ca sets old new → Walks wants vs w path on v ca sets old new
moved_walk wants old new w path on ca sets us vs d u v e h =
    subst (λ (z : List (List ℕ)). Walks wants z w path on v ca sets old new) d (subst (λ (z : List ℕ). Walks wants us w path on z ca sets old new) e h)

pub returns-in_default-clause-facts : goal.returns-in_default-clause-facts
returns-in_default-clause-facts g t c name a cs st acc =
    let w = g.S.Repository.world c.args.repository.now in
    let held = InSet (g.S.Repository.sets c.args.ca.now) in
    let ca = g.S.Repository.cert c.args.ca.now in
    let n = read_none g.S.Repository.point (g.S.Repository.world c.visit.new.repository) held ca c.in_ok-point.field-0 c.in_default.not-Some c.in_ok-point.ensures.read in
    none_here g.V.Visitor.wants (g.V.Visitor.uris c.args.visitor.now) w name a cs (path_of c.args.chain.now.path.now.value) c.args.chain.now.keys.now c.args.chain.now.uri.now ca (g.S.Repository.sets c.args.ca.now) st acc
    (λ p s. n p (subst (λ v. StandsIn v held ca p) (sym c.in_ok-visit.ensures.same) s)) _ _ _ c.in_ok-visit.ensures.gained c.in_ok-refuse.ensures.gained

pub classify-requires : goal.classify-requires
classify-requires g t c =
    let fs = c.uris-file-items.result.now in let i = c.loop-file.file-index in let d = c.file-item.result in
    let e : get_or fs i d ≡ c.as_slice.result.now = sym (c.as_slice.ensures ∙ c.file-item.is) in
    subst (λ (u : List ℕ). Mem (files (g.S.Repository.cert c.args.ca.now) (g.S.Repository.point c.in-Some.point).manifest) u) e
    (subst (λ (xs : List (List ℕ)). Mem xs (get_or fs i d)) c.uris-file-items.ensures (mem_get_or fs i d c.loop-file-test.true))

pub loop-file-preserved : goal.loop-file-preserved
loop-file-preserved g t c =
    let w = g.S.Repository.world c.args.repository.now in
    let w1 = g.S.Repository.world c.loop-file.repository in
    let wants = g.V.Visitor.wants in
    let uris = g.V.Visitor.uris c.args.visitor.now in
    let held = InSet (g.S.Repository.sets c.args.ca.now) in
    let ca = g.S.Repository.cert c.args.ca.now in
    let csets = g.S.Repository.sets c.args.ca.now in
    let path = path_of c.args.chain.now.path.now.value in let on = c.args.chain.now.keys.now in let uri = c.args.chain.now.uri.now in
    let inv = c.loop-file.invariant in
    let fs = c.uris-file-items.result.now in let i = c.loop-file.file-index in let d = c.file-item.result in
    let file = get_or fs i d in
    let p0 = g.S.Repository.point c.in-Some.point in
    let s0 : StandsIn w held ca p0 = subst (λ v. StandsIn v held ca p0) c.in_ok-visit.ensures.same (read_some g.S.Repository.point (g.S.Repository.world c.visit.new.repository) held ca c.in_ok-point.field-0 c.in-Some.point c.in-Some.is c.in_ok-point.ensures.read) in
    let o = c.in_ok-classify.field-0 in
    let cl : Classified g.S.Repository.cert g.S.Repository.sets g.S.Repository.payload w1 held ca p0 on file o = subst (λ (u : List ℕ). Classified g.S.Repository.cert g.S.Repository.sets g.S.Repository.payload w1 held ca p0 on u o) (c.as_slice.ensures ∙ c.file-item.is) c.in_ok-classify.ensures.class in
    let m : Mem (files ca p0.manifest) file = subst (λ (xs : List (List ℕ)). Mem xs file) c.uris-file-items.ensures (mem_get_or fs i d c.loop-file-test.true) in
    let old = g.V.Visitor.has c.loop-file.visitor in
    let first = g.V.Visitor.has c.args.visitor.now in
    elim c.match-branch-6.branch [
      | in-Nothing v ↦ record {
        same = ap (λ q. g.S.Repository.world q) v.repository-is ∙ (c.in_ok-classify.ensures.same ∙ inv.same);
        lender = ap (λ q. g.S.Repository.lender q) v.repository-is ∙ (c.in_ok-classify.ensures.lender ∙ inv.lender);
        kept = ap (λ q. g.V.Visitor.uris q) v.visitor-is ∙ inv.kept;
        gained = λ name a cs p st acc s. subst (λ q. Gains wants first (λ x. ReachedBy uris w held on path uri ca x ⊎ ((u : List ℕ) × Mem (take (i + 1) fs) u × FromFile uris w name a cs p u x)) (g.V.Visitor.has q)) (sym v.visitor-is)
            (gains_next wants first old old (ReachedBy uris w held on path uri ca) (FromFile uris w name a cs p) fs i d c.loop-file-test.true (inv.gained name a cs p st acc s)
            (arm_nothing g.S.Repository.cert g.S.Repository.sets g.S.Repository.payload wants uris w w1 inv.same name a cs path on uri ca csets st acc p p0 s s0 file o cl v.in-Nothing.is old));
      }
      | in-Refused+in_ok-refuse-in-Refused v ↦ record {
        same = ap (λ q. g.S.Repository.world q) v.repository-is ∙ (c.in_ok-classify.ensures.same ∙ inv.same);
        lender = ap (λ q. g.S.Repository.lender q) v.repository-is ∙ (c.in_ok-classify.ensures.lender ∙ inv.lender);
        kept = ap (λ q. g.V.Visitor.uris q) v.visitor-is ∙ (v.in_ok-refuse-in-Refused.ensures.kept ∙ inv.kept);
        gained = λ name a cs p st acc s. subst (λ q. Gains wants first (λ x. ReachedBy uris w held on path uri ca x ⊎ ((u : List ℕ) × Mem (take (i + 1) fs) u × FromFile uris w name a cs p u x)) (g.V.Visitor.has q)) (sym v.visitor-is)
            (gains_next wants first old _ (ReachedBy uris w held on path uri ca) (FromFile uris w name a cs p) fs i d c.loop-file-test.true (inv.gained name a cs p st acc s)
            (arm_refused g.S.Repository.cert g.S.Repository.sets g.S.Repository.payload wants uris w w1 inv.same name a cs path on uri ca csets st acc p p0 s s0 file o cl v.in-Refused.cause v.in-Refused.is old _
            (moved_refuse wants old _ d file v.in-Refused.cause c.file-item.is v.in_ok-refuse-in-Refused.ensures.gained)));
      }
      | in-Attests+in_ok-show-in-Attests v ↦ record {
        same = ap (λ q. g.S.Repository.world q) v.repository-is ∙ (c.in_ok-classify.ensures.same ∙ inv.same);
        lender = ap (λ q. g.S.Repository.lender q) v.repository-is ∙ (c.in_ok-classify.ensures.lender ∙ inv.lender);
        kept = ap (λ q. g.V.Visitor.uris q) v.visitor-is ∙ (v.in_ok-show-in-Attests.ensures.kept ∙ inv.kept);
        gained = λ name a cs p st acc s. subst (λ q. Gains wants first (λ x. ReachedBy uris w held on path uri ca x ⊎ ((u : List ℕ) × Mem (take (i + 1) fs) u × FromFile uris w name a cs p u x)) (g.V.Visitor.has q)) (sym v.visitor-is)
            (gains_next wants first old _ (ReachedBy uris w held on path uri ca) (FromFile uris w name a cs p) fs i d c.loop-file-test.true (inv.gained name a cs p st acc s)
            (arm_attests g.S.Repository.cert g.S.Repository.sets g.S.Repository.payload wants uris w w1 inv.same name a cs path on uri ca csets st acc p p0 s s0 file o cl v.in-Attests.payload v.in-Attests.is old _
            (moved_show wants old _ path (g.S.Repository.payload v.in-Attests.payload) d file c.file-item.is v.in_ok-show-in-Attests.ensures.gained)));
      }
      | in-Child+in_ok-longer-in-Child+in_ok-longer-in-Child-2+in_ok-more-in-Child+in_ok-walk_from-in-Child v ↦ record {
        same = ap (λ q. g.S.Repository.world q) v.repository-is ∙ (v.in_ok-walk_from-in-Child.ensures.same ∙ (c.in_ok-classify.ensures.same ∙ inv.same));
        lender = ap (λ q. g.S.Repository.lender q) v.repository-is ∙ (v.in_ok-walk_from-in-Child.ensures.lender ∙ (c.in_ok-classify.ensures.lender ∙ inv.lender));
        kept = ap (λ q. g.V.Visitor.uris q) v.visitor-is ∙ (v.in_ok-walk_from-in-Child.ensures.kept ∙ inv.kept);
        gained = λ name a cs p st acc s. subst (λ q. Gains wants first (λ x. ReachedBy uris w held on path uri ca x ⊎ ((u : List ℕ) × Mem (take (i + 1) fs) u × FromFile uris w name a cs p u x)) (g.V.Visitor.has q)) (sym v.visitor-is)
            (gains_next wants first old _ (ReachedBy uris w held on path uri ca) (FromFile uris w name a cs p) fs i d c.loop-file-test.true (inv.gained name a cs p st acc s)
            (arm_child g.S.Repository.cert g.S.Repository.sets g.S.Repository.payload wants uris w w1 inv.same name a cs path on uri ca csets st acc p p0 s s0 file o cl v.in-Child.child v.in-Child.key v.in-Child.is m
            (path_of v.in_ok-longer-in-Child-2.longer.value) v.deref.result.now
            (ap path_of v.in_ok-longer-in-Child-2.ensures.ok ∙ (v.in_ok-longer-in-Child.ensures ∙ λ j. record { locator = (path_of (v.as_ref.ensures j)).locator; chain = (path_of (v.as_ref.ensures j)).chain ++ c.file-item.is j ∷ [] }))
            (v.deref.ensures.value ∙ v.in_ok-more-in-Child.ensures)
            (g.S.Repository.world c.classify.new.repository) (c.in_ok-classify.ensures.same ∙ inv.same) old _
            (moved_walk wants old _ (g.S.Repository.world c.classify.new.repository) (path_of v.in_ok-longer-in-Child-2.longer.value) v.deref.result.now (g.S.Repository.cert v.in-Child.child) (g.S.Repository.sets v.in-Child.child) (g.V.Visitor.uris c.loop-file.visitor) uris inv.kept d file c.file-item.is v.in_ok-walk_from-in-Child.ensures.facts)));
      }
    ]

pub returns-clause-facts : goal.returns-clause-facts
returns-clause-facts g t c name a cs st acc =
    let w = g.S.Repository.world c.args.repository.now in
    let held = InSet (g.S.Repository.sets c.args.ca.now) in
    let ca = g.S.Repository.cert c.args.ca.now in
    let uris = g.V.Visitor.uris c.args.visitor.now in
    let path = path_of c.args.chain.now.path.now.value in let on = c.args.chain.now.keys.now in let uri = c.args.chain.now.uri.now in
    let p0 = g.S.Repository.point c.in-Some.point in
    let fs = c.uris-file-items.result.now in
    let s : StandsIn w held ca p0 = subst (λ v. StandsIn v held ca p0) c.in_ok-visit.ensures.same (read_some g.S.Repository.point (g.S.Repository.world c.visit.new.repository) held ca c.in_ok-point.field-0 c.in-Some.point c.in-Some.is c.in_ok-point.ensures.read) in
    let h = c.loop-file.invariant.gained name a cs p0 st acc s in
    gains_same g.V.Visitor.wants _ _ _ _ h (λ x.
    subst (λ (xs : List (List ℕ)). (ReachedBy uris w held on path uri ca x ⊎ ((u : List ℕ) × Mem xs u × FromFile uris w name a cs p0 u x)) ↔ Found uris w name a cs x)
    (sym (take_all c.loop-file.file-index fs c.loop-file-test.false ∙ c.uris-file-items.ensures))
    (all_here g.V.Visitor.wants uris w name a cs path c.args.chain.now.keys.now c.args.chain.now.uri.now ca (g.S.Repository.sets c.args.ca.now) st p0 acc s x))

pub loop-file-init : goal.loop-file-init
loop-file-init g t c = record {
  same = c.read_point.ensures.same ∙ c.visit.ensures.same;
  lender = c.read_point.ensures.lender ∙ c.visit.ensures.lender;
  kept = c.visit.ensures.kept;
  gained = λ name a cs p st acc sp x k. let h = c.in_ok-visit.ensures.gained x k in (
    λ m. elim (h.0 m) [ inl o ↦ inl o | inr r ↦ inr (inl r) ],
    λ m. elim m [ inl o ↦ h.1 (inl o) | inr q ↦ elim q [ inl r ↦ h.1 (inr r) | inr s ↦ absurd s.1 ] ],
  );
}
