use Rattle.std.proofs.Common.{◌≡◌, ◌↔◌, ◌∷◌, ◌+◌, ℕ, Bool, true, false, List, take, take_all, get_or, sym, ap, subst, ◌∙◌}
use Rattle.rpki_walk.specs.resources.Resources.{Resources}
use Rattle.rpki_rules.specs.Certs.{Cert}
use Rattle.rpki_rules.specs.Kinds.{InSet}
use Rattle.rpki_rules.specs.Words.{Mem, NoRepeat}
use Rattle.rpki_rules.specs.World.{World}
use Rattle.rpki_rules.specs.Points.{files}
use Rattle.rpki_rules.specs.Chains.{StandsIn}
use Rattle.rpki_walk.specs.Facts.{Classified}
use Rattle.rpki_walk.specs.Tallied.{BeginsAt, CountsFrom, Tallies}
use Rattle.rpki_walk.specs.declared.cost.tally.Tally.{Tally}
use Rattle.rpki_walk.proofs.Mems.{mem_get_or}
use Rattle.rpki_walk.proofs.Findings.{read_none, read_some}
use Rattle.rpki_walk.proofs.Begins.{here}
use Rattle.rpki_walk.proofs.Counting.{add_first, add_over, all_files, alone, child_counted, file_ended, file_fresh, stands_back, stands_by}
use Rattle.rpki_walk.proofs.Tallies.{UpTo, tallies_cut, tallies_next}
use Rattle.rpki_walk.proofs.cost.walk.+count_from.Goals as goal
use Rattle.rpki_walk.proofs.cost.walk.+count_from.Goals.{in-Nothing, in-Refused, in-Attests, in-Child+in_ok-more-in-Child+in_ok-count_from-in-Child+else-not-branch-2}

-- At the file itself.
moved_counts : (w : World) (up on : List (List ℕ)) (ca : Cert) (sets : Resources) (old new : Tally) (u v : List ℕ) → u ≡ v → (b c : Bool) → b ≡ c → CountsFrom w up on u ca sets old new b → CountsFrom w up on v ca sets old new c
moved_counts w up on ca sets old new u v e b c f h = subst (λ (x : List ℕ). CountsFrom w up on x ca sets old new c) e (subst (λ (x : Bool). CountsFrom w up on u ca sets old new x) f h)

-- The files that are gone over are the point's.
same_files : (fs items us gs : List (List ℕ)) → fs ≡ items → ((key : List ℕ) → Mem items key ↔ Mem us key) → us ≡ gs → (u : List ℕ) → Mem fs u ↔ Mem gs u
same_files fs items us gs e s f u = (
  λ m. subst (λ (xs : List (List ℕ)). Mem xs u) f ((s u).0 (subst (λ (xs : List (List ℕ)). Mem xs u) e m)),
  λ m. subst (λ (xs : List (List ℕ)). Mem xs u) (sym e) ((s u).1 (subst (λ (xs : List (List ℕ)). Mem xs u) (sym f) m)),
)

pub returns-then-not-branch-clause-facts : goal.returns-then-not-branch-clause-facts
returns-then-not-branch-clause-facts g t c name a cs st eu acc seen k unseen =
    add_over (g.S.Repository.world c.args.repository.now) name a cs acc c.args.tally.now c.add.new.self c.in_ok-add.field-0 c.if-not-branch.true c.in_ok-add.ensures.room c.in_ok-add.ensures.none seen k unseen

pub returns-in_default-clause-facts : goal.returns-in_default-clause-facts
returns-in_default-clause-facts g t c name a cs st eu acc seen k unseen =
    let w = g.S.Repository.world c.args.repository.now in
    let sets = g.S.Repository.sets c.args.ca.now in
    let ca = g.S.Repository.cert c.args.ca.now in
    let n = read_none g.S.Repository.point w (InSet sets) ca c.in_ok-point.field-0 c.in_default.not-Some c.in_ok-point.ensures.read in
    alone w name a cs acc (λ p s. n p (stands_back w name a cs c.args.chain.now.keys.now c.args.chain.now.uri.now ca sets st p s)) c.add.new.self seen
    (add_first w name a cs acc c.args.tally.now c.add.new.self c.in_ok-add.field-0 c.if-not-branch.false c.in_ok-add.ensures.room c.args.chain.now.above.now c.in_ok-add.ensures.added c.in_ok-add.ensures.budget eu seen k unseen)

pub loop-file-init : goal.loop-file-init
loop-file-init g t c = record {
  same = c.in_ok-point.ensures.same;
  lender = c.in_ok-point.ensures.lender;
  budget = c.in_ok-add.ensures.budget;
  counted = λ name a cs st eu acc seen k unseen.
      add_first (g.S.Repository.world c.args.repository.now) name a cs acc c.args.tally.now c.add.new.self c.in_ok-add.field-0 c.if-not-branch.false c.in_ok-add.ensures.room c.args.chain.now.above.now c.in_ok-add.ensures.added c.in_ok-add.ensures.budget eu seen k unseen;
}

pub classify-requires : goal.classify-requires
classify-requires g t c =
    let fs = c.deref-file-items.result.now in let i = c.loop-file.file-index in let d = c.file-item.result in
    let gs = files (g.S.Repository.cert c.args.ca.now) (g.S.Repository.point c.in-Some.point).manifest in
    let e : get_or fs i d ≡ c.as_slice.result.now = sym (c.as_slice.ensures ∙ c.file-item.is) in
    let same = same_files fs c.in_ok-files.files.items c.uris.result.now gs c.deref-file-items.ensures.value c.in_ok-files.ensures.same c.uris.ensures in
    subst (λ (u : List ℕ). Mem gs u) e ((same (get_or fs i d)).0 (mem_get_or fs i d c.loop-file-test.true))

pub loop-file-preserved : goal.loop-file-preserved
loop-file-preserved g t c =
    let w = g.S.Repository.world c.args.repository.now in
    let w1 = g.S.Repository.world c.loop-file.repository in
    let csets = g.S.Repository.sets c.args.ca.now in
    let held = InSet csets in
    let ca = g.S.Repository.cert c.args.ca.now in
    let on = c.args.chain.now.keys.now in let uri = c.args.chain.now.uri.now in
    let inv = c.loop-file.invariant in
    let fs = c.deref-file-items.result.now in let i = c.loop-file.file-index in let d = c.file-item.result in
    let file = get_or fs i d in
    let l = c.loop-file-test.true in
    let p0 = g.S.Repository.point c.in-Some.point in
    let s0 : StandsIn w held ca p0 = read_some g.S.Repository.point w held ca c.in_ok-point.field-0 c.in-Some.point c.in-Some.is c.in_ok-point.ensures.read in
    let o = c.in_ok-classify.field-0 in
    let cl : Classified g.S.Repository.cert g.S.Repository.sets g.S.Repository.payload w1 held ca p0 on file o = subst (λ (u : List ℕ). Classified g.S.Repository.cert g.S.Repository.sets g.S.Repository.payload w1 held ca p0 on u o) (c.as_slice.ensures ∙ c.file-item.is) c.in_ok-classify.ensures.class in
    let same = same_files fs c.in_ok-files.files.items c.uris.result.now (files ca p0.manifest) c.deref-file-items.ensures.value c.in_ok-files.ensures.same c.uris.ensures in
    let once : NoRepeat fs = subst NoRepeat (sym c.deref-file-items.ensures.value) c.in_ok-files.ensures.apart in
    let m : Mem (files ca p0.manifest) file = (same file).0 (mem_get_or fs i d l) in
    let mid = c.loop-file.tally in
    let ended = file_ended g.S.Repository.cert g.S.Repository.sets g.S.Repository.payload w w1 inv.same c.args.chain.now.above.now on uri ca csets p0 s0 fs i d l o cl c.args.tally.now mid inv.counted in
    elim c.match-branch-7.branch [
      | in-Nothing v ↦ record {
        same = ap (λ q. g.S.Repository.world q) v.repository-is ∙ (c.in_ok-classify.ensures.same ∙ inv.same);
        lender = ap (λ q. g.S.Repository.lender q) v.repository-is ∙ (c.in_ok-classify.ensures.lender ∙ inv.lender);
        budget = ap (λ (q : Tally). q.budget) v.tally-is ∙ inv.budget;
        counted = ended _ v.tally-is (λ x y e. let f = sym v.in-Nothing.is ∙ e in absurd cc);
      }
      | in-Refused v ↦ record {
        same = ap (λ q. g.S.Repository.world q) v.repository-is ∙ (c.in_ok-classify.ensures.same ∙ inv.same);
        lender = ap (λ q. g.S.Repository.lender q) v.repository-is ∙ (c.in_ok-classify.ensures.lender ∙ inv.lender);
        budget = ap (λ (q : Tally). q.budget) v.tally-is ∙ inv.budget;
        counted = ended _ v.tally-is (λ x y e. let f = sym v.in-Refused.is ∙ e in absurd cc);
      }
      | in-Attests v ↦ record {
        same = ap (λ q. g.S.Repository.world q) v.repository-is ∙ (c.in_ok-classify.ensures.same ∙ inv.same);
        lender = ap (λ q. g.S.Repository.lender q) v.repository-is ∙ (c.in_ok-classify.ensures.lender ∙ inv.lender);
        budget = ap (λ (q : Tally). q.budget) v.tally-is ∙ inv.budget;
        counted = ended _ v.tally-is (λ x y e. let f = sym v.in-Attests.is ∙ e in absurd cc);
      }
      | in-Child+in_ok-more-in-Child+in_ok-count_from-in-Child+else-not-branch-2 v ↦ record {
        same = ap (λ q. g.S.Repository.world q) v.repository-is ∙ (v.in_ok-count_from-in-Child.ensures.same ∙ (c.in_ok-classify.ensures.same ∙ inv.same));
        lender = ap (λ q. g.S.Repository.lender q) v.repository-is ∙ (v.in_ok-count_from-in-Child.ensures.lender ∙ (c.in_ok-classify.ensures.lender ∙ inv.lender));
        budget = ap (λ (q : Tally). q.budget) v.tally-is ∙ (v.in_ok-count_from-in-Child.ensures.budget ∙ inv.budget);
        counted = λ name a cs st eu acc seen k unseen. let u = inv.counted name a cs st eu acc seen k unseen in
            let n = child_counted g.S.Repository.cert g.S.Repository.sets g.S.Repository.payload w w1 inv.same name a cs on uri ca csets st p0 p0 s0 s0 file acc o cl v.in-Child.child v.in-Child.key v.in-Child.is m
            v.deref-in-Child.result.now (v.deref-in-Child.ensures.value ∙ v.in_ok-more-in-Child.ensures)
            (g.S.Repository.world c.classify.new.repository) (c.in_ok-classify.ensures.same ∙ inv.same)
            v.deref.result.now (v.deref.ensures.value ∙ (c.in_ok-above.ensures ∙ λ j. st.uri_is j ∷ eu j))
            mid v.count_from.new.tally true
            (moved_counts (g.S.Repository.world c.classify.new.repository) v.deref.result.now v.deref-in-Child.result.now (g.S.Repository.cert v.in-Child.child) (g.S.Repository.sets v.in-Child.child) mid v.count_from.new.tally d file c.file-item.is v.in_ok-count_from-in-Child.field-0 true v.if-not-branch-2.false v.in_ok-count_from-in-Child.ensures.facts)
            u.chains u.tally (file_fresh w name a cs acc fs i d l once seen mid u unseen) in
            subst (λ (q : Tally). Tallies (UpTo (λ x. here w name a cs ≡ x) (BeginsAt w name a cs) (take (i + 1) fs)) seen q true) (sym v.tally-is)
            (tallies_next (λ x. here w name a cs ≡ x) (BeginsAt w name a cs) fs i d l seen mid u v.count_from.new.tally n);
      }
    ]

pub returns-then-not-branch-2-clause-facts : goal.returns-then-not-branch-2-clause-facts
returns-then-not-branch-2-clause-facts g t c name a cs st eu acc seen k unseen =
    let w = g.S.Repository.world c.args.repository.now in
    let w1 = g.S.Repository.world c.loop-file.repository in
    let csets = g.S.Repository.sets c.args.ca.now in
    let held = InSet csets in
    let ca = g.S.Repository.cert c.args.ca.now in
    let on = c.args.chain.now.keys.now in let uri = c.args.chain.now.uri.now in
    let inv = c.loop-file.invariant in
    let fs = c.deref-file-items.result.now in let i = c.loop-file.file-index in let d = c.file-item.result in
    let file = get_or fs i d in
    let l = c.loop-file-test.true in
    let p0 = g.S.Repository.point c.in-Some.point in
    let s0 : StandsIn w held ca p0 = read_some g.S.Repository.point w held ca c.in_ok-point.field-0 c.in-Some.point c.in-Some.is c.in_ok-point.ensures.read in
    let o = c.in_ok-classify.field-0 in
    let cl : Classified g.S.Repository.cert g.S.Repository.sets g.S.Repository.payload w1 held ca p0 on file o = subst (λ (u : List ℕ). Classified g.S.Repository.cert g.S.Repository.sets g.S.Repository.payload w1 held ca p0 on u o) (c.as_slice.ensures ∙ c.file-item.is) c.in_ok-classify.ensures.class in
    let same = same_files fs c.in_ok-files.files.items c.uris.result.now (files ca p0.manifest) c.deref-file-items.ensures.value c.in_ok-files.ensures.same c.uris.ensures in
    let once : NoRepeat fs = subst NoRepeat (sym c.deref-file-items.ensures.value) c.in_ok-files.ensures.apart in
    let m : Mem (files ca p0.manifest) file = (same file).0 (mem_get_or fs i d l) in
    let mid = c.loop-file.tally in
    let u = inv.counted name a cs st eu acc seen k unseen in
    let n = child_counted g.S.Repository.cert g.S.Repository.sets g.S.Repository.payload w w1 inv.same name a cs on uri ca csets st p0 p0 s0 s0 file acc o cl c.in-Child.child c.in-Child.key c.in-Child.is m
    c.deref-in-Child.result.now (c.deref-in-Child.ensures.value ∙ c.in_ok-more-in-Child.ensures)
    (g.S.Repository.world c.classify.new.repository) (c.in_ok-classify.ensures.same ∙ inv.same)
    c.deref.result.now (c.deref.ensures.value ∙ (c.in_ok-above.ensures ∙ λ j. st.uri_is j ∷ eu j))
    mid c.count_from.new.tally false
    (moved_counts (g.S.Repository.world c.classify.new.repository) c.deref.result.now c.deref-in-Child.result.now (g.S.Repository.cert c.in-Child.child) (g.S.Repository.sets c.in-Child.child) mid c.count_from.new.tally d file c.file-item.is c.in_ok-count_from-in-Child.field-0 false c.if-not-branch-2.true c.in_ok-count_from-in-Child.ensures.facts)
    u.chains u.tally (file_fresh w name a cs acc fs i d l once seen mid u unseen) in
    let cut = tallies_cut (λ x. here w name a cs ≡ x) (BeginsAt w name a cs) fs i d l seen mid u c.count_from.new.tally n in
    let there = λ (f : List ℕ). subst (λ (q : Cert). Mem fs f ↔ Mem (files q p0.manifest) f) st.ca_is (same f) in
    all_files w name a cs acc p0 (stands_by w name a cs on uri ca csets st p0 s0) fs (λ f. (there f).0) (λ f. (there f).1) c.count_from.new.tally seen false cut

pub returns-clause-facts : goal.returns-clause-facts
returns-clause-facts g t c name a cs st eu acc seen k unseen =
    let w = g.S.Repository.world c.args.repository.now in
    let csets = g.S.Repository.sets c.args.ca.now in
    let held = InSet csets in
    let ca = g.S.Repository.cert c.args.ca.now in
    let fs = c.deref-file-items.result.now in
    let p0 = g.S.Repository.point c.in-Some.point in
    let s0 : StandsIn w held ca p0 = read_some g.S.Repository.point w held ca c.in_ok-point.field-0 c.in-Some.point c.in-Some.is c.in_ok-point.ensures.read in
    let same = same_files fs c.in_ok-files.files.items c.uris.result.now (files ca p0.manifest) c.deref-file-items.ensures.value c.in_ok-files.ensures.same c.uris.ensures in
    let there = λ (f : List ℕ). subst (λ (q : Cert). Mem fs f ↔ Mem (files q p0.manifest) f) st.ca_is (same f) in
    let all = subst (λ (xs : List (List ℕ)). Tallies (UpTo (λ x. here w name a cs ≡ x) (BeginsAt w name a cs) xs) seen c.loop-file.tally true) (take_all c.loop-file.file-index fs c.loop-file-test.false) (c.loop-file.invariant.counted name a cs st eu acc seen k unseen) in
    all_files w name a cs acc p0 (stands_by w name a cs c.args.chain.now.keys.now c.args.chain.now.uri.now ca csets st p0 s0) fs (λ f. (there f).0) (λ f. (there f).1) c.loop-file.tally seen true all
