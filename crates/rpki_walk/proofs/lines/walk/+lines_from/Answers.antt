use Rattle.std.proofs.Common.{◌≡◌, Option, ℕ, ◌+◌, List, [], take, take_all, get_or, drop, length, refl, sym, ap, subst, ◌∙◌}
use Rattle.std.specs.Prelude.{IfSome}
use Rattle.rpki_rules.specs.World.{World}
use Rattle.rpki_rules.specs.Words.{Mem}
use Rattle.rpki_walk.specs.resources.Resources.{Resources}
use Rattle.rpki_rules.specs.Certs.{Cert}
use Rattle.rpki_rules.specs.Kinds.{Kind, InSet}
use Rattle.rpki_rules.specs.Points.{Link, Point, files}
use Rattle.rpki_rules.specs.Chains.{places, StandsIn}
use Rattle.rpki_rules.specs.Views.{PathValue}
use Rattle.rpki_walk.specs.Facts.{Finding, Refuses, Gains, Classified}
use Rattle.rpki_walk.specs.Alike.{IsPrinted}
use Rattle.rpki_walk.specs.Remembered.{IsRemembered}
use Rattle.rpki_walk.specs.Walked.{has_lines, Continues, MeetsFile, WalksLines}
use Rattle.rpki_walk.specs.declared.lines.walk.LinesWalk.{LinesWalk}
use Rattle.rpki_walk.proofs.Mems.{mem_get_or}
use Rattle.rpki_walk.proofs.Findings.{read_none, read_some, arm_nothing, arm_refused, arm_attests}
use Rattle.rpki_walk.proofs.Walked.{remembered_tells, walked_more}
use Rattle.rpki_walk.proofs.Below.{TellsUpTo, up_start, up_ended, child_step, none_told, all_told, below_nothing, below_refused, below_attests}
use Rattle.rpki_walk.proofs.lines.walk.+lines_from.Goals as goal
use Rattle.rpki_walk.proofs.lines.walk.+lines_from.Goals.{in-Nothing, in-Refused+in_ok-refuse-in-Refused, in-Attests+in_ok-show-in-Attests, in-Child+in_ok-more-in-Child+in_ok-since-in-Child}

-- At the file itself.
moved_refuse : (old new : Finding → Type 0) (u v : List ℕ) (why : Rattle.rpki_rules.specs.declared.cause.Cause.Cause) → u ≡ v → Gains IsPrinted old (λ x. Refuses u why ≡ x) new → Gains IsPrinted old (λ x. Refuses v why ≡ x) new
moved_refuse old new u v why e g = subst (λ (z : List ℕ). Gains IsPrinted old (λ x. Refuses z why ≡ x) new) e g

moved_keyed : (w : World) (held : Kind → ℕ → Type 0) (ca : Cert) (p : Point) (met : List (List ℕ)) (u v : List ℕ) → u ≡ v → MeetsFile w held ca p u met → MeetsFile w held ca p v met
moved_keyed w held ca p met u v e k = subst (λ (z : List ℕ). MeetsFile w held ca p z met) e k

moved_lines : (w : World) (on : List (List ℕ)) (ca : Cert) (sets : Resources) (old new : LinesWalk) (since : ℕ) (u v : List ℕ) → u ≡ v → WalksLines w on u ca sets old new since → WalksLines w on v ca sets old new since
moved_lines w on ca sets old new since u v e h = subst (λ (z : List ℕ). WalksLines w on z ca sets old new since) e h

moved_up : (w : World) (first q s : LinesWalk) (n m : ℕ) (name : List ℕ) (a : Link) (cs : List Link) (p : Point) (xs : List (List ℕ)) → q ≡ s → n ≡ m → TellsUpTo w first s name a cs p xs m → TellsUpTo w first q name a cs p xs n
moved_up w first q s n m name a cs p xs e k t = subst (λ (z : LinesWalk). TellsUpTo w first z name a cs p xs n) (sym e) (subst (λ (j : ℕ). TellsUpTo w first s name a cs p xs j) (sym k) t)

pub returns-in-Some-clause-facts : goal.returns-in-Some-clause-facts
returns-in-Some-clause-facts g t c =
    let sets = g.S.Repository.sets c.args.ca.now in
    let walk = c.args.walk.now in
    remembered_tells (g.S.Repository.world c.args.repository.now) walk c.args.uri.now (g.S.Repository.cert c.args.ca.now) sets sets c.args.keys.now c.in-Some.from refl
    (subst (λ (o : Option ℕ). IfSome o (IsRemembered walk.before.walked.items walk.met.items c.args.uri.now c.args.keys.now sets)) c.in-Some.is c.in_ok-from.ensures)

pub returns-in_default-2-clause-facts : goal.returns-in_default-2-clause-facts
returns-in_default-2-clause-facts g t c name a cs st acc all =
    let w = g.S.Repository.world c.args.repository.now in
    let sets = g.S.Repository.sets c.args.ca.now in
    let ca = g.S.Repository.cert c.args.ca.now in
    none_told w c.args.walk.now name a cs c.args.keys.now c.args.uri.now ca sets st acc (record { lines = c.refuse.new.self; met = c.args.walk.now.met; before = c.args.walk.now.before }) _
    (read_none g.S.Repository.point w (InSet sets) ca c.in_ok-point.field-0 c.in_default-2.not-Some c.in_ok-point.ensures.read)
    c.in_ok-refuse.ensures refl refl all

pub classify_met-requires : goal.classify_met-requires
classify_met-requires g t c =
    let fs = c.uris-file-items.result.now in let i = c.loop-file.file-index in let d = c.file-item.result in
    let e : get_or fs i d ≡ c.as_slice.result.now = sym (c.as_slice.ensures ∙ c.file-item.is) in
    subst (λ (u : List ℕ). Mem (files (g.S.Repository.cert c.args.ca.now) (g.S.Repository.point c.in-Some-2.point).manifest) u) e
    (subst (λ (xs : List (List ℕ)). Mem xs (get_or fs i d)) c.uris-file-items.ensures (mem_get_or fs i d c.loop-file-test.true))

pub loop-file-init : goal.loop-file-init
loop-file-init g t c = record {
  same = c.in_ok-point.ensures.same;
  lender = c.in_ok-point.ensures.lender;
  told = λ name a cs p st acc s all. up_start (g.S.Repository.world c.args.repository.now) c.args.walk.now name a cs p _ c.met_count-from.ensures all;
}

pub loop-file-preserved : goal.loop-file-preserved
loop-file-preserved g t c =
    let w = g.S.Repository.world c.args.repository.now in
    let w1 = g.S.Repository.world c.loop-file.repository in
    let held = InSet (g.S.Repository.sets c.args.ca.now) in
    let ca = g.S.Repository.cert c.args.ca.now in
    let csets = g.S.Repository.sets c.args.ca.now in
    let on = c.args.keys.now in let uri = c.args.uri.now in
    let inv = c.loop-file.invariant in
    let fs = c.uris-file-items.result.now in let i = c.loop-file.file-index in let d = c.file-item.result in
    let file = get_or fs i d in
    let l = c.loop-file-test.true in
    let p0 = g.S.Repository.point c.in-Some-2.point in
    let s0 : StandsIn w held ca p0 = read_some g.S.Repository.point w held ca c.in_ok-point.field-0 c.in-Some-2.point c.in-Some-2.is c.in_ok-point.ensures.read in
    let o = c.in_ok-classify_met.field-0 in
    let here = c.as_slice.ensures ∙ c.file-item.is in
    let cl : Classified g.S.Repository.cert g.S.Repository.sets g.S.Repository.payload w1 held ca p0 on file o = subst (λ (u : List ℕ). Classified g.S.Repository.cert g.S.Repository.sets g.S.Repository.payload w1 held ca p0 on u o) here c.in_ok-classify_met.ensures.class in
    let m : Mem (files ca p0.manifest) file = subst (λ (xs : List (List ℕ)). Mem xs file) c.uris-file-items.ensures (mem_get_or fs i d l) in
    let first = c.args.walk.now in
    let gone = c.loop-file.walk in
    let seen = c.classify_met.new.self in
    let mid : LinesWalk = record { lines = seen.lines; met = gone.met; before = seen.before } in
    let here_is : mid ≡ gone = λ j. record { lines = c.in_ok-classify_met.ensures.lines j; met = gone.met; before = c.in_ok-classify_met.ensures.before j } in
    let met = drop (length mid.met.items) seen.met.items in
    let grown : Continues mid.met.items seen.met.items = c.in_ok-classify_met.ensures.grown in
    let keyed : MeetsFile w1 held ca p0 file met = moved_keyed w1 held ca p0 met c.as_slice.result.now file here c.in_ok-classify_met.ensures.keyed in
    let old = has_lines mid.lines in
    elim c.match-branch-7.branch [
      | in-Nothing v ↦ record {
        same = ap (λ q. g.S.Repository.world q) v.repository-is ∙ (c.in_ok-classify_met.ensures.same ∙ inv.same);
        lender = ap (λ q. g.S.Repository.lender q) v.repository-is ∙ (c.in_ok-classify_met.ensures.lender ∙ inv.lender);
        told = λ name a cs p st acc s all. let u = moved_up w first mid gone c.loop-file.from c.loop-file.from name a cs p (take i fs) here_is refl (inv.told name a cs p st acc s all) in
            let path : PathValue = record { locator = name; chain = places a cs } in
            moved_up w first _ _ _ _ name a cs p (take (i + 1) fs) v.walk-is v.from-is
            (up_ended w first mid seen name a cs p fs i d c.loop-file.from l u
            (arm_nothing g.S.Repository.cert g.S.Repository.sets g.S.Repository.payload IsPrinted [] w w1 inv.same name a cs path on uri ca csets st acc p p0 s s0 file o cl v.in-Nothing.is old)
            grown refl
            (below_nothing g.S.Repository.cert g.S.Repository.sets g.S.Repository.payload w w1 inv.same name a cs on uri ca csets st p p0 s s0 file met o v.in-Nothing.is cl keyed));
      }
      | in-Refused+in_ok-refuse-in-Refused v ↦ record {
        same = ap (λ q. g.S.Repository.world q) v.repository-is ∙ (c.in_ok-classify_met.ensures.same ∙ inv.same);
        lender = ap (λ q. g.S.Repository.lender q) v.repository-is ∙ (c.in_ok-classify_met.ensures.lender ∙ inv.lender);
        told = λ name a cs p st acc s all. let u = moved_up w first mid gone c.loop-file.from c.loop-file.from name a cs p (take i fs) here_is refl (inv.told name a cs p st acc s all) in
            let path : PathValue = record { locator = name; chain = places a cs } in
            moved_up w first _ _ _ _ name a cs p (take (i + 1) fs) v.walk-is v.from-is
            (up_ended w first mid _ name a cs p fs i d c.loop-file.from l u
            (arm_refused g.S.Repository.cert g.S.Repository.sets g.S.Repository.payload IsPrinted [] w w1 inv.same name a cs path on uri ca csets st acc p p0 s s0 file o cl v.in-Refused.cause v.in-Refused.is old _
            (moved_refuse old _ d file v.in-Refused.cause c.file-item.is v.in_ok-refuse-in-Refused.ensures))
            grown refl
            (below_refused g.S.Repository.cert g.S.Repository.sets g.S.Repository.payload w w1 inv.same name a cs on uri ca csets st p p0 s s0 file met o v.in-Refused.cause v.in-Refused.is cl keyed));
      }
      | in-Attests+in_ok-show-in-Attests v ↦ record {
        same = ap (λ q. g.S.Repository.world q) v.repository-is ∙ (c.in_ok-classify_met.ensures.same ∙ inv.same);
        lender = ap (λ q. g.S.Repository.lender q) v.repository-is ∙ (c.in_ok-classify_met.ensures.lender ∙ inv.lender);
        told = λ name a cs p st acc s all. let u = moved_up w first mid gone c.loop-file.from c.loop-file.from name a cs p (take i fs) here_is refl (inv.told name a cs p st acc s all) in
            let path : PathValue = record { locator = name; chain = places a cs } in
            moved_up w first _ _ _ _ name a cs p (take (i + 1) fs) v.walk-is v.from-is
            (up_ended w first mid _ name a cs p fs i d c.loop-file.from l u
            (arm_attests g.S.Repository.cert g.S.Repository.sets g.S.Repository.payload IsPrinted [] w w1 inv.same name a cs path on uri ca csets st acc p p0 s s0 file o cl v.in-Attests.payload v.in-Attests.is old _
            (v.in_ok-show-in-Attests.ensures (record { locator = name; chain = places a cs; object = file })))
            grown refl
            (below_attests g.S.Repository.cert g.S.Repository.sets g.S.Repository.payload w w1 inv.same name a cs on uri ca csets st p p0 s s0 file met o v.in-Attests.payload v.in-Attests.is cl keyed));
      }
      | in-Child+in_ok-more-in-Child+in_ok-since-in-Child v ↦ record {
        same = ap (λ q. g.S.Repository.world q) v.repository-is ∙ (v.in_ok-since-in-Child.ensures.same ∙ (c.in_ok-classify_met.ensures.same ∙ inv.same));
        lender = ap (λ q. g.S.Repository.lender q) v.repository-is ∙ (v.in_ok-since-in-Child.ensures.lender ∙ (c.in_ok-classify_met.ensures.lender ∙ inv.lender));
        told = λ name a cs p st acc s all. let u = moved_up w first mid gone c.loop-file.from c.loop-file.from name a cs p (take i fs) here_is refl (inv.told name a cs p st acc s all) in
            let v1 = g.S.Repository.world c.classify_met.new.repository in
            let cert = g.S.Repository.cert v.in-Child.child in
            let sets = g.S.Repository.sets v.in-Child.child in
            moved_up w first _ _ _ _ name a cs p (take (i + 1) fs) v.walk-is v.from-is
            (child_step g.S.Repository.cert g.S.Repository.sets g.S.Repository.payload w w1 inv.same name a cs on uri ca csets st p p0 s s0 file acc o v.in-Child.child v.in-Child.key v.in-Child.is cl m
            v.deref.result.now (v.deref.ensures.value ∙ v.in_ok-more-in-Child.ensures) v1 (c.in_ok-classify_met.ensures.same ∙ inv.same) seen _ v.in_ok-since-in-Child.since
            (moved_lines v1 v.deref.result.now cert sets seen _ v.in_ok-since-in-Child.since d file c.file-item.is v.in_ok-since-in-Child.ensures.facts)
            (walked_more w mid seen refl grown (λ x n h. h) u.walked)
            first mid fs i d c.loop-file.from _ refl l refl grown keyed u v.min-from.ensures);
      }
    ]

pub returns-clause-facts : goal.returns-clause-facts
returns-clause-facts g t c name a cs st acc all =
    let w = g.S.Repository.world c.args.repository.now in
    let sets = g.S.Repository.sets c.args.ca.now in
    let ca = g.S.Repository.cert c.args.ca.now in
    let p0 = g.S.Repository.point c.in-Some-2.point in
    let fs = c.uris-file-items.result.now in
    let s0 : StandsIn w (InSet sets) ca p0 = read_some g.S.Repository.point w (InSet sets) ca c.in_ok-point.field-0 c.in-Some-2.point c.in-Some-2.is c.in_ok-point.ensures.read in
    let told = subst (λ (xs : List (List ℕ)). TellsUpTo w c.args.walk.now c.loop-file.walk name a cs p0 xs c.loop-file.from) (take_all c.loop-file.file-index fs c.loop-file-test.false) (c.loop-file.invariant.told name a cs p0 st acc s0 all) in
    all_told w c.args.walk.now name a cs c.args.keys.now c.args.uri.now ca sets st acc c.loop-file.walk c.remember.new.self c.in_ok-held.held c.loop-file.from p0 fs c.in_ok-held.ensures s0 c.uris-file-items.ensures c.in_ok-remember.ensures.remembered c.in_ok-remember.ensures.lines c.in_ok-remember.ensures.met told
