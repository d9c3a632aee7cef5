use Rattle.std.proofs.Common.{◌≡◌, ◌<◌, ◌+◌, ℕ, false, List, [], ◌∷◌, ◌++◌, length, get_or, take, drop, All, sym, ap, subst, ◌∙◌, arith}
use Rattle.std.specs.List.{AllZip}
use Rattle.std.proofs.lemmas.List.{get_or_default, map-append}
use Rattle.std.proofs.lemmas.List.Elements.{AllZip-push}
use Rattle.objects_rta_valid.specs.Kept.{Kept, paths_of}
use Rattle.objects_rta_valid.specs.Nodes.{Node, each_octets}
use Rattle.objects_rta_valid.specs.Paths.{HasNoOnlyPath, IsOnlyPath}
use Rattle.objects_rta_valid.specs.Runs.{AreInside, AreMeasured, Forks, IsMeasured, walk}
use Rattle.objects_rta_valid.specs.Tables.{IsEntry, IsFirst, Picks}
use Rattle.objects_rta_valid.specs.declared.paths.lengths.Length.{Length}
use Rattle.objects_rta_valid.specs.declared.paths.lengths.Start.{Start}
use Rattle.objects_rta_valid.specs.declared.paths.table.Found.{Found}
use Rattle.objects_rta_valid.proofs.KeptPaths.{handed_back, kept_next, match_none, match_some, path_inside, path_some}
use Rattle.objects_rta_valid.proofs.Only.{first_inside, graph_inside, none_first_of, none_run, only_run}
use Rattle.objects_rta_valid.proofs.Sets.{each_at, each_length, each_more, lent_none}
use Rattle.objects_rta_valid.proofs.paths.find.paths.Goals.{In-One}
use Rattle.objects_rta_valid.proofs.paths.find.paths.Goals as goal

first_of : (c : In-One) → IsFirst c.args.nodes.now (get_or c.args.signers.now c.loop-signer.signer-index lent_none).now c.in-One.first
first_of c =
    subst (λ (f : Found). Picks (IsEntry c.args.nodes.now false (get_or c.args.signers.now c.loop-signer.signer-index lent_none).now) f) (sym c.find.ensures ∙ c.in-One.is) (c.in_ok-subjects.ensures (get_or c.args.signers.now c.loop-signer.signer-index lent_none).now)

pub returns-in_default : goal.returns-in_default
returns-in_default c =
    let i = c.loop-signer.signer-index in
    let nodes : List Node = c.args.nodes.now in
    let key : List ℕ = (get_or c.args.signers.now i lent_none).now in
    let none : HasNoOnlyPath nodes key = none_first_of nodes key c.find.result (subst (λ (f : Found). Picks (IsEntry nodes false key) f) (sym c.find.ensures) (c.in_ok-subjects.ensures key)) c.in_default.not-One in
    let size = each_length c.args.signers.now in
    let l : i < length c.args.signers.now = c.loop-signer-test.true in
    let inside : i < length (each_octets c.args.signers.now) = omega arith in
    (i, key, inside, get_or_default (each_octets c.args.signers.now) i key [] inside ∙ each_at c.args.signers.now i, none)

pub length_of-requires-clause-inside : goal.length_of-requires-clause-inside
length_of-requires-clause-inside c =
    subst (λ (ss : List Found). AreInside ss) (sym c.deref.ensures.value) (graph_inside c.args.nodes.now c.in_ok-steps.steps.items c.in_ok-steps.ensures)

pub length_of-requires-clause-first : goal.length_of-requires-clause-first
length_of-requires-clause-first c =
    let one = (goal.at.length_of-requires-clause-first c).In-One in
    let l : c.in-One.first < length c.args.nodes.now = first_inside c.args.nodes.now (get_or c.args.signers.now c.loop-signer.signer-index lent_none).now c.in-One.first (first_of one) in
    let size = c.in_ok-steps.ensures.size in
    let same = ap (λ (ss : List Found). length ss) c.deref.ensures.value in
    omega (arith, size, same)

pub returns-in_default-2 : goal.returns-in_default-2
returns-in_default-2 c =
    let i = c.loop-signer.signer-index in
    let one = (goal.at.returns-in_default-2 c).In-One in
    let nodes : List Node = c.args.nodes.now in
    let key : List ℕ = (get_or c.args.signers.now i lent_none).now in
    let lent : Forks c.deref.result.now c.in-One.first = match_none c.in_ok-count.field-0 (Forks c.deref.result.now c.in-One.first) (IsMeasured c.deref.result.now c.deref_mut.result.now c.length_of.new.lengths c.in-One.first) c.in_default-2.is c.in_ok-count.ensures in
    let forks : Forks c.in_ok-steps.steps.items c.in-One.first = subst (λ (ss : List Found). Forks ss c.in-One.first) c.deref.ensures.value lent in
    let none : HasNoOnlyPath nodes key = none_run nodes key c.in_ok-steps.steps.items c.in_ok-steps.ensures c.in-One.first (first_of one) forks in
    let size = each_length c.args.signers.now in
    let l : i < length c.args.signers.now = c.loop-signer-test.true in
    let inside : i < length (each_octets c.args.signers.now) = omega arith in
    (i, key, inside, get_or_default (each_octets c.args.signers.now) i key [] inside ∙ each_at c.args.signers.now i, none)

pub loop-signer-preserved : goal.loop-signer-preserved
loop-signer-preserved c =
    let i = c.loop-signer.signer-index in
    let inv = c.loop-signer.invariant in
    let one = (goal.at.loop-signer-preserved c).In-One in
    let nodes : List Node = c.args.nodes.now in
    let key : List ℕ = (get_or c.args.signers.now i lent_none).now in
    let steps : List Found = c.in_ok-steps.steps.items in
    let old : List Length = c.loop-signer.lengths.items in
    let new : List Length = c.length_of.new.lengths in
    let first : ℕ = c.in-One.first in
    let count : ℕ = c.in-Some.count in
    let starts : List Start = c.loop-signer.starts.items in
    let start : Start = record { first = first; count = count } in
    let lent : IsMeasured c.deref.result.now c.deref_mut.result.now new first count = match_some c.in_ok-count.field-0 count (Forks c.deref.result.now first) (IsMeasured c.deref.result.now c.deref_mut.result.now new first) c.in-Some.is c.in_ok-count.ensures in
    let half : IsMeasured steps c.deref_mut.result.now new first count = subst (λ (ss : List Found). IsMeasured ss c.deref_mut.result.now new first count) c.deref.ensures.value lent in
    let m : IsMeasured steps old new first count = subst (λ (ls : List Length). IsMeasured steps ls new first count) c.deref_mut.ensures.value half in
    let back : take c.loop-signer.lengths.len (new ++ drop (length new) old) ≡ new = handed_back c.loop-signer.lengths.len new old c.loop-signer.lengths.ok.0 (m.measured.size ∙ sym inv.measured.size) in
    let only : IsOnlyPath nodes key (walk steps count first) = only_run nodes key steps c.in_ok-steps.ensures first count (first_of one) m.path in
    let inside : All (λ place. place < length steps) (walk steps count first) = subst (λ (n : ℕ). All (λ (place : ℕ). place < n) (walk steps count first)) (sym c.in_ok-steps.ensures.size) (path_inside nodes key (walk steps count first) only.is) in
    let kept = kept_next steps old new (paths_of steps starts) first count inv.kept m (path_some nodes key (walk steps count first) only.is) inside in
    let more : paths_of steps c.push.new.self.items ≡ paths_of steps starts ++ walk steps count first ∷ [] = ap (λ (ss : List Start). paths_of steps ss) c.in_ok-push.ensures.items ∙ map-append (λ (s : Start). walk steps s.count s.first) starts (start ∷ []) in
    let each = AllZip-push (IsOnlyPath nodes) (take i (each_octets c.args.signers.now)) (paths_of steps starts) key (walk steps count first) inv.each only in
    let each_sids = subst (λ (sids : List (List ℕ)). AllZip (IsOnlyPath nodes) sids (paths_of steps starts ++ walk steps count first ∷ [])) (sym (each_more c.args.signers.now i c.loop-signer-test.true)) each in
    record {
      measured = subst (λ (ls : List Length). AreMeasured steps ls) (sym back) m.measured;
      each = subst (λ (ps : List (List ℕ)). AllZip (IsOnlyPath nodes) (take (i + 1) (each_octets c.args.signers.now)) ps) (sym more) each_sids;
      kept = subst (λ (ls : List Length). Kept steps ls (paths_of steps c.push.new.self.items)) (sym back) (subst (λ (ps : List (List ℕ)). Kept steps new ps) (sym more) kept);
    }
