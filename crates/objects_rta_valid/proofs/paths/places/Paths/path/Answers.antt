use Rattle.std.proofs.Common.{◌≡◌, ◌<◌, ℕ, List, [], Some, slice_get, length, get_or, All, sym, ap, subst, ◌∙◌, arith}
use Rattle.std.proofs.lemmas.List.{get_or-map, length-map}
use Rattle.objects_rta_valid.specs.Kept.{paths_of}
use Rattle.objects_rta_valid.specs.Paths.{PathsValue}
use Rattle.objects_rta_valid.specs.Runs.{walk}
use Rattle.objects_rta_valid.specs.declared.paths.lengths.Start.{Start}
use Rattle.objects_rta_valid.specs.declared.paths.table.Found.{Found}
use Rattle.objects_rta_valid.proofs.KeptPaths.{kept_at, kept_inside, kept_some}
use Rattle.objects_rta_valid.proofs.paths.places.Paths.path.Goals as goal

inside_of : (c : goal.After-as_slice) → c.args.signer < length (paths_of c.self.inside.steps.items c.self.inside.starts.items)
inside_of c =
    let paths : paths_of c.self.inside.steps.items c.self.inside.starts.items ≡ c.args.self.now.paths = ap (λ (v : PathsValue). v.paths) c.self.view_is in
    let size = ap (λ (ps : List (List ℕ)). length ps) paths in
    let l : c.args.signer < length c.args.self.now.paths = c.requires in
    omega (arith, size)

path_is : (c : goal.After-as_slice) → walk c.as_slice.result.now c.index-start.result.now.count c.index-start.result.now.first ≡ get_or (paths_of c.self.inside.steps.items c.self.inside.starts.items) c.args.signer []
path_is c =
    let start : Start = c.index-start.result.now in
    let f : Start → List ℕ = λ s. walk c.self.inside.steps.items s.count s.first in
    let l = inside_of c in
    let size = length-map c.self.inside.starts.items f in
    ap (λ (ss : List Found). walk ss start.count start.first) c.as_slice.ensures.value
    ∙ (ap f c.index-start.ensures ∙ sym (get_or-map f c.self.inside.starts.items c.args.signer start [] (omega arith)))

pub invariant_of-result : goal.invariant_of-result
invariant_of-result c =
    let path = walk c.as_slice.result.now c.index-start.result.now.count c.index-start.result.now.first in
    let size = ap (λ (ss : List Found). length ss) c.as_slice.ensures.value in
    subst (λ (n : ℕ). All (λ (place : ℕ). place < n) path) (sym size)
    (kept_inside c.self.inside.steps.items c.self.inside.lengths.items (paths_of c.self.inside.steps.items c.self.inside.starts.items) c.self.invariant c.args.signer (inside_of c) path (path_is c))

pub returns-clause-path : goal.returns-clause-path
returns-clause-path c =
    let path = walk c.as_slice.result.now c.index-start.result.now.count c.index-start.result.now.first in
    let paths : paths_of c.self.inside.steps.items c.self.inside.starts.items ≡ c.args.self.now.paths = ap (λ (v : PathsValue). v.paths) c.self.view_is in
    subst (λ (ps : List (List ℕ)). slice_get ps c.args.signer ≡ Some path) paths
    (kept_at c.self.inside.steps.items c.self.inside.lengths.items (paths_of c.self.inside.steps.items c.self.inside.starts.items) c.self.invariant c.args.signer (inside_of c) path (path_is c))

pub returns-clause-some : goal.returns-clause-some
returns-clause-some c =
    let path = walk c.as_slice.result.now c.index-start.result.now.count c.index-start.result.now.first in
    kept_some c.self.inside.steps.items c.self.inside.lengths.items (paths_of c.self.inside.steps.items c.self.inside.starts.items) c.self.invariant c.args.signer (inside_of c) path (path_is c)

pub returns-clause-inside : goal.returns-clause-inside
returns-clause-inside c =
    let path = walk c.as_slice.result.now c.index-start.result.now.count c.index-start.result.now.first in
    let count = ap (λ (v : PathsValue). v.count) c.self.view_is in
    subst (λ (n : ℕ). All (λ (place : ℕ). place < n) path) count
    (kept_inside c.self.inside.steps.items c.self.inside.lengths.items (paths_of c.self.inside.steps.items c.self.inside.starts.items) c.self.invariant c.args.signer (inside_of c) path (path_is c))
