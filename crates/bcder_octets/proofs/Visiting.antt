-- A visitor that lets only segments pass.
use Rattle.std.proofs.Common.{◌≡◌, ◌↔◌, ℕ, ◌+◌, Bool, true, false, List, [], ◌∷◌, ◌++◌, Result, Ok, Err, IsOk, Option, Some, None, refl, sym, ap, subst}
use Rattle.bcder_octets.specs.bcder_tree.Tags.{TagValue}
use Rattle.bcder_octets.specs.bcder_tree.Tree.{Tree, Trees, primitive, constructed, none, more}
use Rattle.bcder_octets.specs.bcder_tree.Strings.{octet_string_tag, IsBerString, AreSegments}
use Rattle.bcder_octets.specs.bcder_source.declared.error.ContentError.{ContentError}
use Rattle.bcder_octets.specs.bcder_source.declared.error.DecodeError.{DecodeError}
use Rattle.bcder_octets.specs.bcder_source.declared.error.DecodeError.TheVariants.{Content, Source, Memory}
use Rattle.bcder_octets.specs.bcder_content.Nodes.{Node, nodes, nodes_all}
use Rattle.bcder_octets.specs.bcder_content.SkipValues.{Visits, Accepts, Refuses}
use Rattle.bcder_octets.specs.bcder_content.Contents.{ValuesLeft}
use Rattle.bcder_octets.specs.bcder_content.Exact.{ReadsNextAs}
use Rattle.bcder_octets.specs.bcder_content.Skips.{SkipsOpt}
use Rattle.bcder_octets.specs.Parts.{FitsPart, PartCases, IsPart}

abbrev AllFit : Bool → List Node → Type 0
AllFit nested [] = Unit {0}
AllFit nested (n ∷ ns) = FitsPart nested n.tag n.form × AllFit nested ns

fit_both : (nested : Bool) (a b : List Node) → AllFit nested (a ++ b) → AllFit nested a × AllFit nested b
fit_both nested [] b f = (tt, f)
fit_both nested (n ∷ a) b f = let r = fit_both nested a b f.1 in ((f.0, r.0), r.1)

both_fit : (nested : Bool) (a b : List Node) → AllFit nested a → AllFit nested b → AllFit nested (a ++ b)
both_fit nested [] b f g = g
both_fit nested (n ∷ a) b f g = (f.0, both_fit nested a b f.1 g)

mutual
  fit_string : (depth : ℕ) (t : Tree) → AllFit true (nodes depth t) → (octets : List ℕ) × IsBerString octet_string_tag t octets
  fit_string depth (primitive u v) f = (v, (f.0.tag_is, refl))
  fit_string depth (constructed u ts) f = let r = fit_segments (depth + 1) ts f.1 in (r.0, (f.0.tag_is, r.1))

  fit_segments : (depth : ℕ) (ts : Trees) → AllFit true (nodes_all depth ts) → (octets : List ℕ) × AreSegments ts octets
  fit_segments depth none f = ([], refl)
  fit_segments depth (more t ts) f =
      let b = fit_both true (nodes depth t) (nodes_all depth ts) f in
      let x = fit_string depth t b.0 in
      let y = fit_segments depth ts b.1 in
      (x.0 ++ y.0, (x.0, y.0, x.1, y.1, refl))

mutual
  string_fits : (depth : ℕ) (t : Tree) (octets : List ℕ) → IsBerString octet_string_tag t octets → AllFit true (nodes depth t)
  string_fits depth (primitive u v) octets s = (record { tag_is = s.0; may_nest = λ e. refl }, tt)
  string_fits depth (constructed u ts) octets s = (record { tag_is = s.0; may_nest = λ e. refl }, segments_fit (depth + 1) ts octets s.1)

  segments_fit : (depth : ℕ) (ts : Trees) (octets : List ℕ) → AreSegments ts octets → AllFit true (nodes_all depth ts)
  segments_fit depth none octets s = tt
  segments_fit depth (more t ts) octets s = both_fit true (nodes depth t) (nodes_all depth ts) (string_fits depth t s.0 s.2) (segments_fit depth ts s.1 s.3)

part_fits : (nested : Bool) (t : Tree) → PartCases nested t → AllFit nested (nodes 0 t)
part_fits true t p = string_fits 0 t p.0 p.1
part_fits false t p = subst (λ (u : Tree). AllFit false (nodes 0 u)) (sym p.1) (record { tag_is = refl; may_nest = λ e. e }, tt)

fit_part : (nested : Bool) (t : Tree) → AllFit nested (nodes 0 t) → PartCases nested t
fit_part true t f = fit_string 0 t f
fit_part false (primitive u v) f = (v, ap (λ (z : TagValue). primitive z v) f.0.tag_is)
fit_part false (constructed u ts) f = let e : false ≡ true = f.0.may_nest refl in absurd cc

-- The visitor accepts a value exactly where it may stand in a string.
pub record TellsPart {F : Type 0} (step : Visits F) (nested : Bool) : Type 0 where
  pub each : (a : F) (t : TagValue) (k : Bool) (d : ℕ) (r : Result (Unit {0}) ContentError) (b : F) → step a t k d r b → IsOk r ↔ FitsPart nested t k

accepted_fit : {F : Type 0} (step : Visits F) (nested : Bool) (p q : F) (ns : List Node) → TellsPart step nested → Accepts step p ns q → AllFit nested ns
accepted_fit step nested p q [] told a = tt
accepted_fit step nested p q (n ∷ ns) told a = ((told.each p n.tag n.form n.depth (Ok tt) a.0 a.1).0 refl, accepted_fit step nested a.0 q ns told a.2)

refused_fits : {F : Type 0} (step : Visits F) (nested : Bool) (p : F) (ns : List Node) (error : ContentError) → TellsPart step nested → Refuses step p ns error → AllFit nested ns → ⊥
refused_fits step nested p ns error told r f =
    let others = (fit_both nested r.done (r.node ∷ r.others) (subst (AllFit nested) r.whole f)).1 in
    let e : false ≡ true = (told.each r.before r.node.tag r.node.form r.node.depth (Err error) r.after r.refused).1 others.0 in cc

pub skipped_part : {F E : Type 0} (step : Visits F) (p : F) (nested : Bool) (old : ValuesLeft) (r : Result (Option (Unit {0})) (DecodeError E)) (new : ValuesLeft) → TellsPart step nested → SkipsOpt step p old r new → ReadsNextAs (λ x. x) (IsPart nested) old r new
skipped_part step p nested old (Ok (Some x)) new told s = record { tree = s.tree; is = record { cases = fit_part nested s.tree (accepted_fit step nested p s.last (nodes 0 s.tree) told s.accepted) }; took = s.took }
skipped_part step p nested old (Ok None) new told s = s
skipped_part step p nested old (Err (Content error pos)) new told s = (record { none = λ t x part a. refused_fits step nested p (nodes 0 t) error told (s.0.refused t a) (part_fits nested t part.cases) }, s.1)
skipped_part step p nested old (Err (Source error)) new told s = tt
skipped_part step p nested old (Err Memory) new told s = tt
