-- A closure that reads one value exactly, where its octets are kept.
use Rattle.std.proofs.Common.{◌≡◌, true, false, Result, Ok, Err, refl, sym, ap, ◌∙◌, subst}
use Rattle.bcder_content.specs.bcder_tree.declared.mode.Mode.{Mode}
use Rattle.bcder_content.specs.bcder_source.declared.error.DecodeError.{DecodeError}
use Rattle.bcder_content.specs.bcder_source.declared.error.DecodeError.TheVariants.{Content, Source, Memory}
use Rattle.bcder_content.specs.bcder_tree.Tree.{Tree, Spells}
use Rattle.bcder_content.specs.bcder_source.Views.{Reading}
use Rattle.bcder_content.specs.declared.constructed.Constructed.{Constructed}
use Rattle.bcder_content.specs.Contents.{ValuesLeft}
use Rattle.bcder_content.specs.Exact.{Lacks, ReadsAs}
use Rattle.bcder_content.specs.Grammar.{ExactlyOf}
use Rattle.bcder_content.specs.Here.{here}
use Rattle.bcder_content.specs.Kept.{CapturedValue}
use Rattle.bcder_content.specs.ClosureReads.{Reader, ClosureReadsIn}
use Rattle.bcder_content.specs.Captures.{rest_of, cut, was_failed, was_refused, CapturesCases, Captures}
use Rattle.bcder_content.proofs.Decoding.{ValueEach, value_met}
use Rattle.bcder_content.proofs.Kept.{ahead_cut, same_text}

lacks_kept : {B : Type 0} {P : Tree → B → Type 0} {v : ValuesLeft} (m : Mode) → Lacks P (cut v) → Lacks (ExactlyOf m P) v
lacks_kept m l = record { none = λ t o p a. l.none t p.x p.is (ahead_cut a) }

in_slice : {F B D : Type 0} {m : Mode} {g : Reader F (Constructed Reading) (Unit {0}) D} {op : F} {f : Unit {0} → B} {P : Tree → B → Type 0} (v : ValuesLeft) {r : Result (Unit {0}) (DecodeError D)} {end : ValuesLeft} → v.mode ≡ m → ValueEach m rest_of g op f P → ClosureReadsIn rest_of g op (cut v) r end → ReadsAs f P (cut v) r end
in_slice {F} {B} {D} {m} {g} {op} {f} {P} v {r} {end} mode exact on =
    subst (λ (w : ValuesLeft). ReadsAs f P (cut v) r w) on.ends
    (subst (λ (w : ValuesLeft). ReadsAs f P w r (here rest_of on.left)) on.starts
    (value_met exact on.given on.left r (ap (λ (w : ValuesLeft). w.mode) on.starts ∙ mode) on.met))

kept_cases : {F B D E : Type 0} {g : Reader F (Constructed Reading) (Unit {0}) D} {op : F} {f : Unit {0} → B} {P : Tree → B → Type 0} (v new : ValuesLeft) (r : Result CapturedValue (DecodeError E)) → ValueEach v.mode rest_of g op f P → CapturesCases g op v r new → ReadsAs (λ c. c.octets) (ExactlyOf v.mode P) v r new
kept_cases {f = f} {P} v new (Ok c) exact h =
    let given = in_slice v refl exact h.ran in
    let text : given.took.text ≡ c.octets = same_text given.took.goes h.took.goes ∙ h.kept in
    let spelled = subst (Spells v.mode given.tree) text given.took.spelled in
    record { tree = given.tree; is = record { x = f tt; is = given.is; spelled = spelled }; took = record { text = c.octets; spelled = spelled; goes = h.goes } }
kept_cases v new (Err (Content x pos)) exact h =
    elim h.1 [
      | was_failed failed ↦ record { none = λ t o p a. let e : true ≡ false = sym failed ∙ a.1.goes.before in absurd cc }
      | was_refused y at end on ↦ lacks_kept v.mode (in_slice v refl exact on)
    ]
kept_cases v new (Err (Source x)) exact h = tt
kept_cases v new (Err Memory) exact h = tt

-- Capturing with a closure that reads a value exactly.
pub exact_capture_one : {F B D E : Type 0} {g : Reader F (Constructed Reading) (Unit {0}) D} {op : F} {f : Unit {0} → B} {P : Tree → B → Type 0} {v new : ValuesLeft} {r : Result CapturedValue (DecodeError E)} → ValueEach v.mode rest_of g op f P → Captures g op v r new → ReadsAs (λ c. c.octets) (ExactlyOf v.mode P) v r new
exact_capture_one {v = v} {new} {r} exact h = kept_cases v new r exact h.cases
