-- A closure that reads octets exactly, on a content of either form.
use Rattle.std.proofs.Common.{◌≡◌, ℕ, Bool, true, false, List, Result, Ok, Err, refl}
use Rattle.bcder_octets.specs.bcder_tree.declared.mode.Mode.{Mode}
use Rattle.bcder_octets.specs.bcder_tree.Tags.{TagValue}
use Rattle.bcder_octets.specs.bcder_tree.Tree.{Trees, primitive, constructed}
use Rattle.bcder_octets.specs.bcder_source.Errors.{OnContent, OnlyOctets}
use Rattle.bcder_octets.specs.bcder_source.declared.error.DecodeError.{DecodeError}
use Rattle.bcder_octets.specs.bcder_primitive.declared.primitive.Primitive.{Primitive}
use Rattle.bcder_octets.specs.bcder_primitive.Plain.{plain}
use Rattle.bcder_octets.specs.bcder_primitive.Sliced.{Reader}
use Rattle.bcder_octets.proofs.of_bcder_primitive.Primitives.{weaker, only_content}
use Rattle.bcder_octets.specs.bcder_content.declared.constructed.Constructed.{Constructed}
use Rattle.bcder_octets.specs.bcder_content.declared.content.Content.{Content}
use Rattle.bcder_octets.specs.bcder_content.Contents.{ValuesLeft}
use Rattle.bcder_octets.specs.bcder_content.Either.{OctetsRun, RunsOctets, ReadsInAs, ReadsContentAs}
use Rattle.bcder_octets.specs.bcder_content.Exact.{LacksAll}
use Rattle.bcder_octets.specs.bcder_content.Grammar.{OctetsOf}
use Rattle.bcder_octets.specs.bcder_content.Here.{here}
use Rattle.bcder_octets.proofs.of_bcder_content.Inside.{PlainEach, plain_met}
use Rattle.bcder_octets.proofs.of_bcder_content.Tagged.{octets_read}

no_values : {B E : Type 0} (P : List ℕ → B → Type 0) (old : ValuesLeft) (tag : TagValue) (e : DecodeError E) → OnlyOctets e (Unit {0}) → OnContent e (LacksAll (λ (ts : Trees) (x : B). OctetsOf tag P (constructed tag ts) x) old)
no_values P old tag e h = weaker e (λ u. record { none = λ ts x is w. let e : constructed tag ts ≡ primitive tag is.content = is.whole in absurd cc }) (only_content _ e h)

run_reads : {F S T B E : Type 0} {m : Mode} {rest : S → List ℕ} {g : Reader F (Primitive S) T E} {op : F} (f : T → B) (P : List ℕ → B → Type 0) (tag : TagValue) (form : Bool) (v w : Constructed S) (r : Result T (DecodeError E)) → PlainEach m rest g op f P → v.octets.mode ≡ m → OctetsRun rest g op form v r w → ReadsInAs f (OctetsOf tag P) form tag (here rest v) r (here rest w)
run_reads {rest = rest} f P tag false v w r exact mode h = octets_read f P tag (plain rest v.octets) (plain rest w.octets) r (plain_met exact v.octets w.octets r mode h.1)
run_reads f P tag true v w (Ok x) exact mode h = absurd h.0
run_reads {rest = rest} f P tag true v w (Err e) exact mode h = no_values P (here rest v) tag e h.0

pub content_reads : {F S T B E : Type 0} {rest : S → List ℕ} {g : Reader F (Primitive S) T E} {op : F} (f : T → B) (P : List ℕ → B → Type 0) (tag : TagValue) (c d : Content S) (r : Result T (DecodeError E)) → PlainEach c.values.now.octets.mode rest g op f P → RunsOctets rest g op c r d → ReadsContentAs rest f (OctetsOf tag P) tag c r d
content_reads f P tag c d r exact h = run_reads f P tag c.values.now.constructed c.values.now d.values.now r exact refl h.runs
