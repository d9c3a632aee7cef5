-- Lack of memory is passed on, and has no other cause.
use Rattle.std.proofs.Common.{◌≡◌, Bool, Result, Ok, Err, IfErr, sym, subst}
use Rattle.bcder_content.specs.bcder_source.declared.error.DecodeError.{DecodeError}
use Rattle.bcder_content.specs.bcder_source.declared.error.DecodeError.TheVariants.{Content, Source, Memory}
use Rattle.bcder_content.specs.bcder_source.declared.error.ContentError.{ContentError}
use Rattle.bcder_content.specs.bcder_source.declared.pos.Pos.{Pos}
use Rattle.bcder_content.specs.bcder_source.Errors.{OnlyContent}
use Rattle.bcder_content.specs.bcder_tree.Tags.{TagValue}
use Rattle.bcder_content.specs.Contents.{ValuesLeft}
use Rattle.bcder_content.specs.declared.ending.Span.{Span}
use Rattle.bcder_content.specs.ClosureReads.{Enters}
use Rattle.bcder_content.specs.Either.{Meeting}
use Rattle.bcder_content.specs.Memory.{OnMemory, AnyErr, TaggedErr}

-- A refusal of the octets or by the source isn't lack of memory.
pub no_want : {E : Type 0} (P Q : Type 0) (e : DecodeError E) → OnlyContent e P → OnMemory e Q
no_want P Q (Content x pos) p = tt
no_want P Q (Source x) p = tt
no_want P Q Memory p = absurd p

-- A fact for any error.
pub wanted : {E P : Type 0} (e : DecodeError E) → P → OnMemory e P
wanted (Content x pos) p = tt
wanted (Source x) p = tt
wanted Memory p = p

pub memory_weaker : {E P Q : Type 0} (e : DecodeError E) → (P → Q) → OnMemory e P → OnMemory e Q
memory_weaker (Content x pos) f p = tt
memory_weaker (Source x) f p = tt
memory_weaker Memory f p = f p

-- A refusal of the octets isn't lack of memory.
pub told_of_content : {E : Type 0} (P : Type 0) {r : DecodeError E} {x : ContentError} {pos : Pos} → r ≡ Content x pos → OnMemory r P
told_of_content P e = subst (λ (z : DecodeError _). OnMemory z P) (sym e) tt

-- Of an answer.
pub unended_if : {T E P Q : Type 0} (r : Result T (DecodeError E)) → (P → Q) → IfErr r (λ e. OnMemory e P) → IfErr r (λ e. OnMemory e Q)
unended_if (Ok x) f h = tt
unended_if (Err e) f h = memory_weaker e f h

pub any_wanted : {T E : Type 0} (meets : Meeting T E) (old : ValuesLeft) {inner end : ValuesLeft} {form : Bool} {tag : TagValue} {span : Span} (e : DecodeError E) → Enters old form tag span inner → meets form tag inner (Err e) end → OnMemory e (AnyErr meets old e)
any_wanted meets old e n met = wanted e (record { form = _; tag = _; span = _; end = _; ran = record { inner = _; enters = n; met = met } })

pub tagged_wanted : {T E : Type 0} (meets : Meeting T E) (old : ValuesLeft) {inner end : ValuesLeft} {form : Bool} {tag own : TagValue} {span : Span} (e : DecodeError E) → tag ≡ own → Enters old form tag span inner → meets form tag inner (Err e) end → OnMemory e (TaggedErr meets old own e)
tagged_wanted meets old e same n met =
    subst (λ (t : TagValue). OnMemory e (TaggedErr meets old t e)) same (wanted e (record { form = _; span = _; end = _; ran = record { inner = _; enters = n; met = met } }))
