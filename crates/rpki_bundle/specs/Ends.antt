-- Readers of all octets of a source, and what their refusals say.
use Rattle.std.specs.Prelude.{◌≡◌, Result, Ok, Err}
use Rattle.rpki_bundle.specs.bcder_tree.Tree.{Trees}
use Rattle.rpki_bundle.specs.bcder_source.Errors.{OnContent}
use Rattle.rpki_bundle.specs.bcder_source.declared.error.DecodeError.{DecodeError}
use Rattle.rpki_bundle.specs.bcder_source.declared.error.DecodeError.TheVariants.{Content, Source, Memory}
use Rattle.rpki_bundle.specs.bcder_content.Contents.{ValuesLeft, Ended}
use Rattle.rpki_bundle.specs.bcder_content.Exact.{LacksAll, GivesAll}
use Rattle.rpki_bundle.specs.declared.error.BundleError.{BundleError}
use Rattle.rpki_bundle.specs.declared.error.BundleError.TheVariants as bundle_error

-- A reader of a whole content, up to its end, by what its answer means.
abbrev pub ReadsToEndAs : {A B E : Type 0} → (A → B) → (Trees → B → Type 0) → ValuesLeft
    → Result A (DecodeError E) → ValuesLeft → Type 0
ReadsToEndAs f P old (Ok x) new = GivesAll P old (f x) new × Ended new
ReadsToEndAs f P old (Err e) new = OnContent e (LacksAll P old)

-- Refused octets are no bundle, lack of memory stays so, and a source in memory doesn't fail.
abbrev pub Refuses : {E : Type 0} → DecodeError E → BundleError → Type 0
Refuses (Content x pos) e = e ≡ bundle_error.NotABundle
Refuses (Source x) e = ⊥
Refuses Memory e = e ≡ bundle_error.Memory
