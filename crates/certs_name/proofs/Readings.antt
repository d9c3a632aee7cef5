-- Readers of values whose grammar can be stated in two ways.
use Rattle.std.proofs.Common.{◌≡◌, Result, Ok, Err}
use Rattle.certs_name.specs.bcder_tree.Tags.{TagValue}
use Rattle.certs_name.specs.bcder_tree.Tree.{Tree}
use Rattle.certs_name.specs.bcder_source.declared.error.DecodeError.{DecodeError}
use Rattle.certs_name.specs.bcder_content.Contents.{ValuesLeft, Unlike}
use Rattle.certs_name.specs.bcder_content.Exact.{ReadsAs}
use Rattle.certs_name.specs.bcder_content.Grammar.{OneOf, Tagged}
use Rattle.certs_name.proofs.of_bcder_content.Choices.{second_gives, second_lacks}
use Rattle.certs_name.proofs.of_bcder_content.Taking.{weaker}

-- What reads one grammar reads each that has the same values.
pub reads_same : {A B E : Type 0} (f : A → B) {P Q : Tree → B → Type 0} (old new : ValuesLeft) (r : Result A (DecodeError E))
    → ((t : Tree) (x : B) → P t x → Q t x) → ((t : Tree) (x : B) → Q t x → P t x) → ReadsAs f P old r new → ReadsAs f Q old r new
reads_same f old new (Ok x) to from h = record { tree = h.tree; is = to h.tree (f x) h.is; took = h.took }
reads_same f old new (Err e) to from h = weaker e (λ l. record { none = λ t x q a. l.none t x (from t x q) a }) h

-- Where no value of the first kind is next, the second is read.
pub second_reads : {A B E : Type 0} {tag : TagValue} (f : A → B) (Q R : Tree → B → Type 0) (now mid new : ValuesLeft) (r : Result A (DecodeError E)) → Tagged tag Q → (mid ≡ now) × Unlike now tag → ReadsAs f R mid r new → ReadsAs f (OneOf Q R) now r new
second_reads f Q R now mid new (Ok x) tagged unlike h = second_gives _ unlike h
second_reads f Q R now mid new (Err e) tagged unlike h = weaker e (second_lacks tagged unlike) h
