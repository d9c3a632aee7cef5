-- Fields whose grammar names the mode, after others: the mode is that of the beginning, since no field changes it.
use Rattle.std.proofs.Common.{◌≡◌, Option, Result, subst}
use Rattle.bcder_content.specs.bcder_tree.declared.mode.Mode.{Mode}
use Rattle.bcder_content.specs.bcder_tree.Tags.{TagValue}
use Rattle.bcder_content.specs.bcder_tree.Tree.{Tree, Trees}
use Rattle.bcder_content.specs.bcder_source.declared.error.DecodeError.{DecodeError}
use Rattle.bcder_content.specs.Contents.{ValuesLeft}
use Rattle.bcder_content.specs.Exact.{Gives, Lacks, LacksTagged, ReadsAllAs}
use Rattle.bcder_content.proofs.Forests.{Perhaps}

pub mode_behind : {A : Type 0} {Q : Tree → A → Type 0} {old new : ValuesLeft} {x : A} → Gives Q old x new → new.mode ≡ old.mode
mode_behind g = g.took.goes.mode

pub gives_in : {A : Type 0} (Q : Mode → Tree → A → Type 0) {m k : Mode} {old new : ValuesLeft} {x : A} → m ≡ k → Gives (Q m) old x new → Gives (Q k) old x new
gives_in Q {old = old} {new} {x} e g = subst (λ (z : Mode). Gives (Q z) old x new) e g

pub lacks_in : {A : Type 0} (Q : Mode → Tree → A → Type 0) {m k : Mode} {old : ValuesLeft} → m ≡ k → Lacks (Q m) old → Lacks (Q k) old
lacks_in Q {old = old} e l = subst (λ (z : Mode). Lacks (Q z) old) e l

pub lacks_tagged_in : {A : Type 0} {tag : TagValue} (Q : Mode → Tree → A → Type 0) {m k : Mode} {old : ValuesLeft} → m ≡ k → LacksTagged tag (Q m) old → LacksTagged tag (Q k) old
lacks_tagged_in {tag = tag} Q {old = old} e l = subst (λ (z : Mode). LacksTagged tag (Q z) old) e l

-- An optional field.
pub perhaps_in : {A B : Type 0} (f : A → B) (tag : TagValue) (Q : Mode → Tree → B → Type 0) {m k : Mode} (old new : ValuesLeft) (o : Option A) → m ≡ k → Perhaps f tag (Q m) old o new → Perhaps f tag (Q k) old o new
perhaps_in f tag Q old new o e h = subst (λ (z : Mode). Perhaps f tag (Q z) old o new) e h

-- A reader of a whole content, in the mode that it has.
pub all_in : {A B E : Type 0} (f : A → B) (P : Mode → Trees → B → Type 0) {m k : Mode} (old new : ValuesLeft) (r : Result A (DecodeError E)) → m ≡ k → ReadsAllAs f (P m) old r new → ReadsAllAs f (P k) old r new
all_in f P old new r e h = subst (λ (z : Mode). ReadsAllAs f (P z) old r new) e h
