-- Readers of values whose octets are kept, in the mode in which they stand.
use Rattle.std.proofs.Common.{◌≡◌, ℕ, List}
use Rattle.bcder_values.specs.bcder_tree.declared.mode.Mode.{Mode}
use Rattle.bcder_values.specs.bcder_tree.Tree.{Tree}
use Rattle.bcder_values.specs.bcder_tree.Front.{Front}
use Rattle.bcder_content.specs.Contents.{ValuesLeft}
use Rattle.bcder_content.specs.Exact.{Gives, Lacks}
use Rattle.bcder_content.specs.Grammar.{Exactly}
use Rattle.bcder_content.specs.Kept.{CapturedValue}
use Rattle.bcder_content.specs.Words.{Kept}
use Rattle.bcder_content.proofs.Keeping.{kept_gives, kept_lacks, kept_refused}
use Rattle.bcder_values.specs.KeptForms.{KeptIn}

-- The octets that were captured are of Q: they were decoded by themselves, in the mode of the content.
pub kept_in_gives : {A : Type 0} (Q : Mode → Tree → A → Type 0) {m k : Mode} {now new : ValuesLeft} {a : List ℕ} {c : CapturedValue} {x : A}
    → Gives (Exactly k) now c.octets new → c.mode ≡ k → m ≡ k → a ≡ c.octets → (t : Tree) × (rest : List ℕ) × Front m a t rest × Q m t x
    → Gives (KeptIn Q k) now (c, x) new
kept_in_gives Q g s e h d =
    let r = kept_gives Q g e h d in
    record { tree = r.tree; is = record { mode = s; kept = r.is }; took = r.took }

without_mode : {A : Type 0} {Q : Mode → Tree → A → Type 0} {m : Mode} {now : ValuesLeft} → Lacks (Kept m (Q m)) now → Lacks (KeptIn Q m) now
without_mode l = record { none = λ t x p a. l.none t (x.0.octets, x.1) p.kept a }

-- No octets could be captured.
pub kept_in_lacks : {A : Type 0} (Q : Mode → Tree → A → Type 0) {m : Mode} {now : ValuesLeft} → Lacks (Exactly m) now → Lacks (KeptIn Q m) now
kept_in_lacks Q {m} {now} l = without_mode {Q = Q} (kept_lacks l)

-- The octets that were captured are not of Q.
pub kept_in_refused : {A : Type 0} (Q : Mode → Tree → A → Type 0) {m k : Mode} {now new : ValuesLeft} {a o : List ℕ}
    → Gives (Exactly k) now o new → m ≡ k → a ≡ o → ((t : Tree) (x : A) (rest : List ℕ) → Q m t x → Front m a t rest → ⊥) → Lacks (KeptIn Q k) now
kept_in_refused Q g e h refuses = without_mode {Q = Q} (kept_refused Q g e h refuses)
