-- A value whose octets are kept, and read again.
use Rattle.std.proofs.Common.{◌≡◌, ℕ, List, [], sym, subst, append-nil}
use Rattle.bcder_content.specs.bcder_tree.declared.mode.Mode.{Mode}
use Rattle.bcder_content.specs.bcder_tree.Tree.{Tree, Spells}
use Rattle.bcder_content.specs.bcder_tree.Front.{Front}
use Rattle.bcder_content.proofs.of_bcder_tree.Trees.{one_tree}
use Rattle.bcder_content.specs.bcder_source.Errors.{OnContent, SameCause}
use Rattle.bcder_content.specs.bcder_source.declared.error.DecodeError.{DecodeError}
use Rattle.bcder_content.specs.bcder_source.declared.error.DecodeError.TheVariants.{Content, Source, Memory}
use Rattle.bcder_content.specs.Contents.{ValuesLeft}
use Rattle.bcder_content.specs.Exact.{Gives, Lacks}
use Rattle.bcder_content.specs.Grammar.{Exactly}
use Rattle.bcder_content.specs.Words.{Kept}
use Rattle.bcder_content.proofs.Took.{one_took}

-- All octets that spell a value are in front of themselves.
pub front_all : {m : Mode} {t : Tree} {o : List ℕ} → Spells m t o → Front m o t []
front_all {o = o} s = record { text = o; spelled = s; whole = sym (append-nil o) }

-- The octets that were kept are of Q: they were decoded by themselves, in the mode of the content.
pub kept_gives : {A : Type 0} (Q : Mode → Tree → A → Type 0) {m k : Mode} {now new : ValuesLeft} {a o : List ℕ} {x : A}
    → Gives (Exactly k) now o new → m ≡ k → a ≡ o → (t : Tree) × (rest : List ℕ) × Front m a t rest × Q m t x → Gives (Kept k (Q k)) now (o, x) new
kept_gives Q {k = k} {a = a} {x = x} g e h d =
    let front = subst (λ (z : List ℕ). Front k z d.0 d.1) h (subst (λ (z : Mode). Front z a d.0 d.1) e d.2) in
    let same = (one_tree d.0 g.tree front (front_all g.is.spelled)).0 in
    let is = subst (λ (t : Tree). Q k t x) same (subst (λ (z : Mode). Q z d.0 x) e d.3) in
    record { tree = g.tree; is = record { spelled = g.is.spelled; is = is }; took = g.took }

-- No octets could be kept.
pub kept_lacks : {A : Type 0} {m : Mode} {Q : Tree → A → Type 0} {now : ValuesLeft} → Lacks (Exactly m) now → Lacks (Kept m Q) now
kept_lacks l = record { none = λ t x p a. l.none t x.0 (record { spelled = p.spelled }) a }

-- The octets that were kept are not of Q.
pub kept_refused : {A : Type 0} (Q : Mode → Tree → A → Type 0) {m k : Mode} {now new : ValuesLeft} {a o : List ℕ}
    → Gives (Exactly k) now o new → m ≡ k → a ≡ o → ((t : Tree) (x : A) (rest : List ℕ) → Q m t x → Front m a t rest → ⊥) → Lacks (Kept k (Q k)) now
kept_refused Q {m = m} {k} {o = o} g e h refuses = record {
  none = λ t x p b.
      let same = subst (λ (u : Tree). Spells k u o) (one_took g.took b.1).0 g.is.spelled in
      let front = subst (λ (z : Mode). Front z o t []) (sym e) (front_all same) in
      refuses t x.1 [] (subst (λ (z : Mode). Q z t x.1) (sym e) p.is) (subst (λ (z : List ℕ). Front m z t []) (sym h) front);
}

-- A refusal is passed on as one of another source.
pub same_refusal : {D E : Type 0} (P : Type 0) (e : DecodeError D) (r : DecodeError E) → SameCause e r → OnContent e P → OnContent r P
same_refusal {E = E} P (Content x pos) r s p = subst (λ (z : DecodeError E). OnContent z P) (sym s) p
same_refusal P (Source x) r s p = absurd s
same_refusal {E = E} P Memory r s p = subst (λ (z : DecodeError E). OnContent z P) (sym s) tt
