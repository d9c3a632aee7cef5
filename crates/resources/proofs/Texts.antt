-- Texts of sets of all three kinds.
use Rattle.std.proofs.Common.{◌≡◌, ℕ, List, [], ◌∷◌, ◌++◌, inl, refl, le_refl}
use Rattle.std.specs.Prelude.{◌↔◌, Bool, IsTrue, if◌then◌else◌}
use Rattle.resources.specs.resources_chain.Sets.{Run, AreMaximal}
use Rattle.resources.specs.resources_chain.Same.{one_answer}
use Rattle.resources.specs.Equal.{all_three}
use Rattle.resources.specs.Resources.{Resources, HasNone, IsNone}
use Rattle.resources.specs.Texts.{no_run, no_runs, kind_text}

-- What is said of each kind, together.
each_tells : {r a b c : Bool} {P Q R : Type 0} → (IsTrue r ↔ (IsTrue a × IsTrue b × IsTrue c)) → (IsTrue a ↔ P) → (IsTrue b ↔ Q) → (IsTrue c ↔ R) → IsTrue r ↔ (P × Q × R)
each_tells all p q s = (
  λ t. let each = all.0 t in (p.0 each.0, q.0 each.1, s.0 each.2),
  λ x. all.1 (p.1 x.0, q.1 x.1, s.1 x.2),
)

-- A set without numbers has no run.
no_run_tells : (runs : List Run) → AreMaximal runs → IsTrue (no_run runs) ↔ IsNone runs
no_run_tells [] m = (λ t n i. i, λ h. refl)
no_run_tells (r ∷ runs) m = (λ t. absurd cc, λ h. absurd (h r.first (inl (le_refl r.first, m.0))))

pub none_is : (answer : Bool) (runs : List Run) → AreMaximal runs → (IsTrue answer ↔ IsNone runs) → answer ≡ no_run runs
none_is answer runs m h = one_answer {P = IsNone runs} answer (no_run runs) h (no_run_tells runs m)

pub nones_are : (answer : Bool) (set : Resources) → AreMaximal set.asn → AreMaximal set.ipv4 → AreMaximal set.ipv6 → (IsTrue answer ↔ HasNone set) → answer ≡ no_runs set
nones_are answer set a b c h =
    one_answer {P = HasNone set} answer (no_runs set) h
    (each_tells (all_three (no_run set.asn) (no_run set.ipv4) (no_run set.ipv6)) (no_run_tells set.asn a) (no_run_tells set.ipv4 b) (no_run_tells set.ipv6 c))

-- What is printed of a kind.
pub kind_is : (name : List ℕ) (text : List Run → List ℕ) (set : List Run) {answer : Bool} → no_run set ≡ answer → kind_text name text set ≡ (if answer then [] else name ++ text set)
kind_is name text set e = λ i. if e i then [] else name ++ text set
