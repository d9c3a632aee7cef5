-- Octets that were read one after the other.
use Rattle.std.proofs.Common.{◌≡◌, ℕ, false, List, [], ◌++◌, refl, sym, subst}
use Rattle.certs_cert.specs.bcder_tree.declared.mode.Mode.{Mode}
use Rattle.certs_cert.specs.bcder_tree.Tree.{Tree}
use Rattle.certs_cert.specs.bcder_content.Contents.{Goes, ValuesLeft}
use Rattle.certs_cert.specs.bcder_content.Exact.{Gives}
use Rattle.certs_cert.specs.bcder_content.Texts.{Joins, NoOctets, SpellsOf}
use Rattle.certs_cert.proofs.of_bcder_content.Took.{goes_both, goes_none}
use Rattle.certs_x509.specs.Took.{TookOctets}

-- Octets of P were read, which mean x.
abbrev pub Read : {A : Type 0} → (Mode → List ℕ → A → Type 0) → ValuesLeft → A → ValuesLeft → Type 0
Read P v x w = TookOctets (λ y. y) P v x w

-- A value was read.
pub field : {A : Type 0} (Q : Mode → Tree → A → Type 0) {v w : ValuesLeft} {x : A} → Gives (Q v.mode) v x w → Read (λ m. SpellsOf m (Q m)) v x w
field Q g = record { text = g.took.text; goes = g.took.goes; is = record { tree = g.tree; is = g.is; spelled = g.took.spelled } }

-- Octets, and others after them.
pub join : {A B : Type 0} {P : Mode → List ℕ → A → Type 0} {R : Mode → List ℕ → B → Type 0} {v w u : ValuesLeft} {x : A} {y : B}
    → Read P v x w → Read R w y u → Read (λ m. Joins (P m) (R m)) v (x, y) u
join {R = R} {y = y} p q = record {
  text = p.text ++ q.text;
  goes = goes_both p.goes q.goes;
  is = record { first = p.text; others = q.text; whole = refl; is = p.is; rest = subst (λ (m : Mode). R m q.text y) p.goes.mode q.is };
}

pub ended : {v : ValuesLeft} → v.failed ≡ false → Read (λ m. NoOctets) v tt v
ended sound = record { text = []; goes = goes_none sound; is = record { none = refl } }

-- What was read, by another name, and back.
pub as_read : {A B : Type 0} {f : A → B} {P : Mode → List ℕ → B → Type 0} {v w : ValuesLeft} {s : A} {x : B} → f s ≡ x → Read P v x w → TookOctets f P v s w
as_read {P = P} {v} e r = record { text = r.text; goes = r.goes; is = subst (λ z. P v.mode r.text z) (sym e) r.is }

pub read_as : {A B : Type 0} {f : A → B} {P : Mode → List ℕ → B → Type 0} {v w : ValuesLeft} {s : A} → TookOctets f P v s w → Read P v (f s) w
read_as r = record { text = r.text; goes = r.goes; is = r.is }

-- Octets that were read, and are kept.
pub kept_as : {A : Type 0} {P : Mode → List ℕ → A → Type 0} {v w : ValuesLeft} {text : List ℕ} {x : A} → Goes v text w → P v.mode text x → Read P v x w
kept_as {text = text} g p = record { text = text; goes = g; is = p }
