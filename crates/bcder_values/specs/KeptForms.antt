-- Forms of values whose octets are kept: they are written as they were read.
use Rattle.std.proofs.Common.{◌≡◌, ◌≢◌, ℕ, List, [], refl, sym, ap, ◌∙◌}
use Rattle.bcder_values.specs.bcder_tree.declared.mode.Mode.{Mode}
use Rattle.bcder_values.specs.bcder_tree.declared.mode.Mode.TheVariants.{Ber}
use Rattle.bcder_values.specs.bcder_tree.Tree.{Tree, Trees, none, more, Spells, SpellsAll}
use Rattle.bcder_values.specs.bcder_tree.Front.{Fields}
use Rattle.bcder_content.proofs.of_bcder_tree.Canonical.{one_spelling}
use Rattle.bcder_content.proofs.of_bcder_tree.Trees.{one_trees}
use Rattle.bcder_content.specs.Grammar.{One}
use Rattle.bcder_content.specs.Kept.{CapturedValue}
use Rattle.bcder_content.specs.Words.{Kept}
use Rattle.bcder_values.specs.Captures.{StandsIn, CapturedTrees, CapturedText, captured_spelled, captured_one, stands_spelled}
use Rattle.bcder_values.specs.Forms.{Form, Alone}
use Rattle.bcder_values.specs.Wraps.{one_spelled}

-- A value of Q, its octets, and the mode in which they stand there.
pub record KeptIn {A : Type 0} (Q : Mode → Tree → A → Type 0) (m : Mode) (t : Tree)
    (x : CapturedValue × A) : Type 0 where
  pub mode : x.0.mode ≡ m
  pub kept : Kept m (Q m) t (x.0.octets, x.1)

-- The octets spell a value of Q.
pub record Spelt {A : Type 0} (Q : Mode → Tree → A → Type 0) (m : Mode) (octets : List ℕ) (x : A)
    : Type 0 where
  pub tree : Tree
  pub spelled : Spells m tree octets
  pub is : Q m tree x

-- In each mode in which the octets stand, they spell a value of Q.
abbrev pub KeepsOne : {A : Type 0} → (Mode → Tree → A → Type 0) → CapturedValue × A → Type 0
KeepsOne Q x = (m : Mode) → StandsIn x.0.mode m → Spelt Q m x.0.octets x.1

-- The octets that were kept, in the mode in which they are read again.
abbrev pub kept_again : {A : Type 0} → Mode → CapturedValue × A → CapturedValue × A
kept_again m x = (record { mode = m; octets = x.0.octets }, x.1)

only_one : (m : Mode) {ts : Trees} {t : Tree} (text : List ℕ) → SpellsAll m ts text
    → Spells m t text → ts ≡ more t none
only_one m {ts} {t} text p q =
    let left : Fields m text ts = record { spelled = p } in
    let right : Fields m text (more t none) = record { spelled = one_spelled m t text q } in
    (one_trees ts (more t none) [] [] left right tt tt refl).0

pub kept_read : {A : Type 0} (Q : Mode → Tree → A → Type 0) (x : CapturedValue × A) (m : Mode)
    (ts : Trees) → KeepsOne Q x → CapturedTrees x.0 m ts
    → Alone (KeptIn Q m) (kept_again m x) ts
kept_read Q x m ts l p =
    let s = l m p.stands in
    record {
      tree = s.tree;
      alone = only_one m x.0.octets (stands_spelled x.0.mode m ts x.0.octets p.stands p.spelled) s.spelled;
      is = record { mode = refl; kept = record { spelled = s.spelled; is = s.is } };
    }

pub kept_one : {A : Type 0} {Q : Mode → Tree → A → Type 0} {m : Mode} → m ≢ Ber → One (Q m)
    → One (KeptIn Q m)
kept_one {A} {Q} {m} r one = record {
  one = λ t x y p q.
      let octets = one_spelling m t x.0.octets y.0.octets r p.kept.spelled q.kept.spelled in
      let value = one.one t x.1 y.1 p.kept.is q.kept.is in
      ap (λ (k : Mode). (record { mode = k; octets = x.0.octets }, x.1)) (p.mode ∙ sym q.mode)
      ∙ ap (λ (o : List ℕ). (record { mode = y.0.mode; octets = o }, x.1)) octets
      ∙ ap (λ (v : A). (y.0, v)) value;
}

-- A value with its octets. In CER and DER a value has one spelling; in BER it doesn't tell its octets.
abbrev pub kept : {A : Type 0} → Form A → Form (CapturedValue × A)
kept {A} f = record {
  reads = KeptIn f.reads;
  lawful = KeepsOne f.reads;
  again = kept_again;
  trees = λ x. CapturedTrees x.0;
  writes = λ x. CapturedText x.0;
  has = f.has;
  sound = f.sound;
  clear = λ m. (m ≢ Ber) × f.clear m;
  spelled = λ x. captured_spelled x.0;
  one_text = λ x. captured_one x.0;
  tagged = λ m t x p. f.tagged m t x.1 p.kept.is;
  is_read = λ s. kept_read f.reads;
  one_meaning = λ s m c. kept_one c.0 (f.one_meaning s m c.1);
}
