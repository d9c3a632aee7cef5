-- What is written of a moment is that of its one value.
use Rattle.std.proofs.Common.{ℕ, List, Option, Result, Ok, Err, OnOk, IfOk, IfErr, subst}
use Rattle.certs.specs.bcder_tree.declared.mode.Mode.{Mode}
use Rattle.certs.specs.bcder_tree.Tree.{Tree, Trees}
use Rattle.certs.specs.bcder_primitive.declared.written.error.EncodeError.{EncodeError}
use Rattle.certs.specs.bcder_primitive.declared.written.error.EncodeError.TheVariants as errors
use Rattle.certs.specs.bcder_primitive.Writing.{HasLength, CannotWrite, Wrote, WriteRefused}
use Rattle.certs.specs.certs_basics.Forms.{WritesTime}
use Rattle.certs_basics.proofs.Meanings.{one_written}
use Rattle.certs.specs.Fields.{IsTimeOf, PlainText, PlainTrees, WritesTimeOf}

of_text : {m : Mode} {seconds : ℕ} {t : Tree} {text : List ℕ} → WritesTime seconds t → PlainText m t text → WritesTimeOf m seconds text
of_text {t = t} w p = record { tree = t; tells = w; is = p }

to_trees : {seconds : ℕ} {t : Tree} {ts : Trees} → WritesTime seconds t → IsTimeOf seconds ts → PlainTrees t ts
to_trees {seconds} {t} {ts} w p = subst (λ (u : Tree). PlainTrees u ts) (one_written seconds p.tree t p.tells w) p.is

to_text : {m : Mode} {seconds : ℕ} {t : Tree} {text : List ℕ} → WritesTime seconds t → WritesTimeOf m seconds text → PlainText m t text
to_text {m} {seconds} {t} {text} w p = subst (λ (u : Tree). PlainText m u text) (one_written seconds p.tree t p.tells w) p.is

cannot : (m : Mode) {seconds : ℕ} {t : Tree} → WritesTime seconds t → (e : EncodeError) → CannotWrite (PlainTrees t) (PlainText m t) e → CannotWrite (IsTimeOf seconds) (WritesTimeOf m seconds) e
cannot m w errors.CerUnsupported c = λ ts p. c ts (to_trees w p)
cannot m w errors.TooLong c = λ text p few. c text (to_text w p) few
cannot m w errors.Write c = c
cannot m w errors.Memory c = c

pub time_len : (m : Mode) {seconds : ℕ} {t : Tree} (r : Result ℕ EncodeError) → WritesTime seconds t → IfOk r (HasLength (PlainText m t)) → IfOk r (HasLength (WritesTimeOf m seconds))
time_len m (Ok n) w h = record { text = h.text; is = of_text w h.is; long = h.long }
time_len m (Err e) w h = tt

pub time_no_len : (m : Mode) {seconds : ℕ} {t : Tree} (r : Result ℕ EncodeError) → WritesTime seconds t → IfErr r (CannotWrite (PlainTrees t) (PlainText m t))
    → IfErr r (CannotWrite (IsTimeOf seconds) (WritesTimeOf m seconds))
time_no_len m (Ok n) w h = tt
time_no_len m (Err e) w h = cannot m w e h

pub time_wrote : {B : Type 0} (m : Mode) {seconds : ℕ} {t : Tree} (old new : Option (List ℕ)) (r : Result B EncodeError) → WritesTime seconds t
    → OnOk r (Wrote (PlainText m t) old new) → OnOk r (Wrote (WritesTimeOf m seconds) old new)
time_wrote m old new (Ok x) w h = record { text = h.text; is = of_text w h.is; appended = h.appended }
time_wrote m old new (Err e) w h = tt

refused : (m : Mode) {seconds : ℕ} {t : Tree} (same : Type 0) (old new : Option (List ℕ)) → WritesTime seconds t → (e : EncodeError)
    → WriteRefused (PlainTrees t) (PlainText m t) same old new e → WriteRefused (IsTimeOf seconds) (WritesTimeOf m seconds) same old new e
refused m same old new w errors.CerUnsupported c = (cannot m w errors.CerUnsupported c.0, c.1)
refused m same old new w errors.TooLong c = (cannot m w errors.TooLong c.0, c.1)
refused m same old new w errors.Write c = record { text = c.text; is = of_text w c.is; taken = c.taken; others = c.others; whole = c.whole; some = c.some; appended = c.appended }
refused m same old new w errors.Memory c = c

pub time_refused : {B : Type 0} (m : Mode) {seconds : ℕ} {t : Tree} (same : Type 0) (old new : Option (List ℕ)) (r : Result B EncodeError) → WritesTime seconds t
    → IfErr r (WriteRefused (PlainTrees t) (PlainText m t) same old new) → IfErr r (WriteRefused (IsTimeOf seconds) (WritesTimeOf m seconds) same old new)
time_refused m same old new (Ok x) w h = tt
time_refused m same old new (Err e) w h = refused m same old new w e h
