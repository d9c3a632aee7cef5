-- What is said of encoders is said of the value whose fields they lend.
use Rattle.std.proofs.Common.{◌≡◌, ℕ, List, Option, Result, OnOk, IfOk, IfErr, subst}
use Rattle.bcder_values.specs.bcder_tree.declared.mode.Mode.{Mode}
use Rattle.bcder_values.specs.bcder_primitive.declared.written.error.EncodeError.{EncodeError}
use Rattle.bcder_values.specs.bcder_primitive.Writing.{HasLength, CannotWrite, Wrote, WriteRefused}
use Rattle.bcder_values.specs.Forms.{Form}

pub len_lent : {T A : Type 0} (f : T × A → Form A) {l k : T × A} (m : Mode) (r : Result ℕ EncodeError) → l ≡ k
    → IfOk r (HasLength ((f l).writes l.1 m)) → IfOk r (HasLength ((f k).writes k.1 m))
len_lent f m r e h = subst (λ l. IfOk r (HasLength ((f l).writes l.1 m))) e h

pub len_refused : {T A : Type 0} (f : T × A → Form A) {l k : T × A} (m : Mode) (r : Result ℕ EncodeError) → l ≡ k
    → IfErr r (CannotWrite ((f l).trees l.1 m) ((f l).writes l.1 m)) → IfErr r (CannotWrite ((f k).trees k.1 m) ((f k).writes k.1 m))
len_refused f m r e h = subst (λ l. IfErr r (CannotWrite ((f l).trees l.1 m) ((f l).writes l.1 m))) e h

pub write_lent : {T A B : Type 0} (f : T × A → Form A) {l k : T × A} (m : Mode) (old new : Option (List ℕ)) (r : Result B EncodeError) → l ≡ k
    → OnOk r (Wrote ((f l).writes l.1 m) old new) → OnOk r (Wrote ((f k).writes k.1 m) old new)
write_lent f m old new r e h = subst (λ l. OnOk r (Wrote ((f l).writes l.1 m) old new)) e h

pub write_refused : {T A B : Type 0} (f : T × A → Form A) {l k : T × A} (m : Mode) (same : Type 0) (old new : Option (List ℕ)) (r : Result B EncodeError)
    → l ≡ k → IfErr r (WriteRefused ((f l).trees l.1 m) ((f l).writes l.1 m) same old new)
    → IfErr r (WriteRefused ((f k).trees k.1 m) ((f k).writes k.1 m) same old new)
write_refused f m same old new r e h = subst (λ l. IfErr r (WriteRefused ((f l).trees l.1 m) ((f l).writes l.1 m) same old new)) e h
