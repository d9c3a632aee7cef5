-- What is said of what is written of a value is said of an equal one.
use Rattle.std.proofs.Common.{◌≡◌, ℕ, List, Option, Result, OnOk, IfOk, IfErr, subst}
use Rattle.certs.specs.bcder_tree.declared.mode.Mode.{Mode}
use Rattle.certs.specs.bcder_primitive.declared.written.error.EncodeError.{EncodeError}
use Rattle.certs.specs.bcder_primitive.Writing.{HasLength, CannotWrite, Wrote, WriteRefused}
use Rattle.certs.specs.Outputs.{Output}

pub len_same : {A : Type 0} (f : A → Output) {x y : A} (m : Mode) (r : Result ℕ EncodeError) → x ≡ y
    → IfOk r (HasLength ((f x).writes m)) → IfOk r (HasLength ((f y).writes m))
len_same f m r e h = subst (λ z. IfOk r (HasLength ((f z).writes m))) e h

pub no_len_same : {A : Type 0} (f : A → Output) {x y : A} (m : Mode) (r : Result ℕ EncodeError) → x ≡ y
    → IfErr r (CannotWrite ((f x).trees m) ((f x).writes m)) → IfErr r (CannotWrite ((f y).trees m) ((f y).writes m))
no_len_same f m r e h = subst (λ z. IfErr r (CannotWrite ((f z).trees m) ((f z).writes m))) e h

pub wrote_same : {A B : Type 0} (f : A → Output) {x y : A} (m : Mode) (old new : Option (List ℕ)) (r : Result B EncodeError) → x ≡ y
    → OnOk r (Wrote ((f x).writes m) old new) → OnOk r (Wrote ((f y).writes m) old new)
wrote_same f m old new r e h = subst (λ z. OnOk r (Wrote ((f z).writes m) old new)) e h

pub refused_same : {A B : Type 0} (f : A → Output) {x y : A} (m : Mode) (same : Type 0) (old new : Option (List ℕ)) (r : Result B EncodeError) → x ≡ y
    → IfErr r (WriteRefused ((f x).trees m) ((f x).writes m) same old new) → IfErr r (WriteRefused ((f y).trees m) ((f y).writes m) same old new)
refused_same f m same old new r e h = subst (λ z. IfErr r (WriteRefused ((f z).trees m) ((f z).writes m) same old new)) e h
