-- What holds of results, and of options.
use Rattle.std.proofs.Common.{◌≡◌, Option, Some, Result, Ok, Err, sym, ◌∙◌}
use Rattle.std.specs.Prelude.{IfOk}

-- What holds of a result also holds in weaker words.
pub if_ok : {T E : Type 0} (P Q : T → Type 0) (r : Result T E) → ((x : T) → P x → Q x) → IfOk r P → IfOk r Q
if_ok P Q (Ok x) f h = f x h
if_ok P Q (Err e) f h = tt

-- A place has one value.
pub one_value : {X : Type 0} (x y : X) (o : Option X) → o ≡ Some x → o ≡ Some y → x ≡ y
one_value x y o e f = let both : Some x ≡ Some y = sym e ∙ f in cc
