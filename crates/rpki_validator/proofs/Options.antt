-- A weaker fact of an option that is none.
use Rattle.std.specs.Prelude.{Option, Some, None, IfNone}

pub none_then : {A : Type 0} (o : Option A) {P Q : Type 0} → IfNone o P → (P → Q) → IfNone o Q
none_then None p f = f p
none_then (Some x) p f = p
