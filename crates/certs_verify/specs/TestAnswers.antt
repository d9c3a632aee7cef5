-- What a list of tests answers.
use Rattle.std.specs.Prelude.{List, Result, Ok, Err}
use Rattle.certs_verify.specs.certs_basics.Lists.{Each, FirstFailing}

-- All are passed, or the answer is the first that isn't.
abbrev pub Answers : {X : Type 0} → (X → Type 0) → List X → Result (Unit {0}) X → Type 0
Answers P xs (Ok x) = Each P xs
Answers P xs (Err x) = FirstFailing P xs x
