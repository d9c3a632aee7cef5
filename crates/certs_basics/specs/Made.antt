-- When a URI is made, and why not.
use Rattle.std.specs.Prelude.{◌≡◌, ℕ, List, Result, Ok, Err}
use Rattle.certs_basics.specs.declared.uri.error.Error.{Error}
use Rattle.certs_basics.specs.declared.uri.error.Error.TheVariants.{BadUri, Memory}

-- This text, where what is wanted holds; the text is refused where it doesn't; memory is asked for only where it does.
abbrev pub MakesIf : Type 0 → List ℕ → Result (List ℕ) Error → Type 0
MakesIf wanted text (Ok uri) = wanted × (uri ≡ text)
MakesIf wanted text (Err BadUri) = wanted → ⊥
MakesIf wanted text (Err Memory) = wanted
