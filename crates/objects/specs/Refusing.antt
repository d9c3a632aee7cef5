-- Why nothing is signed of a content: it can't be written in DER, or no object can be built of it with fields like these.
use Rattle.std.specs.Prelude.{◌⊎◌, ℕ, List}
use Rattle.objects.specs.bcder_values.Writable.{Writable}
use Rattle.objects.specs.certs_basics.HandedIn.{Digests}
use Rattle.objects.specs.certs_basics.Keys.{KeyValue}
use Rattle.objects_written.specs.Builders.{BuilderValue}
use Rattle.objects_written.specs.Refusing.{IsTooLong}

-- Something can be written of a content, whose text P says.
abbrev pub CanWrite : (List ℕ → Type 0) → Type 0
CanWrite P = (text : List ℕ) × P text

-- Nothing can be written of it, or of an object of that kind with it, and with fields that `Fields` says.
abbrev pub CannotSignContent : Digests → (KeyValue → Type 0) → (KeyValue → List ℕ → List ℕ → Type 0)
    → List ℕ → (List ℕ → Type 0) → (BuilderValue → Type 0) → Type 0
CannotSignContent d HasKey SignsOnce kind P Fields =
    (Writable P → ⊥) ⊎ ((content : List ℕ) × P content × (fields : BuilderValue) × Fields fields
    × IsTooLong d fields kind content HasKey SignsOnce)
