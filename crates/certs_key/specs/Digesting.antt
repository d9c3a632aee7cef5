-- The digests of a digester, which is handed in.
use Rattle.std.specs.Prelude.{ℕ, List}
use Rattle.certs_key.specs.certs_basics.HandedIn.{Digests}

-- By what it answers, SHA-256 first.
abbrev pub digests_of : {D : Type 0} → (D → List ℕ → List ℕ) → (D → List ℕ → List ℕ) → D → Digests
digests_of sha256 sha1 d = record { sha256 = sha256 d; sha1 = sha1 d }
