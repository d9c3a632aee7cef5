-- Octets that were read, and are kept as they stood. In BER a value doesn't tell its octets; where they are signed, a
-- reader says of the very octets that it read what they are.
use Rattle.std.specs.Prelude.{ℕ, List}
use Rattle.certs_x509.specs.bcder_tree.declared.mode.Mode.{Mode}
use Rattle.certs_x509.specs.bcder_content.Contents.{ValuesLeft, Goes}

-- These octets were read, and they are of P.
pub record TookOctets {A B : Type 0} (f : A → B) (P : Mode → List ℕ → B → Type 0) (old : ValuesLeft)
    (x : A) (new : ValuesLeft)
    : Type 0 where
  pub text : List ℕ
  pub goes : Goes old text new
  pub is : P old.mode text (f x)
