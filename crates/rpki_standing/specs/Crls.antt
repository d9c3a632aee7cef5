-- The revocation list of a publication point, by where it stands (RFC 6487 5, RFC 9286 6.2).
use Rattle.std.specs.Prelude.{◌≡◌, ℕ, false, List, Option, Some, None}
use Rattle.rpki_rules.specs.Certs.{Crl, CrlText}
use Rattle.rpki_rules.specs.World.{World, at}

-- The list as it was read, where its serial numbers are kept aside.
abbrev pub as_read : Crl → Crl
as_read crl = record crl { caches = false }

-- The octets that are held at the URI begin with the list.
pub record IsListAt (w : World) (uri : List ℕ) (crl : Crl) : Type 0 where
  pub octets : List ℕ
  pub held : at w uri ≡ Some octets
  pub reads : CrlText octets crl

-- What was found is one, or there is none.
abbrev pub Finds : {X : Type 0} → (X → Type 0) → Option X → Type 0
Finds {X} P None = (x : X) → ¬ (P x)
Finds {X} P (Some x) = P x
