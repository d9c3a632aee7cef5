-- What is read of a bundle on the way up: one thing where there is one, and nothing where there is none.
use Rattle.std.specs.Prelude.{List, ℕ, Option, Some, None}
use Rattle.rpki_rules.specs.Certs.{Cert}
use Rattle.rpki_rules.specs.Objects.{Object}
use Rattle.rpki_rules.specs.World.{World}
use Rattle.rpki_rules.specs.Points.{Point, IsPoint}
use Rattle.rpki_rules.specs.Chains.{CertAt, IsCerFile, IsSound}
use Rattle.rpki_rules.specs.Attests.{Payload, IsSigned}

-- The certificate at the lookup key.
abbrev pub IsReadCert : {C : Type 0} → (C → Cert) → World → List ℕ → Option C → Type 0
IsReadCert cert w uri (Some c) = CertAt w uri (cert c)
IsReadCert cert w uri None = (c : Cert) → ¬ (CertAt w uri c)

-- The authority's point, the claim of the manifest's certificate apart.
abbrev pub IsReadPoint : {P : Type 0} → (P → Point) → World → Cert → Option P → Type 0
IsReadPoint point w ca (Some p) = IsPoint w ca (point p)
IsReadPoint point w ca None = (p : Point) → ¬ (IsPoint w ca p)

-- The certificate is at a file of the point, and sound there, its claim apart.
pub record IsBelow (w : World) (ca : Cert) (p : Point) (uri : List ℕ) (c : Cert) : Type 0 where
  pub file : IsCerFile w ca p uri c
  pub sound : IsSound w ca p c

-- The object at a file of the point that is sound there, its claim apart.
abbrev pub IsReadObject : {O : Type 0} → (O → Object) → (O → Payload) → World → Cert → Point
    → List ℕ → Option O → Type 0
IsReadObject object payload w ca p uri (Some o) = IsSigned w ca p uri (object o) (payload o)
IsReadObject object payload w ca p uri None =
    (o : Object) (x : Payload) → ¬ (IsSigned w ca p uri o x)
