-- What follows from the profile of an authority.
use Rattle.std.proofs.Common.{◌≡◌, inl, inr, Bool, true, List, [], ◌∷◌, Some, refl, subst}
use Rattle.certs_extension.specs.declared.forms.Role.TheVariants.{Ca}
use Rattle.certs_extension.specs.declared.forms.InspectionError.TheVariants as test
use Rattle.certs_extension.specs.certs_basics.Lists.{Mem, Each}
use Rattle.certs_extension.specs.certs_basics.HandedIn.{Digests}
use Rattle.certs_extension.specs.Cert.{CertValue}
use Rattle.certs_extension.specs.Profiles.{Passes, Profile, tests}

-- What holds of each of a list holds of one of them.
pub of_each : {X : Type 0} (P : X → Type 0) (xs : List X) (x : X) → Each P xs → Mem xs x → P x
of_each P [] x e m = absurd m
of_each P (y ∷ ys) x e (inl p) = subst P p e.0
of_each P (y ∷ ys) x e (inr m) = of_each P ys x e.1 m

-- Another authority's certificate says that it is one.
pub ca_is_ca : (d : Digests) (strict : Bool) (c : CertValue) → Profile d strict Ca c → c.tbs.basic_ca ≡ Some true
ca_is_ca d strict c p = of_each (Passes d strict Ca c) (tests Ca) test.NotCa p (inr (inr (inr (inr (inr (inr (inr (inl refl))))))))
