-- The providers of an attestation that is put together (draft-ietf-sidrops-aspa-profile 3).
use Rattle.std.specs.Prelude.{◌≡◌, ℕ, List, [], ◌∷◌}
use Rattle.objects.specs.resources_asn.Listed.{InList}
use Rattle.objects.specs.declared.attested.error.ProviderError.{ProviderError}
use Rattle.objects.specs.declared.attested.error.ProviderError.TheVariants.{Duplicate, Memory}

-- AS 0, which means that there is no provider, has no other beside it.
abbrev pub IsZeroAlone : List ℕ → Type 0
IsZeroAlone providers = InList providers 0 → providers ≡ 0 ∷ []

-- It is refused since it is there already.
abbrev pub IsDuplicate : ProviderError → Type 0
IsDuplicate (Duplicate d) = Unit {0}
IsDuplicate Memory = ⊥
