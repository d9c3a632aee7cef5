-- The providers that a customer may have (draft-ietf-sidrops-aspa-profile 3).
use Rattle.std.specs.Prelude.{ℕ, List}
use Rattle.objects_payload.specs.Aspas.{Aspa, IsLawful}

abbrev pub attested : ℕ → List ℕ → Aspa
attested customer providers = record { customer = customer; providers = providers }

-- From 1 to 10,000 providers, strictly ascending, without the customer, and AS 0 alone.
abbrev pub AreLawful : ℕ → List ℕ → Type 0
AreLawful customer providers = IsLawful (attested customer providers)
