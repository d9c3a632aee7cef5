-- What is said of resources, by whether they are missing.
use Rattle.std.proofs.Common.{◌≡◌, ◌↔◌, Bool, true, false, IsTrue, refl}
use Rattle.certs.specs.resources_chain.Claims.{Choice}
use Rattle.certs.specs.resources_chain.declared.choice.ResourcesChoice.TheVariants.{Missing, Inherit, Blocks}
use Rattle.certs.specs.resources_ip.WrittenFamilies.{is_said}

pub says : (b : Bool) (choice : Choice) → (IsTrue b ↔ ¬ (choice ≡ Missing)) → b ≡ is_said choice
says true Missing h = absurd (h.0 refl refl)
says true Inherit h = refl
says true (Blocks runs) h = refl
says false Missing h = refl
says false Inherit h = h.1 (λ e. cc)
says false (Blocks runs) h = h.1 (λ e. cc)
