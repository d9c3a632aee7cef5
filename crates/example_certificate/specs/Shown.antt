-- How addresses are printed that a certificate claims.
use Rattle.std.specs.Prelude.{◌≡◌, ℕ, List, codes}
use Rattle.example_certificate.specs.resources_chain.Claims.{Choice, Lists}
use Rattle.example_certificate.specs.resources_chain.Sets.{Run, IsRunsOf}
use Rattle.example_certificate.specs.resources_chain.declared.choice.ResourcesChoice.TheVariants.{Missing, Inherit, Blocks}
use Rattle.example_certificate.specs.resources_ip.Texts.{ip_set_text}
use Rattle.example_certificate.specs.resources_ip_prefix.declared.addr.AddressFamily.{AddressFamily}

-- The text of all numbers that are claimed, in order.
pub record IsListed (family : AddressFamily) (claimed : Choice) (text : List ℕ) : Type 0 where
  pub runs : List Run
  pub all : IsRunsOf (Lists claimed) runs
  pub text_is : text ≡ ip_set_text family runs

-- `inherit` where they are the issuer's.
abbrev pub IsShown : AddressFamily → Choice → List ℕ → Type 0
IsShown family Inherit text = text ≡ codes "inherit"
IsShown family Missing text = IsListed family Missing text
IsShown family (Blocks runs) text = IsListed family (Blocks runs) text
