-- What is printed of what some URIs can reach: lines, or one JSON object.
use Rattle.std.specs.Prelude.{◌≡◌, ◌↔◌, ℕ, Bool, true, false, IsTrue, List, ◌++◌, codes}
use Rattle.rpki_validator.specs.resources.Resources.{HasNone}
use Rattle.rpki_validator.specs.resources.resources_as.Texts.{as_set_text}
use Rattle.rpki_validator.specs.resources.resources_ip.Texts.{ip_set_text}
use Rattle.rpki_validator.specs.resources.resources_ip_prefix.declared.addr.AddressFamily.TheVariants.{Ipv4, Ipv6}
use Rattle.rpki_validator.specs.rpki_rules.Reach.{Answer, Locates, Held, IsReach}
use Rattle.rpki_validator.specs.rpki_rules.World.{World}

-- All, or numbers of each kind.
abbrev pub reach_text : Bool → Answer → List ℕ
reach_text false Locates = codes "locator\n"
reach_text false (Held r) =
    codes "as " ++ (as_set_text r.asn
    ++ (codes "\nipv4 " ++ (ip_set_text Ipv4 r.ipv4
    ++ (codes "\nipv6 " ++ (ip_set_text Ipv6 r.ipv6 ++ codes "\n")))))
reach_text true Locates = codes "{\"locator\":true}\n"
reach_text true (Held r) =
    codes "{\"locator\":false,\"as\":\"" ++ (as_set_text r.asn
    ++ (codes "\",\"ipv4\":\"" ++ (ip_set_text Ipv4 r.ipv4
    ++ (codes "\",\"ipv6\":\"" ++ (ip_set_text Ipv6 r.ipv6 ++ codes "\"}\n")))))

-- Something can be reached: all, or some number.
abbrev pub ReachesSome : Answer → Type 0
ReachesSome Locates = Unit {0}
ReachesSome (Held r) = ¬ (HasNone r)

-- What the URIs reach is told; a yes is that they reach something.
pub record Reaches (w : World) (json : Bool) (uris : List (List ℕ))
    (yes : Bool) (text : List ℕ) : Type 0 where
  pub answer : Answer
  pub reached : IsReach uris w answer
  pub some : IsTrue yes ↔ ReachesSome answer
  pub text_is : text ≡ reach_text json answer
