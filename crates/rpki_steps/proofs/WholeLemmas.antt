-- What certificates list of IPv4 are whole addresses.
use Rattle.std.proofs.Common.{◌≡◌, ℕ, List, [], ◌∷◌, sym, subst}
use Rattle.rpki_walk.specs.resources_ip.Encodings.{FamilyChoices, IsIpAddrBlocks}
use Rattle.rpki_walk.specs.resources_ip.WholeSets.{AreWhole, ListsWhole}
use Rattle.rpki_walk.specs.resources_ip.Written.{FitsChoice}
use Rattle.rpki_rules.specs.bcder_tree.declared.mode.Mode.{Mode}
use Rattle.rpki_rules.specs.bcder_tree.Tree.{Tree}
use Rattle.rpki_walk.specs.resources_ip_prefix.declared.addr.AddressFamily.TheVariants.{Ipv4}
use Rattle.rpki_steps.specs.certs_extension.CertText.{AreIpResources}
use Rattle.rpki_steps.specs.certs_extension.Extensions.{Extension}
use Rattle.rpki_steps.specs.resources_chain.Claims.{Choice, Lists}
use Rattle.rpki_steps.specs.resources_chain.Sets.{IsRunsOf, Run}
use Rattle.rpki_steps.specs.resources_chain.declared.choice.ResourcesChoice.TheVariants.{Missing}
use Rattle.rpki_rules.specs.Certs.{Cert, CertText}

-- Nothing that is missing is listed.
none_whole : (choice : Choice) → choice ≡ Missing → ListsWhole choice
none_whole choice e = subst (λ (c : Choice). ListsWhole c) (sym e) (λ n m same h. absurd h)

module _ (fit : (m : Mode) (t : Tree) (x : FamilyChoices) → IsIpAddrBlocks m t x → FitsChoice Ipv4 x.v4) (whole : (choice : Choice) → FitsChoice Ipv4 choice → ListsWhole choice) where
  ip_whole : (es : List Extension) (v4 v6 : Choice) → AreIpResources es v4 v6 → ListsWhole v4
  ip_whole [] v4 v6 h = none_whole v4 h.0
  ip_whole (e ∷ []) v4 v6 h = whole v4 (fit _ h.is.tree (record { v4 = v4; v6 = v6 }) h.is.is)
  ip_whole (e ∷ f ∷ es) v4 v6 h = absurd h

  pub cert_whole : (octets : List ℕ) (c : Cert) → CertText octets c → ListsWhole c.tbs.v4
  cert_whole octets c t =
      let cert = t.is in
      let tbs = cert.is.is.is.is in
      subst (λ (x : Cert). ListsWhole x.tbs.v4) (sym cert.says) (ip_whole _ _ _ tbs.says.extensions.resources.ip)

-- A set of what is listed.
pub own_whole : (choice : Choice) (set : List Run) → ListsWhole choice → IsRunsOf (Lists choice) set → AreWhole set
own_whole choice set w s = λ n m e h. (s.same m).1 (w n m e ((s.same n).0 h))
