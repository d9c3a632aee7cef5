-- The fields of a certificate that is read can be written and read again.
use Rattle.std.proofs.Common.{◌≡◌, ◌≢◌, ◌⊎◌, inl, inr, ℕ, List, [], ◌∷◌, refl, sym, ◌∙◌, subst}
use Rattle.certs.specs.bcder_tree.declared.mode.Mode.{Mode}
use Rattle.certs.specs.bcder_tree.declared.mode.Mode.TheVariants.{Der}
use Rattle.certs.specs.bcder_tree.Tree.{Tree}
use Rattle.certs.specs.bcder_octets.BitContents.{IsPadded}
use Rattle.certs.specs.certs_basics.Keys.{KeyValue}
use Rattle.certs.specs.certs_extension.Cert.{CertValue, TbsValue}
use Rattle.certs.specs.certs_extension.CertText.{AreAsResources, AreIpResources, SpellsTbs}
use Rattle.certs.specs.certs_extension.Extensions.{Extension}
use Rattle.certs.specs.resources_as.Encodings.{IsAsResources}
use Rattle.certs.specs.resources_chain.Claims.{Choice}
use Rattle.certs.specs.resources_chain.Sets.{Run}
use Rattle.certs.specs.resources_chain.declared.choice.ResourcesChoice.TheVariants.{Missing, Inherit, Blocks}
use Rattle.certs.specs.resources_ip.Encodings.{FamilyChoices, IsIpAddrBlocks}
use Rattle.certs.specs.resources_ip.Written.{FitsChoice}
use Rattle.certs.specs.resources_ip_prefix.declared.addr.AddressFamily.TheVariants.{Ipv4}
use Rattle.resources_ip.specs.WholeSets.{ListsWhole}
use Rattle.certs.specs.Laws.{IsReadable, ReadIsReadable}

-- AS resources.
inherit_is_said : (choice : Choice) → choice ≡ Inherit → choice ≢ Missing
inherit_is_said choice p e = let q : ◌≡◌ {A = Choice} Inherit Missing = sym p ∙ e in cc

blocks_are_said : (choice : Choice) (runs : List Run) → choice ≡ Blocks runs → choice ≢ Missing
blocks_are_said choice runs p e = let q : ◌≡◌ {A = Choice} (Blocks runs) Missing = sym p ∙ e in cc

numbers_said : (t : Tree) (choice : Choice) → IsAsResources t choice → choice ≢ Missing
numbers_said t choice p = elim p.is.is.is.is.is.cases [
  | inl q ↦ inherit_is_said choice (p.means ∙ q.means)
  | inr q ↦ blocks_are_said choice q.x (p.means ∙ q.means)
]

asn_said : (es : List Extension) (choice : Choice) → AreAsResources es choice → es ≢ [] → choice ≢ Missing
asn_said [] choice p some = absurd (some refl)
asn_said (e ∷ []) choice p some = numbers_said p.is.tree choice p.is.is
asn_said (e ∷ f ∷ es) choice p some = absurd p

-- IP resources.
either_said : (v4 v6 : Choice) → ¬ ((v4 ≡ Missing) × (v6 ≡ Missing)) → (v4 ≢ Missing) ⊎ (v6 ≢ Missing)
either_said Missing v6 some = inr (λ e. some (refl, e))
either_said Inherit v6 some = inl (inherit_is_said Inherit refl)
either_said (Blocks runs) v6 some = inl (blocks_are_said (Blocks runs) runs refl)

none_whole : (choice : Choice) → choice ≡ Missing → ListsWhole choice
none_whole choice e = subst (λ (c : Choice). ListsWhole c) (sym e) (λ n m same h. absurd h)

module _ (fit : (m : Mode) (t : Tree) (x : FamilyChoices) → IsIpAddrBlocks m t x → FitsChoice Ipv4 x.v4)
    (any : (m : Mode) (t : Tree) (x : FamilyChoices) → IsIpAddrBlocks m t x → ¬ ((x.v4 ≡ Missing) × (x.v6 ≡ Missing)))
    (whole : (choice : Choice) → FitsChoice Ipv4 choice → ListsWhole choice) where
  ip_whole : (es : List Extension) (v4 v6 : Choice) → AreIpResources es v4 v6 → ListsWhole v4
  ip_whole [] v4 v6 p = none_whole v4 p.0
  ip_whole (e ∷ []) v4 v6 p = whole v4 (fit Der p.is.tree (record { v4 = v4; v6 = v6 }) p.is.is)
  ip_whole (e ∷ f ∷ es) v4 v6 p = absurd p

  ip_said : (es : List Extension) (v4 v6 : Choice) → AreIpResources es v4 v6 → es ≢ [] → (v4 ≢ Missing) ⊎ (v6 ≢ Missing)
  ip_said [] v4 v6 p some = absurd (some refl)
  ip_said (e ∷ []) v4 v6 p some = either_said v4 v6 (any Der p.is.tree (record { v4 = v4; v6 = v6 }) p.is.is)
  ip_said (e ∷ f ∷ es) v4 v6 p some = absurd p

  some_said : (ips asns : List Extension) (v4 v6 asn : Choice) → AreIpResources ips v4 v6 → AreAsResources asns asn → (ips ≢ []) ⊎ (asns ≢ [])
      → (v4 ≢ Missing) ⊎ ((v6 ≢ Missing) ⊎ (asn ≢ Missing))
  some_said ips asns v4 v6 asn p q some = elim some [
    | inl there ↦ elim (ip_said ips v4 v6 p there) [
      | inl said ↦ inl said
      | inr said ↦ inr (inl said)
    ]
    | inr there ↦ inr (inr (asn_said asns asn q there))
  ]

  -- What is signed of a certificate.
  tbs_readable : (c : TbsValue) (text : List ℕ) → SpellsTbs Der text c → IsReadable c
  tbs_readable c text p =
      let resources = p.says.extensions.resources in
      record {
        some = some_said _ _ c.v4 c.v6 c.asn resources.ip resources.asn resources.some;
        whole = ip_whole _ c.v4 c.v6 resources.ip;
      }

  -- Its key has zeros for unused bits.
  tbs_padded : (c : TbsValue) (text : List ℕ) → SpellsTbs Der text c → IsPadded Der c.key.bits
  tbs_padded c text p =
      let key = p.is.is.rest.rest.rest.rest.rest.rest in
      let bits = key.is.is.is.are.rest.is.is in
      subst (λ (k : KeyValue). IsPadded Der k.bits) (sym p.says.key) bits.padded

  pub read_is_readable : ReadIsReadable
  read_is_readable octets c p =
      let cert = p.is in
      let tbs = cert.is.is.is.is in
      subst (λ (k : CertValue). IsReadable k.tbs × IsPadded Der k.tbs.key.bits) (sym cert.says)
      (tbs_readable cert.fields.0.1 _ tbs, tbs_padded cert.fields.0.1 _ tbs)
