-- What tests ask together is what the rules ask, and a reason refutes what they rule.
use Rattle.std.proofs.Common.{ℕ, ◌↔◌, List, subst}
use Rattle.rpki_rules.specs.certs_basics.Lists.{Each}
use Rattle.rpki_rules.specs.Certs.{Cert}
use Rattle.rpki_rules.specs.Objects.{Object}
use Rattle.rpki_rules.specs.Words.{Mem}
use Rattle.rpki_rules.specs.Kinds.{Kind}
use Rattle.rpki_rules.specs.World.{World}
use Rattle.rpki_rules.specs.Points.{Point, files}
use Rattle.rpki_rules.specs.Chains.{Fits, StandsIn, IsChild}
use Rattle.rpki_rules.specs.Attests.{Payload, IsGood}
use Rattle.rpki_rules.specs.Refused.{IsFileRefused}
use Rattle.rpki_rules.specs.Reasons.{kinds, FitsKind}
use Rattle.rpki_rules.specs.PointReasons.{list_tests, PassesList, HasList, HasGoodManifest}
use Rattle.rpki_rules.specs.LocatorReasons.{tests_of_anchors, PassesAnchor, LeadsTo, BadText, NoneHeld, NoCert, BadAnchor}
use Rattle.rpki_rules.specs.FileReasons.{tests_of_cers, PassesCer, tests_of_objects, PassesObject, HasPayload, FileReason, FileFails, file_cause}
use Rattle.rpki_rules.specs.TestLaws.{CertTestsAreRules, ContentTestsAreRules, RevocationTestsAreRules, AnchorTestsAreRules, LocatorReasonsRefuse}
use Rattle.rpki_rules.proofs.Firsts.{none_fails}
use Rattle.rpki_rules.proofs.ReasonTests.{cert_passes, passes_cert, content_passes, passes_content, kinds_fit, fit_kinds}
use Rattle.rpki_rules.proofs.LocatorReasons.{anchor_passes, passes_anchor, nowhere, unread, moved, no_text}
use Rattle.rpki_rules.proofs.PointReasons.{stands_of, good_in, list_in, passes_in}
use Rattle.rpki_rules.proofs.FileReasons.{revocation_passes, passes_revocation, cer_passes, passes_cer, object_passes, passes_object, payload_of, same_payload, refuses_file}

pub cert_tests_are_rules : CertTestsAreRules
cert_tests_are_rules w role ca c = (cert_passes w role ca c, λ h. passes_cert w role ca c h.0 h.1)

pub content_tests_are_rules : ContentTestsAreRules
content_tests_are_rules w o = (content_passes w o, passes_content w o)

pub claim_tests_are_rules : (held : Kind → ℕ → Type 0) (c : Cert) → Each (FitsKind held c) kinds ↔ Fits held c
claim_tests_are_rules held c = (kinds_fit held c, fit_kinds held c)

pub revocation_tests_are_rules : RevocationTestsAreRules
revocation_tests_are_rules p c = (revocation_passes p c, passes_revocation p c)

pub anchor_tests_are_rules : AnchorTestsAreRules
anchor_tests_are_rules w key c = (anchor_passes w key c, passes_anchor w key c)

pub cer_tests_are_rules : (w : World) (held : Kind → ℕ → Type 0) (ca : Cert) (p : Point) (c : Cert) → Each (PassesCer w held ca p c) tests_of_cers ↔ IsChild w held ca p c
cer_tests_are_rules w held ca p c = (cer_passes w held ca p c, passes_cer w held ca p c)

pub object_tests_are_rules : (w : World) (held : Kind → ℕ → Type 0) (ca : Cert) (p : Point) (uri : List ℕ) (o : Object) (x : Payload) → Mem (files ca p.manifest) uri → HasPayload w uri o x → Each (PassesObject w held ca p o) (tests_of_objects x) ↔ IsGood w held ca p uri x
object_tests_are_rules w held ca p uri o x listed h = (
  object_passes w held ca p uri o x listed h,
  λ g.
      let e = same_payload w held ca p uri g.object o x x (payload_of w held ca p uri x g) h in
      subst (λ (v : Object). Each (PassesObject w held ca p v) (tests_of_objects x)) e.0 (passes_object w held ca p uri x g),
)

pub point_tests_are_rules : (w : World) (held : Kind → ℕ → Type 0) (ca : Cert) (p : Point) → (HasGoodManifest w ca p.object p.manifest × HasList w p.object p.crl × Each (PassesList w held ca p) list_tests) ↔ StandsIn w held ca p
point_tests_are_rules w held ca p = (
  λ h. stands_of w ca held p h.0 h.1 h.2,
  λ s. (good_in w ca held p s, list_in w ca held p s, passes_in w ca held p s),
)

pub file_reasons_refuse : (w : World) (held : Kind → ℕ → Type 0) (on : List (List ℕ)) (count : ℕ) (ca : Cert) (p : Point) (uri : List ℕ) (r : FileReason) → FileFails w held on count ca p uri r → IsFileRefused w held on count ca p uri (file_cause r)
file_reasons_refuse w held on count ca p uri r f = refuses_file w held ca p uri on count r f

pub locator_reasons_refuse : LocatorReasonsRefuse
locator_reasons_refuse w l (BadText e) f = no_text w l e f
locator_reasons_refuse w l NoneHeld f = (
  (f.0, f.1, f.2),
  λ uris key uri octets c t h ct i. nowhere w l f key octets (record { uris = uris; reads = t; uri = uri; held = h }),
)
locator_reasons_refuse w l NoCert f = (
  (f.2.uris, f.0, f.2.reads),
  λ uris key uri octets c t h ct i. unread w l f key octets c (record { uris = uris; reads = t; uri = uri; held = h }) ct,
)
locator_reasons_refuse w l (BadAnchor t) f = (
  (f.3.uris, f.0, f.3.reads),
  λ uris key uri octets c r h ct i.
      let lead : LeadsTo w l key octets = record { uris = uris; reads = r; uri = uri; held = h } in
      none_fails (PassesAnchor w f.0 f.2) tests_of_anchors t
      (moved w l (λ k d. Each (PassesAnchor w k d) tests_of_anchors) key f.0 octets f.1 c f.2 lead f.3 ct f.4 (passes_anchor w key c i)) f.5,
)
