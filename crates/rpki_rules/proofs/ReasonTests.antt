-- What the tests of a certificate, a content and a claim ask together is what the rules ask.
use Rattle.std.proofs.Common.{ℕ, true, map}
use Rattle.rpki_rules.specs.resources_chain.Claims.{FitsIn}
use Rattle.rpki_rules.specs.certs_basics.Lists.{Each}
use Rattle.rpki_rules.specs.certs_extension.declared.forms.Role.{Role}
use Rattle.rpki_rules.specs.certs_extension.Profiles.{tests, Profile}
use Rattle.rpki_rules.specs.Certs.{Cert}
use Rattle.rpki_rules.specs.Objects.{Object, Sound}
use Rattle.rpki_rules.specs.Kinds.{Kind, Ipv4, Ipv6, As, claim}
use Rattle.rpki_rules.specs.World.{World}
use Rattle.rpki_rules.specs.Points.{Signed}
use Rattle.rpki_rules.specs.Chains.{Fits}
use Rattle.rpki_rules.specs.Reasons.{Inspection, Verification, signature_tests, cert_tests, PassesCert, content_tests, PassesContent, kinds, FitsKind}
use Rattle.rpki_rules.proofs.Verify.{signed_is_verified}
use Rattle.rpki_rules.proofs.Firsts.{each_split, each_join, each_map, map_each}

pub cert_passes : (w : World) (role : Role) (ca c : Cert) → Each (PassesCert w role ca c) (cert_tests role) → Profile w.digests true role c × Signed w c ca
cert_passes w role ca c all =
    let parts = each_split (PassesCert w role ca c) (map Inspection (tests role)) (map Verification signature_tests) all in (
      each_map Inspection (PassesCert w role ca c) (tests role) parts.0,
      (signed_is_verified w ca c).1 (each_map Verification (PassesCert w role ca c) signature_tests parts.1),
    )

pub passes_cert : (w : World) (role : Role) (ca c : Cert) → Profile w.digests true role c → Signed w c ca → Each (PassesCert w role ca c) (cert_tests role)
passes_cert w role ca c p s =
    each_join (PassesCert w role ca c) (map Inspection (tests role)) (map Verification signature_tests)
    (map_each Inspection (PassesCert w role ca c) (tests role) p)
    (map_each Verification (PassesCert w role ca c) signature_tests ((signed_is_verified w ca c).0 s))

pub content_passes : (w : World) (o : Object) → Each (PassesContent w o) content_tests → Sound w.digests w.good o
content_passes w o all = let s = all.1.1.0 in record { digest = all.0; time = all.1.0; message = s.message; message_is = s.message_is; signature = s.good }

pub passes_content : (w : World) (o : Object) → Sound w.digests w.good o → Each (PassesContent w o) content_tests
passes_content w o s = (s.digest, (s.time, (record { message = s.message; message_is = s.message_is; good = s.signature }, tt)))

pub kinds_fit : (held : Kind → ℕ → Type 0) (c : Cert) → Each (FitsKind held c) kinds → Fits held c
kinds_fit held c all = at
  where
    at : (k : Kind) → FitsIn c.tbs.overclaim (claim c k) (held k)
    at Ipv4 = all.0
    at Ipv6 = all.1.0
    at As = all.1.1.0

pub fit_kinds : (held : Kind → ℕ → Type 0) (c : Cert) → Fits held c → Each (FitsKind held c) kinds
fit_kinds held c f = (f Ipv4, (f Ipv6, (f As, tt)))
