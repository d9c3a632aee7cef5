-- Files of a publication point that are certificates.
use Rattle.std.proofs.Common.{◌≡◌, ◌≢◌, inr, ℕ, true, List, map, Some, Ok, Err, refl, sym, subst}
use Rattle.certs_verify.specs.TestAnswers.{Answers}
use Rattle.rpki_standing.specs.Lookups.{NoCertAt}
use Rattle.rpki_steps.specs.certs_basics.Lists.{Each}
use Rattle.rpki_steps.specs.Below.{FailsBelow, FailsChild, IsFoundBelow, IsFoundChild, TellsUnheld, below_tests}
use Rattle.rpki_steps.specs.Holders.{cert_of, sets_of}
use Rattle.rpki_steps.specs.certs_verify.Holders.{ResourceCertValue}
use Rattle.rpki_rules.specs.declared.reason.files.CerTest.{CerTest as Told}
use Rattle.rpki_rules.specs.declared.reason.files.CerTest.TheVariants as told
use Rattle.rpki_rules.specs.declared.reason.files.FileReason.TheVariants as reason
use Rattle.rpki_rules.specs.declared.reason.files.RevocationTest.{RevocationTest}
use Rattle.rpki_rules.specs.Certs.{Cert}
use Rattle.rpki_rules.specs.Chains.{CertAt, HasExtension, cer}
use Rattle.rpki_rules.specs.Kinds.{InSet}
use Rattle.rpki_rules.specs.Points.{Point}
use Rattle.rpki_rules.specs.Reasons.{AreUnheld}
use Rattle.rpki_rules.specs.FileReasons.{CerTest, CerRevocation, PassesCer, PassesRevocation, revocation_tests}
use Rattle.rpki_rules.specs.ReasonViews.{CerUnheld, cer_test_of, kind_claimed, runs_claimed}
use Rattle.rpki_rules.specs.Refused.{IsIssued}
use Rattle.rpki_rules.specs.World.{World}
use Rattle.rpki_walk.specs.Repository.{HasKept, IsIgnored}
use Rattle.rpki_walk.specs.declared.repository.FileKind.TheVariants as Is
use Rattle.rpki_rules.proofs.Firsts.{map_each}
use Rattle.rpki_rules.proofs.FirstParts.{first_behind, first_in_front, first_map}
use Rattle.rpki_rules.proofs.FileReasons.{revocation_passes}
use Rattle.rpki_rules.proofs.Readings.{no_cer_payload, one_cert_at}
use Rattle.rpki_steps.specs.Files.{IsBadFile, JudgesFile}

module _ (w : World) (ca : ResourceCertValue) (p : Point) (c : Cert) where
  abbrev Q : CerTest → Type 0
  Q = PassesCer w (InSet (sets_of ca)) (cert_of ca) p c

  abbrev revocations : List CerTest
  revocations = map CerRevocation revocation_tests

  -- It is revoked.
  pub revoked : (t : RevocationTest) → Answers (PassesRevocation p c) revocation_tests (Err t) → FailsChild w ca p c (told.CerRevocation t)
  revoked t f = record {
    fails = first_in_front Q revocations below_tests (CerRevocation t) (first_map CerRevocation Q revocation_tests t f);
    unheld = tt;
  }

  module _ (all : Each (PassesRevocation p c) revocation_tests) where
    -- It isn't below this authority.
    pub not_below : (t : Told) → FailsBelow w ca c t → FailsChild w ca p c t
    not_below t f = record {
      fails = first_behind Q revocations below_tests (cer_test_of t) (map_each CerRevocation Q revocation_tests all) (f.fails p);
      unheld = f.unheld;
    }

    -- It is.
    pub below : (r s : ResourceCertValue) → s ≡ r → IsFoundBelow w ca c r → IsFoundChild w ca p c s
    below r s e f = subst (λ (x : ResourceCertValue). IsFoundChild w ca p c x) (sym e) (record {
      same = f.same;
      child = record { sound = record { profile = f.below.profile; signed = f.below.signed; unrevoked = revocation_passes p c all }; fits = f.below.fits };
      holds = f.holds;
    })

module _ (w : World) (ca : ResourceCertValue) (p : Point) (uri : List ℕ) where
  -- The file reads as no certificate.
  pub no_cert : HasExtension cer uri → NoCertAt w uri → IsBadFile w ca p uri reason.BadCer
  no_cert h n = record { fails = λ on count. (h, n); unheld = tt; cause_is = refl }

  module _ (c : Cert) where
    -- It is the certificate of no authority.
    pub no_authority : HasExtension cer uri → CertAt w uri c → c.tbs.basic_ca ≢ Some true → IsIgnored w uri
    no_authority h t b = record { no_payload = no_cer_payload uri h; no_authority = inr (c, t, b) }

    -- It is that of a child.
    pub child : (r : ResourceCertValue) → HasExtension cer uri → CertAt w uri c → IsFoundChild w ca p c r → JudgesFile w ca p uri (Ok (Is.Child r))
    child r h t f = (
      subst (λ (x : Cert). IsIssued w (InSet (sets_of ca)) (cert_of ca) p uri x) (sym f.same) (record { extension = h; reads = t; child = f.child }),
      subst (λ (x : Cert). HasKept (InSet (sets_of ca)) x (sets_of r)) (sym f.same) f.holds,
    )

    there_unheld : (t : Told) → CertAt w uri c → TellsUnheld (InSet (sets_of ca)) c t → CerUnheld w (InSet (sets_of ca)) uri t
    there_unheld (told.CerRevocation x) at u = tt
    there_unheld (told.CerCert x) at u = tt
    there_unheld (told.CerClaim x) at u = λ d other.
        subst (λ (y : Cert). AreUnheld (InSet (sets_of ca)) y (kind_claimed x) (runs_claimed x)) (one_cert_at w uri c d at other) u

    -- It is one of an authority, and no child.
    pub no_child : (t : Told) → HasExtension cer uri → CertAt w uri c → c.tbs.basic_ca ≡ Some true → FailsChild w ca p c t → IsBadFile w ca p uri (reason.CerFails t)
    no_child t h at b f = record {
      fails = λ on count. (c, record { extension = h; reads = at; authority = b }, f.fails);
      unheld = there_unheld t at f.unheld;
      cause_is = refl;
    }
