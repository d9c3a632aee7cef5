-- A validation of an anchor, and the test of its key, decide whether the certificate is a trust anchor's, and why not.
use Rattle.std.proofs.Common.{◌≡◌, ◌∷◌, ◌++◌, [], ℕ, true, List, map, Option, Some, Result, Ok, Err, sym, subst}
use Rattle.std.specs.Prelude.{IfOk, String}
use Rattle.std.specs.declared.alloc.Global.{Global}
use Rattle.certs_verify.specs.declared.refused.Refused.{Refused}
use Rattle.certs_verify.specs.Holders.{ResourceCertValue}
use Rattle.certs_verify.specs.Validated.{MeetsValid, cause_of}
use Rattle.certs_verify.specs.Words.{RefusedBy}
use Rattle.rpki_steps.specs.certs_basics.Lists.{Each, FirstFailing}
use Rattle.rpki_steps.specs.certs_x509.declared.errors.validation.ValidationError.{ValidationError}
use Rattle.rpki_steps.specs.certs_extension.declared.forms.Role.TheVariants.{Ta}
use Rattle.rpki_steps.specs.certs_extension.Calls.{Fault, ValidatesAnchor}
use Rattle.rpki_steps.specs.certs_extension.Profiles.{tests}
use Rattle.rpki_steps.specs.certs_extension.Verified.{AcceptsAnchor, anchor_tests}
use Rattle.rpki_rules.specs.Certs.{Cert, Key, encoded}
use Rattle.rpki_rules.specs.World.{World}
use Rattle.rpki_rules.specs.declared.reason.certs.CertTest.TheVariants.{Inspection, Verification}
use Rattle.rpki_rules.specs.Reasons.{PassesCert}
use Rattle.rpki_rules.specs.declared.reason.certs.CertTest.{CertTest}
use Rattle.rpki_rules.specs.declared.reason.locators.AnchorTest.TheVariants.{SameKey, AnchorCert}
use Rattle.rpki_rules.specs.LocatorReasons.{PassesAnchor, tests_of_anchors}
use Rattle.rpki_rules.specs.declared.reason.locators.AnchorTest.{AnchorTest}
use Rattle.rpki_rules.proofs.Firsts.{map_each}
use Rattle.rpki_rules.proofs.FirstParts.{first_behind, first_here, first_in_front, first_map}
use Rattle.rpki_steps.specs.Anchored.{IsFoundAnchor}
use Rattle.rpki_steps.specs.Accepted.{IsAcceptedOrRefused, cert_fault}
use Rattle.rpki_steps.proofs.AcceptedClaims.{anchor_own, own_lists}

-- What is accepted, with that key, is a trust anchor's.
is_anchor : (w : World) (key : Key) (tal : String Global) (c : Cert) (r : ResourceCertValue) → encoded c.tbs.key ≡ encoded key
    → AcceptsAnchor w.digests w.good true w.moment c r.holder → r.tal ≡ tal → IsFoundAnchor w key tal c r
is_anchor w key tal c r k a t = record {
  same = a.holds.cert;
  anchor = record {
    profile = a.profile;
    listed = anchor_own w c a.anchor;
    valid = (a.anchor.0, a.anchor.1.0);
    good = a.anchor.1.1.1.1.1.0;
    same_key = k;
  };
  holds = own_lists r c a.holds;
  name = t;
}

module _ (w : World) (key : Key) (c : Cert) where
  abbrev Q : AnchorTest → Type 0
  Q = PassesAnchor w key c

  abbrev P : CertTest → Type 0
  P = PassesCert w Ta c c

  abbrev forms : List CertTest
  forms = map Inspection (tests Ta)

  abbrev others : List CertTest
  others = map Verification anchor_tests

  -- Another key is none of a trust anchor's with this one.
  pub other_key : (encoded c.tbs.key ≡ encoded key → ⊥) → FirstFailing Q tests_of_anchors SameKey
  other_key n = first_here Q SameKey (map AnchorCert (forms ++ others)) n

  module _ (k : encoded c.tbs.key ≡ encoded key) where
    later : (t : CertTest) → FirstFailing P (forms ++ others) t → FirstFailing Q tests_of_anchors (AnchorCert t)
    later t f = first_behind Q (SameKey ∷ []) (map AnchorCert (forms ++ others)) (AnchorCert t) (k, tt) (first_map AnchorCert Q (forms ++ others) t f)

    fails_told : (given : Cert) (t : CertTest) → RefusedBy (ValidatesAnchor w.digests w.good true w.moment c) given (Some (cert_fault t)) → FirstFailing Q tests_of_anchors (AnchorCert t)
    fails_told given (Inspection t) h = later (Inspection t) (first_in_front P forms others (Inspection t) (first_map Inspection P (tests Ta) t h.1))
    fails_told given (Verification t) h =
        let all : Each P forms = map_each Inspection P (tests Ta) h.1.0 in
        later (Verification t) (first_behind P forms others (Verification t) all (first_map Verification P anchor_tests t h.1.1))

    -- What the validation settles is the answer, at the world's moment.
    module _ (now : ℕ) (at : now ≡ w.moment) where
      pub accepted : (tal : String Global) (v : Result ResourceCertValue (Refused ValidationError)) (r : ResourceCertValue)
          → MeetsValid (ValidatesAnchor w.digests w.good true now c) v → IfOk v (λ r. r.tal ≡ tal) → IsAcceptedOrRefused v (Ok r) → IsFoundAnchor w key tal c r
      accepted tal (Ok r) s m t e =
          subst (λ (x : ResourceCertValue). IsFoundAnchor w key tal c x) (sym e) (is_anchor w key tal c r k (subst (λ (n : ℕ). AcceptsAnchor w.digests w.good true n c r.holder) at m) t)
      accepted tal (Err x) s m t e = absurd e

      pub refused : (v : Result ResourceCertValue (Refused ValidationError)) (e : ValidationError) (t : CertTest)
          → MeetsValid (ValidatesAnchor w.digests w.good true now c) v → IsAcceptedOrRefused v (Err e) → cause_of e ≡ Some (cert_fault t) → FirstFailing Q tests_of_anchors (AnchorCert t)
      refused (Ok r) e t m s told = absurd s
      refused (Err x) e t m s told =
          let h : RefusedBy (ValidatesAnchor w.digests w.good true now c) x.cert (cause_of e) = subst (λ (f : ValidationError). RefusedBy (ValidatesAnchor w.digests w.good true now c) x.cert (cause_of f)) (sym s.0) m in
          let g : RefusedBy (ValidatesAnchor w.digests w.good true now c) x.cert (Some (cert_fault t)) = subst (λ (o : Option Fault). RefusedBy (ValidatesAnchor w.digests w.good true now c) x.cert o) told h in
          fails_told x.cert t (subst (λ (n : ℕ). RefusedBy (ValidatesAnchor w.digests w.good true n c) x.cert (Some (cert_fault t))) at g)
