-- What the rules ask of certificates is what the lists of tests of verification ask.
use Rattle.std.proofs.Common.{◌≡◌, ◌≢◌, ◌↔◌, ℕ, [], ◌∷◌, Some, None, sym, ◌∙◌}
use Rattle.rpki_rules.specs.resources_chain.Claims.{Choice, Kept, FitsIn}
use Rattle.rpki_rules.specs.resources_chain.declared.choice.ResourcesChoice.TheVariants.{Inherit}
use Rattle.rpki_rules.specs.certs_extension.Verified.{held_by}
use Rattle.rpki_rules.specs.Certs.{Cert}
use Rattle.rpki_rules.specs.Kinds.{Kind, Ipv4, Ipv6, As, claim}
use Rattle.rpki_rules.specs.Chains.{Holds, Fits}
use Rattle.rpki_rules.specs.Laws.{SignedIsVerified, IssuedIsVerified, AnchorIsVerified, AnchorHolds, IssuedHolds, ChainHolds}

-- An identifier that is given is there.
there : (c issuer : Cert) → c.tbs.authority_key_identifier ≡ Some issuer.tbs.subject_key_identifier → c.tbs.authority_key_identifier ≢ None
there c issuer e n = let z : None ≡ Some issuer.tbs.subject_key_identifier = sym n ∙ e in absurd cc

pub signed_is_verified : SignedIsVerified
signed_is_verified w issuer c = (
  λ h. (h.valid.0, (h.valid.1, (there c issuer h.authority, (h.authority, (h.issuer_uri, (h.good, tt)))))),
  λ h. record { authority = h.1.1.1.0; issuer_uri = h.1.1.1.1.0; good = h.1.1.1.1.1.0; valid = (h.0, h.1.0) },
)

-- A claim fits where it fits in each kind.
of_kinds : (held : Kind → ℕ → Type 0) (c : Cert) → FitsIn c.tbs.overclaim c.tbs.v4 (held Ipv4) → FitsIn c.tbs.overclaim c.tbs.v6 (held Ipv6) → FitsIn c.tbs.overclaim c.tbs.asn (held As) → Fits held c
of_kinds held c v4 v6 asn Ipv4 = v4
of_kinds held c v4 v6 asn Ipv6 = v6
of_kinds held c v4 v6 asn As = asn

pub issued_is_verified : IssuedIsVerified
issued_is_verified w issuer c = (
  λ h. let s = h.0 in let f = h.1 in (s.valid.0, (s.valid.1, (there c issuer.cert s.authority, (s.authority, (s.issuer_uri, (s.good, (f Ipv4, (f Ipv6, (f As, tt))))))))),
  λ h. (
    record { authority = h.1.1.1.0; issuer_uri = h.1.1.1.1.0; good = h.1.1.1.1.1.0; valid = (h.0, h.1.0) },
    of_kinds (held_by issuer) c h.1.1.1.1.1.1.0 h.1.1.1.1.1.1.1.0 h.1.1.1.1.1.1.1.1.0,
  ),
)

-- No kind is inherited.
none_inherits : (c : Cert) → c.tbs.v4 ≢ Inherit → c.tbs.v6 ≢ Inherit → c.tbs.asn ≢ Inherit → (k : Kind) → claim c k ≢ Inherit
none_inherits c v4 v6 asn Ipv4 = v4
none_inherits c v4 v6 asn Ipv6 = v6
none_inherits c v4 v6 asn As = asn

pub anchor_is_verified : AnchorIsVerified
anchor_is_verified w key c = (
  λ h. (h.profile, (h.valid.0, (h.valid.1, (h.listed Ipv4, (h.listed Ipv6, (h.listed As, (h.good, tt)))))), h.same_key),
  λ h. let v = h.1 in record { profile = h.0; listed = none_inherits c v.1.1.0 v.1.1.1.0 v.1.1.1.1.0; valid = (v.0, v.1.0); good = v.1.1.1.1.1.0; same_key = h.2 },
)

pub anchor_holds : AnchorHolds
anchor_holds w a h r = at
  where
    at : (k : Kind) (n : ℕ) → held_by h k n ↔ Holds a [] k n
    at Ipv4 n = r.holds.v4.same n
    at Ipv6 n = r.holds.v6.same n
    at As n = r.holds.asn.same n

-- What is kept of one set is kept of another with the same numbers.
kept_as : (c : Choice) (P Q : ℕ → Type 0) (n : ℕ) (R : Type 0) → P n ↔ Q n → R ↔ Kept c P n → R ↔ Kept c Q n
kept_as c P Q n R e h = (λ r. let k = h.0 r in (k.0, e.0 k.1), λ k. h.1 (k.0, e.1 k.1))

pub issued_holds : IssuedHolds
issued_holds w role a cs issuer c h same r = at
  where
    at : (k : Kind) (n : ℕ) → held_by h k n ↔ Holds a (c ∷ cs) k n
    at Ipv4 n = kept_as c.cert.tbs.v4 (held_by issuer Ipv4) (Holds a cs Ipv4) n (held_by h Ipv4 n) (same Ipv4 n) (r.holds.v4.same n)
    at Ipv6 n = kept_as c.cert.tbs.v6 (held_by issuer Ipv6) (Holds a cs Ipv6) n (held_by h Ipv6 n) (same Ipv6 n) (r.holds.v6.same n)
    at As n = kept_as c.cert.tbs.asn (held_by issuer As) (Holds a cs As) n (held_by h As n) (same As n) (r.holds.asn.same n)

pub chain_holds : ChainHolds
chain_holds w a [] h r = anchor_holds w a h r
chain_holds w a (c ∷ cs) h r = issued_holds w r.1 a cs r.0 c h (chain_holds w a cs r.0 r.2) r.3
