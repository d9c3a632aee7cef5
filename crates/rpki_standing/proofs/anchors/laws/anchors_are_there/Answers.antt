use Rattle.std.proofs.Common.{ℕ, List, refl, subst}
use Rattle.rpki_rules.specs.Certs.{CertText, Key}
use Rattle.rpki_rules.specs.Points.{IsAnchorCert}
use Rattle.rpki_standing.proofs.Following.{lead_of}
use Rattle.rpki_standing.proofs.anchors.laws.anchors_are_there.Goals as goal

pub returns-clause-anchor : goal.returns-clause-anchor
returns-clause-anchor c = λ w l k u o cert m h reads is.
    record { locator = l; in_list = m; named = refl; uris = h.uris; key = k; reads = h.reads; octets = o; held = h.held; cert = reads; is_anchor = is }

pub returns-clause-uri : goal.returns-clause-uri
returns-clause-uri c = λ w name a k u o h g. c.one_lead.ensures.uri w h.locator h.key k a.uri u h.octets o (lead_of w name a h) g

pub returns-clause-cert : goal.returns-clause-cert
returns-clause-cert c = λ w name a k u o h g.
    subst (λ (t : List ℕ). CertText t a.cert) (c.one_lead.ensures.octets w h.locator h.key k a.uri u h.octets o (lead_of w name a h) g) h.cert

pub returns-clause-is_anchor : goal.returns-clause-is_anchor
returns-clause-is_anchor c = λ w name a k u o h g.
    subst (λ (t : Key). IsAnchorCert w t a.cert) (c.one_lead.ensures.key w h.locator h.key k a.uri u h.octets o (lead_of w name a h) g) h.is_anchor
