use Rattle.rpki_standing.proofs.Following.{same_held}
use Rattle.rpki_standing.proofs.anchors.laws.one_lead.Goals as goal

pub returns-clause-key : goal.returns-clause-key
returns-clause-key c = λ w l j k u v o p g h. c.one_locator.ensures.key l.text g.uris h.uris j k g.reads h.reads

pub returns-clause-uri : goal.returns-clause-uri
returns-clause-uri c = λ w l j k u v o p g h.
    (same_held w g.uris h.uris u v o p (c.one_locator.ensures.uris l.text g.uris h.uris j k g.reads h.reads) g.held h.held).0

pub returns-clause-octets : goal.returns-clause-octets
returns-clause-octets c = λ w l j k u v o p g h.
    (same_held w g.uris h.uris u v o p (c.one_locator.ensures.uris l.text g.uris h.uris j k g.reads h.reads) g.held h.held).1
