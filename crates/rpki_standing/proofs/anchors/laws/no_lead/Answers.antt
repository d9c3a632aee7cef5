use Rattle.rpki_rules.specs.Locators.{https_first}
use Rattle.rpki_standing.proofs.Following.{held_by, none_held}
use Rattle.rpki_standing.proofs.anchors.laws.no_lead.Goals as goal

pub returns-clause-unreadable : goal.returns-clause-unreadable
returns-clause-unreadable c = λ w l fault k u o f h. c.faults_are_refused.ensures fault l.text h.uris k f.0 f.1 h.reads

pub returns-clause-nowhere : goal.returns-clause-nowhere
returns-clause-nowhere c = λ w l k u o f h.
    none_held w (https_first f.0) u o f.3 (held_by w h.uris f.0 u o (c.one_locator.ensures.uris l.text h.uris f.0 k f.1 h.reads f.2) h.held)
