use Rattle.std.proofs.Common.{ℕ, List, Option, subst, sym, ap, ◌∙◌}
use Rattle.bcder_content.specs.bcder_tree.declared.length.Length.{Length}
use Rattle.bcder_source.specs.Limits.{view}
use Rattle.bcder_source.specs.Views.{View}
use Rattle.bcder_content.specs.Openings.{Starts}
use Rattle.bcder_content.proofs.Opening.{no_start, opens_at, inner_limit}
use Rattle.bcder_content.proofs.header.enter_at.Goals as goal

pub returns-in_default-clause-none : goal.returns-in_default-clause-none
returns-in_default-clause-none g c = λ t h. no_start (record { head = h.head; whole = h.whole }) (λ span st. c.in_default.ensures.none span (subst (λ (n : ℕ). Starts c.args.mode c.args.source.now.limit c.args.constructed c.args.length n span) h.long st))

-- The view after the header, by the length.
abbrev behind : (rest : List ℕ) (limit : Option ℕ) → Length → View
behind rest limit l = record { rest = rest; limit = inner_limit l limit }

pub returns-in-Definite-clause-found : goal.returns-in-Definite-clause-found
returns-in-Definite-clause-found g c = λ t h.
    let mid = view g.S.Source.rest c.advance.new.self in
    opens_at c.args.length c.in-Some.span h c.in-Some.ensures.found c.advance.ensures.there c.advance.ensures.moved
    (ap (view g.S.Source.rest) c.set_limit.ensures ∙ ap (behind mid.rest mid.limit) (sym c.in-Definite.is))

pub returns-in-Indefinite-clause-found : goal.returns-in-Indefinite-clause-found
returns-in-Indefinite-clause-found g c = λ t h.
    let mid = view g.S.Source.rest c.advance.new.self in
    opens_at c.args.length c.in-Some.span h c.in-Some.ensures.found c.advance.ensures.there c.advance.ensures.moved
    (ap (behind mid.rest mid.limit) (sym c.in-Indefinite.is))
