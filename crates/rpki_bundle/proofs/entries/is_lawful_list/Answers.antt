use Rattle.std.proofs.Common.{refl, sym, ◌∙◌, subst, below_more, arith}
use Rattle.std.proofs.lemmas.List.{get_or_default}
use Rattle.rpki_bundle.proofs.entries.is_lawful_list.Goals as goal

pub loop-entry-preserved : goal.loop-entry-preserved
loop-entry-preserved g c = below_more _ _ c.loop-entry.invariant (λ d.
    subst g.E.Entry.lawful (c.entry-item.is ∙ get_or_default c.args.entries.now c.loop-entry.entry-index c.entry-item.result d (omega arith)) (c.if-not-is_lawful.ensures.0 refl))

pub returns-then-not-is_lawful : goal.returns-then-not-is_lawful
returns-then-not-is_lawful g c = (
  λ t. absurd cc,
  λ l. let t = c.if-not-is_lawful.ensures.1 (subst g.E.Entry.lawful (sym c.entry-item.is) (l.each c.loop-entry.entry-index c.entry-item.result (omega arith))) in absurd cc,
)

pub returns : goal.returns
returns g c = (
  λ t. record { each = λ k d h. c.loop-entry.invariant k (omega arith) d; ascend = c.is_ascending.ensures.0 t },
  λ l. c.is_ascending.ensures.1 l.ascend,
)
