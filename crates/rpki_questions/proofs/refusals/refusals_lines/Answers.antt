use Rattle.std.proofs.Common.{◌++◌, ◌∙◌, List, ℕ, ap, flat_map}
use Rattle.rpki_questions.specs.Orders.{refused_of}
use Rattle.rpki_questions.specs.Refused.{refused_line}
use Rattle.rpki_questions.proofs.FactTexts.{each_told}
use Rattle.rpki_questions.proofs.refusals.refusals_lines.Goals as goal

pub returns : goal.returns
returns c =
    let found = c.args.refused.now in
    c.in_ok-push_each.ensures
    ∙ ap (λ (t : List ℕ). t ++ flat_map (λ r. refused_line (refused_of r)) found) c.new-text.ensures.items
    ∙ each_told refused_line refused_of found
