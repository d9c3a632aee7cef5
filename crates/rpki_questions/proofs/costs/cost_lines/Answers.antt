use Rattle.std.proofs.Common.{◌∙◌, ◌++◌, List, ℕ, ap}
use Rattle.std.specs.Prelude.{flat_map}
use Rattle.rpki_validator.specs.rpki_walk.Cost.{count_of}
use Rattle.rpki_questions.specs.Costed.{count_line, exact_line}
use Rattle.rpki_questions.proofs.FactTexts.{each_told}
use Rattle.rpki_questions.proofs.costs.cost_lines.Goals as goal

pub returns : goal.returns
returns c =
    let counts = c.args.counts.now in
    c.in_ok-push_lines.ensures
    ∙ ap (λ (t : List ℕ). t ++ flat_map (λ x. count_line (count_of x)) counts) (c.in_ok-text.ensures.items ∙ c.as_bytes.ensures.value ∙ c.exact_line.ensures)
    ∙ ap (λ (t : List ℕ). exact_line c.args.exact ++ t) (each_told count_line count_of counts)
