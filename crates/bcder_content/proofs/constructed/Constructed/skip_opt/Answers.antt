use Rattle.std.proofs.Common.{◌≡◌, true, false, sym, ◌∙◌}
use Rattle.bcder_content.specs.Here.{here}
use Rattle.bcder_content.proofs.SkipSteps.{error_map}
use Rattle.bcder_content.proofs.Memories.{wanted}
use Rattle.bcder_content.proofs.SkipContents.{stops_next}
use Rattle.bcder_content.proofs.constructed.Constructed.skip_opt.Goals as goal

pub returns-in-Err-skip_value-clause-skipped : goal.returns-in-Err-skip_value-clause-skipped
returns-in-Err-skip_value-clause-skipped g c =
    error_map c.in-Err-skip_value.error _ _ (λ error s. (
      stops_next (goal.F-step g) c.args.op (here g.S.Source.rest c.args.self.now) (here g.S.Source.rest c.is_ended.new.self) error c.in-Ok-false.ensures.same s,
      λ e. let f : false ≡ true = sym c.in-Ok-false.field-0-test ∙ c.in-Ok-false.ensures.told.1 e.ends in absurd cc,
    )) c.in-Err-skip_value.ensures.refused

pub returns-in-Err-skip_value-clause-memory : goal.returns-in-Err-skip_value-clause-memory
returns-in-Err-skip_value-clause-memory g c =
    wanted c.in-Err-skip_value.error (λ e. let f : false ≡ true = sym c.in-Ok-false.field-0-test ∙ c.in-Ok-false.ensures.told.1 e.ends in absurd cc)
