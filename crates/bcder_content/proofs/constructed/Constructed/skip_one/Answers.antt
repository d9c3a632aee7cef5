use Rattle.std.proofs.Common.{rules}
use Rattle.bcder_content.proofs.SkipContents.{skip_any}
use Rattle.bcder_content.proofs.constructed.Constructed.skip_one.Goals as goal

pub returns-clause-skipped : goal.returns-clause-skipped
returns-clause-skipped g c = skip_any _ _ _ _ _ (λ a t k d e b s. search rules) c.skip_opt.ensures.skipped
