use Rattle.std.proofs.Common.{◌∙◌}
use Rattle.rpki_questions.proofs.telling.chains_of.Goals as goal

pub returns : goal.returns
returns c =
    rw (c.new-verifier.ensures.index, c.as_slice.ensures.value ∙ c.in_ok-uris.ensures) at c.naming_chains.ensures.chains
