use Rattle.std.proofs.Common.{◌≡◌, ◌∷◌, sym, ◌∙◌, subst}
use Rattle.rpki_commands.specs.Verdicts.{TakesDigest}
use Rattle.rpki_validator.proofs.Options.{none_then}
use Rattle.rpki_commands.proofs.folder.verdicts.take_next_digest.Goals as goal

pub returns-in-Some-eq32-default-clause-none : goal.returns-in-Some-eq32-default-clause-none
returns-in-Some-eq32-default-clause-none c = none_then c.take_digest.result c.take_digest.ensures.none (λ lacks digest rest i.
    let whole = c.in-Some-eq32-default.ensures.cases.0 in
    let space : c.in-Some-eq32-default.field-0-0.now ∷ c.in-Some-eq32-default.rest.now ≡ 32 ∷ i.behind_space = sym whole ∙ i.space in
    let behind : i.behind_space ≡ c.in-Some-eq32-default.rest.now = cc in
    lacks digest rest (subst (λ s. TakesDigest s digest rest) behind i.digest_is))
