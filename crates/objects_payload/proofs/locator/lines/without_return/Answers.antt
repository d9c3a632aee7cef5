use Rattle.std.proofs.Common.{Some, None, [], ◌∷◌, inl, inr, refl}
use Rattle.std.proofs.lemmas.Bool.Decides.{Decides-eqb}
use Rattle.std.proofs.lemmas.Slice.Eq.{strip_suffix_is}
use Rattle.objects_payload.proofs.LineTexts.{no_return}
use Rattle.objects_payload.proofs.locator.lines.without_return.Goals as goal

pub returns-in-Some : goal.returns-in-Some
returns-in-Some c =
    inr (strip_suffix_is Decides-eqb c.args.line.now (13 ∷ []) (Some c.in-Some.front) c.in-Some.ensures.cases)

pub returns-in-None : goal.returns-in-None
returns-in-None c =
    inl (refl, no_return c.args.line.now (strip_suffix_is Decides-eqb c.args.line.now (13 ∷ []) None c.in-None.ensures.cases))
