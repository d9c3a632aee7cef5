-- What `strip_suffix` says of a slash.
use Rattle.std.proofs.Common.{Some, None, [], ◌∷◌, sym, ap, ◌∙◌}
use Rattle.std.proofs.lemmas.Bool.Decides.{Decides-eqb}
use Rattle.std.proofs.lemmas.Slice.Eq.{strip_suffix_is}
use Rattle.certs_basics.specs.Paths.{without_slash as trimmed}
use Rattle.certs_basics.proofs.PathTexts.{without_slash-push, without_slash-none}
use Rattle.certs_basics.proofs.uri.paths.without_slash.Goals as goal

pub returns-in-Some : goal.returns-in-Some
returns-in-Some c =
    let whole = strip_suffix_is Decides-eqb c.args.text.now (47 ∷ []) (Some c.in-Some.front) c.in-Some.ensures.cases in
    sym (ap trimmed whole ∙ without_slash-push c.in-Some.front.now)

pub returns-in-None : goal.returns-in-None
returns-in-None c =
    sym (without_slash-none c.args.text.now (strip_suffix_is Decides-eqb c.args.text.now (47 ∷ []) None c.in-None.ensures.cases))
