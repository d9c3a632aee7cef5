-- The text less a slash, a slash, and the name.
use Rattle.std.proofs.Common.{[], ◌∷◌, ◌++◌, sym, ap, ◌∙◌, append_assoc}
use Rattle.certs_basics.specs.Paths.{without_slash as trimmed}
use Rattle.certs_basics.proofs.PathTexts.{join-is}
use Rattle.certs_basics.proofs.uri.paths.join.Goals as goal

pub returns : goal.returns
returns c =
    let name = c.args.name.now in
    let folder = c.in_ok-extend_from_slice.ensures.items ∙ ap (λ t. t ++ c.without_slash-folder.result.now) c.in_ok-text.ensures.items ∙ c.without_slash-folder.ensures in
    let with_slash = c.in_ok-extend_from_slice-2.ensures.items ∙ ap (λ t. t ++ 47 ∷ []) folder in
    c.in_ok-extend_from_slice-3.ensures.items ∙ ap (λ t. t ++ name) with_slash ∙ append_assoc (trimmed c.args.uri.now) (47 ∷ []) name ∙ sym (join-is c.args.uri.now name)
