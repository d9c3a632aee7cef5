use Rattle.std.proofs.Common.{ℕ, List, ◌∷◌, Some, None, lit<, refl, sym, ap, ◌∙◌, inl, inr}
use Rattle.std.proofs.lemmas.Str.Pattern.{split_parts}
use Rattle.resources_chain.proofs.pieces.cut_piece.Goals as goal

pub returns-in_default : goal.returns-in_default
returns-in_default c = split_parts 44 c.args.text.now None c.in_default.ensures.cases (lit< tt)

pub returns-in-Some-strip_prefix : goal.returns-in-Some-strip_prefix
returns-in-Some-strip_prefix c =
    let parts = split_parts 44 c.args.text.now (Some (c.in-Some.piece, c.in-Some.behind)) c.in-Some.ensures.cases (lit< tt) in
    let strip = c.in-Some-strip_prefix.ensures.cases in
    record { behind = c.in-Some.behind.now; whole = parts.0; first = parts.1; space = inl (strip.1.1 ∙ ap (λ (rest : List ℕ). 32 ∷ rest) (sym strip.2)) }

pub returns-in-None : goal.returns-in-None
returns-in-None c =
    let parts = split_parts 44 c.args.text.now (Some (c.in-Some.piece, c.in-Some.behind)) c.in-Some.ensures.cases (lit< tt) in
    record { behind = c.in-Some.behind.now; whole = parts.0; first = parts.1; space = inr (refl, c.in-None.ensures.cases) }
