use Rattle.std.proofs.Common.{◌≢◌, Some, None, refl, lit<}
use Rattle.std.proofs.lemmas.List.Elements.{All-from_get_or}
use Rattle.std.proofs.lemmas.Str.Pattern.{split_parts}
use Rattle.bcder.proofs.oid.text.piece.Goals as goal

pub returns-in-Some : goal.returns-in-Some
returns-in-Some c =
    let parts = split_parts 46 c.args.text.now (Some (c.in-Some.front, c.in-Some.behind)) c.in-Some.ensures.cases (lit< tt) in
    record { whole = parts.0; first = All-from_get_or (λ a. a ≢ 46) c.in-Some.front.now 0 parts.1 }

pub returns-in-None : goal.returns-in-None
returns-in-None c =
    let none = split_parts 46 c.args.text.now None c.in-None.ensures.cases (lit< tt) in
    record { same = refl; last = All-from_get_or (λ a. a ≢ 46) c.args.text.now 0 none }
