use Rattle.std.proofs.Common.{ℕ, List, Option, subst}
use Rattle.std.specs.Prelude.{MatchOption}
use Rattle.objects_rta_valid.specs.Paths.{PathsValue}
use Rattle.objects_rta_valid.specs.Answered.{IsWalk}
use Rattle.objects_rta_valid.specs.Validity.{AreItsPaths}
use Rattle.objects_rta_valid.proofs.Answering.{first_certificates, first_keys, first_paths, walked}
use Rattle.objects_rta_valid.proofs.Standing.{told_not}
use Rattle.objects_rta_valid.proofs.walk.walk.Goals as goal

pub returns-then-not-is_same : goal.returns-then-not-is_same
returns-then-not-is_same c = first_keys c.args.rta.now (told_not c.in_ok-is_same.is_same c.in_ok-is_same.ensures c.if-not-is_same.true)

pub returns-in_default : goal.returns-in_default
returns-in_default c =
    let none = subst (λ (o : Option PathsValue). MatchOption o ((paths : List (List ℕ)) → AreItsPaths c.args.rta.now paths → ⊥) (λ p. IsWalk c.args.rta.now p)) c.in_default.is c.in_ok-found.ensures in
    first_paths c.args.rta.now (c.in_ok-is_same.ensures.0 c.if-not-is_same.false) none

pub returns-then-not-are_all_on : goal.returns-then-not-are_all_on
returns-then-not-are_all_on c =
    let walk = subst (λ (o : Option PathsValue). MatchOption o ((paths : List (List ℕ)) → AreItsPaths c.args.rta.now paths → ⊥) (λ p. IsWalk c.args.rta.now p)) c.in-Some.is c.in_ok-found.ensures in
    first_certificates c.args.rta.now c.in-Some.paths (c.in_ok-is_same.ensures.0 c.if-not-is_same.false) walk (told_not c.are_all_on.result c.are_all_on.ensures c.if-not-are_all_on.true)

pub returns : goal.returns
returns c =
    let walk = subst (λ (o : Option PathsValue). MatchOption o ((paths : List (List ℕ)) → AreItsPaths c.args.rta.now paths → ⊥) (λ p. IsWalk c.args.rta.now p)) c.in-Some.is c.in_ok-found.ensures in
    walked c.args.rta.now c.in-Some.paths (c.in_ok-is_same.ensures.0 c.if-not-is_same.false) walk (c.are_all_on.ensures.0 c.if-not-are_all_on.false)
