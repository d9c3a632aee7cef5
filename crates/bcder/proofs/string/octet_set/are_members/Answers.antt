use Rattle.std.proofs.Common.{rules, ◌≡◌, ◌∷◌, subst}
use Rattle.std.specs.Prelude.{All}
use Rattle.std.proofs.lemmas.List.Elements.{All-cons, All-same, All-tail}
use Rattle.bcder.proofs.string.octet_set.are_members.Goals as goal

pub text-preserved : goal.text-preserved
text-preserved g c =
    let member = g.S.OctetSet.member in
    let e : c.text.rest.now ≡ c.in-Some.first.now ∷ c.in-Some.behind.now = search rules in
    let first : g.S.OctetSet.member c.in-Some.first.now = search rules in
    record {
      back = λ all. c.text.invariant.back (All-same member c.text.rest.now (c.in-Some.first.now ∷ c.in-Some.behind.now) e (All-cons member c.in-Some.first.now c.in-Some.behind.now first all));
      on = λ all. All-tail member c.in-Some.first.now c.in-Some.behind.now (subst (All member) e (c.text.invariant.on all));
    }
