use Rattle.std.proofs.Common.{IfSome, subst}
use Rattle.bcder_content.specs.bcder_source.Views.{left}
use Rattle.bcder_content.specs.Openings.{OfTag}
use Rattle.bcder_content.proofs.Windows.{tags_equal, tags_differ}
use Rattle.bcder_content.specs.Contents.{octets, EndsHere}
use Rattle.bcder_content.specs.Here.{here}
use Rattle.bcder_content.proofs.Taking.{comes_of, unlike_other, unlike_ended}
use Rattle.bcder_content.proofs.constructed.Constructed.comes.Goals as goal

pub returns-in-Some-clause-yes : goal.returns-in-Some-clause-yes
returns-in-Some-clause-yes g c = λ y.
    let v = here g.S.Source.rest c.args.self.now in
    let found = subst (λ o. IfSome o (λ t. OfTag t (left (octets v)))) c.in-Some.is c.in-Ok.ensures.found in
    comes_of (subst (λ t. OfTag t (left (octets v))) (tags_equal c.eq.ensures y) found)

pub returns-in-Some-clause-no : goal.returns-in-Some-clause-no
returns-in-Some-clause-no g c = λ n.
    let v = here g.S.Source.rest c.args.self.now in
    let found = subst (λ o. IfSome o (λ t. OfTag t (left (octets v)))) c.in-Some.is c.in-Ok.ensures.found in
    unlike_other c.if-self.false (record { tag = c.in-Some.found; apart = tags_differ c.eq.ensures n; front = found })

pub returns-in-Ok-true-clause-no : goal.returns-in-Ok-true-clause-no
returns-in-Ok-true-clause-no g c = λ n.
    let v = here g.S.Source.rest c.args.self.now in
    unlike_ended (record { sound = c.if-self.false; ends = subst (λ w. EndsHere v.end w) c.in-Ok.ensures.same (c.in-Ok-true.ensures.told.0 c.in-Ok-true.field-0-test) })
