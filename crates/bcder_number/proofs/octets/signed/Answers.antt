use Rattle.std.proofs.Common.{◌^◌, arith, rules}
use mir.Syntax.{w128}
use mir.Val.{SFits}
use Rattle.std.proofs.Math.Facts.{to_z-of_z}
use Rattle.bcder_number.specs.bcder_primitive.Values.{IsSigned}
use Rattle.bcder_number.proofs.Slices.{slice_lacks, slice_gives, slice_goes_on, refused_lacks}
use Rattle.bcder_number.proofs.octets.signed.Goals as goal

pub returns-in_default-clause-none : goal.returns-in_default-clause-none
returns-in_default-clause-none c = λ n is. slice_lacks (IsSigned (2 ^ 127)) c.content_of-content.ensures (refused_lacks c.in_default.field-0 (λ i. elim i [ ]) c.in_default.ensures.reads c.in_default.ensures.no_memory) n is

pub returns-then-remaining-gt0-clause-none : goal.returns-then-remaining-gt0-clause-none
returns-then-remaining-gt0-clause-none c = λ n is. slice_goes_on (IsSigned (2 ^ 127)) c.content_of-content.ensures c.in-Ok.ensures.reads c.remaining.ensures.limited c.if-remaining-gt0.true n is

pub returns-clause-found : goal.returns-clause-found
returns-clause-found c =
    let fits : SFits w128 c.in-Ok.number = search rules in
    let is = slice_gives (IsSigned (2 ^ 127)) c.content_of-content.ensures c.in-Ok.ensures.reads c.remaining.ensures.limited (omega arith) in
    rw (to_z-of_z fits) is
