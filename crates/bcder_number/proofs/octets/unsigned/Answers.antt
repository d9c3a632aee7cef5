use Rattle.std.proofs.Common.{◌^◌, arith}
use Rattle.bcder_number.specs.bcder_primitive.Values.{IsUnsigned}
use Rattle.bcder_number.proofs.Slices.{slice_lacks, slice_gives, slice_goes_on, refused_lacks}
use Rattle.bcder_number.proofs.octets.unsigned.Goals as goal

pub returns-in_default-clause-none : goal.returns-in_default-clause-none
returns-in_default-clause-none c = λ n is. slice_lacks (IsUnsigned (2 ^ 128)) c.content_of-content.ensures (refused_lacks c.in_default.field-0 (λ i. elim i [ ]) c.in_default.ensures.reads c.in_default.ensures.no_memory) n is

pub returns-then-remaining-gt0-clause-none : goal.returns-then-remaining-gt0-clause-none
returns-then-remaining-gt0-clause-none c = λ n is. slice_goes_on (IsUnsigned (2 ^ 128)) c.content_of-content.ensures c.in-Ok.ensures.reads c.remaining.ensures.limited c.if-remaining-gt0.true n is

pub returns-clause-found : goal.returns-clause-found
returns-clause-found c = slice_gives (IsUnsigned (2 ^ 128)) c.content_of-content.ensures c.in-Ok.ensures.reads c.remaining.ensures.limited (omega arith)
