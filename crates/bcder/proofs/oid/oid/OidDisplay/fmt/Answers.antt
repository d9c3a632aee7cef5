use Rattle.std.proofs.Common.{rules}
use Rattle.std.specs.Fmt.{HasWritten}
use Rattle.std.proofs.Output.{has_written_append, has_written_of_eq}
use Rattle.bcder.specs.Components.{number_of}
use Rattle.bcder.specs.Printed.{component_text}
use Rattle.bcder.proofs.Lines.{all_joined}
use Rattle.bcder.proofs.oid.oid.OidDisplay.fmt.Goals as goal

pub returns-clause-writes : goal.returns-clause-writes
returns-clause-writes g c = λ plain ok.
    let first : HasWritten {W = g.row.W.Denot} g.W.Write.write_str_gives c.args.f.now (component_text (number_of c.in-Some.first)) c.write.new.self = search rules in
    let same = all_joined (g.T.AsSlice.items c.args.self.now.0) c.iter-components.result (number_of c.in-Some.first) c.next.new.self c.iter-components.ensures.value c.in-Some.ensures.steps in
    has_written_of_eq _ _ _ _ _ same (has_written_append _ _ _ _ _ _ first (c.write_behind.ensures first.plain ok))
