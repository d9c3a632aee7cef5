use Rattle.std.proofs.Common.{◌≡◌, true, sym, ◌∙◌}
use Rattle.std.specs.Prelude.{codes}
use Rattle.std.proofs.Output.{has_written_of_eq, writes_in_calls_nil}
use Rattle.resources.specs.resources_as.Texts.{as_set_text}
use Rattle.resources.specs.Texts.{no_run}
use Rattle.resources.proofs.Texts.{none_is, kind_is}
use Rattle.resources.proofs.set.diff.write_asn.Goals as goal

pub returns-then-is_empty : goal.returns-then-is_empty
returns-then-is_empty g c =
    let none : no_run c.args.asn.now ≡ true = sym (none_is c.is_empty.result c.args.asn.now c.runs_are_maximal.ensures c.is_empty.ensures) ∙ c.if-is_empty.true in
    λ plain ok. has_written_of_eq _ _ _ _ _ (sym (kind_is (codes " asn: ") as_set_text c.args.asn.now none)) (record { wrote = writes_in_calls_nil _ _; plain = plain })
