use Rattle.std.proofs.Common.{IfOk, rules}
use Rattle.example_codec.specs.bcder_tree.declared.mode.Mode.TheVariants.{Der}
use Rattle.example_codec.specs.Tallies.{tally, tally_fields}
use Rattle.example_codec.proofs.Again.{again_of}
use Rattle.example_codec.proofs.Tally.to_der.Goals as goal

pub returns-clause-again : goal.returns-clause-again
returns-clause-again c =
    let w : IfOk c.to_captured.result (λ x. tally.writes (tally_fields c.args.self) Der x.octets) = search rules in
    again_of (tally_fields c.args.self) c.to_captured.result w
