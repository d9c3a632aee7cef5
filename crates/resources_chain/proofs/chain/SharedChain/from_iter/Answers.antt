use Rattle.std.proofs.Common.{List, map}
use Rattle.std.specs.Prelude.{⊤}
use Rattle.std.specs.Iterator.{DrainsIf}
use Rattle.std.proofs.lemmas.Result.{IfOk-weaker}
use Rattle.resources_chain.specs.Sets.{InRuns, IsRunsOf}
use Rattle.resources_chain.proofs.SetLemmas.{runs_of_equal}
use Rattle.resources_chain.proofs.chain.SharedChain.from_iter.Goals as goal

pub returns : goal.returns
returns g c =
    let made = c.in_ok-from_iter.ensures in
    IfOk-weaker c.from_owned.result
    (λ v. IsRunsOf (InRuns c.in_ok-from_iter.field-0) v)
    (λ v. (came : List g.row.B.Denot) × DrainsIf g.I.Iterator.next_gives ⊤ c.args.blocks came × IsRunsOf (InRuns (map g.B.Block.run came)) v)
    (λ v h. (made.0, made.1, runs_of_equal h made.2.same)) c.from_owned.ensures.set
