use Rattle.std.proofs.Common.{take}
use Rattle.resources_chain.specs.Sets.{InRuns}
use Rattle.resources_chain.specs.Claims.{path_of}
use Rattle.resources_chain.proofs.ClaimLemmas.{Along}
use Rattle.resources_chain.proofs.chain.SharedChain.verify_path.Given as goal

abbrev pub invariant-loop-claim : goal.invariant-loop-claim
invariant-loop-claim g l = Along (InRuns l.self) (path_of g.C.Claim.choice (take l.claim-index l.path)) l.held
