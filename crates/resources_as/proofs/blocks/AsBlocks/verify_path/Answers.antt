use Rattle.std.proofs.Common.{subst}
use Rattle.resources_as.specs.resources_chain.Sets.{InRuns, IsRunsOf}
use Rattle.resources_as.specs.resources_chain.Claims.{Path, HeldAlong, FitsAlong, RefusesAlong}
use Rattle.resources_as.proofs.of_resources_chain.ClaimLemmas.{path_is}
use Rattle.resources_as.proofs.blocks.AsBlocks.verify_path.Goals as goal

pub returns-in-Ok-clause-fits : goal.returns-in-Ok-clause-fits
returns-in-Ok-clause-fits c =
    subst (λ (p : Path). FitsAlong (InRuns c.args.self.now) p) (path_is c.args.path.now) (rw c.self.view_is at c.in-Ok.ensures.fits)

pub returns-in-Ok-clause-held : goal.returns-in-Ok-clause-held
returns-in-Ok-clause-held c =
    subst (λ (p : Path). IsRunsOf (HeldAlong (InRuns c.args.self.now) p) c.in-Ok.chain) (path_is c.args.path.now) (rw c.self.view_is at c.in-Ok.ensures.held)

pub returns-in-Err-clause-refused : goal.returns-in-Err-clause-refused
returns-in-Err-clause-refused c =
    rw c.overclaimed.ensures (subst (λ (p : Path). RefusesAlong (InRuns c.args.self.now) p c.in-Err.error) (path_is c.args.path.now) (rw c.self.view_is at c.in-Err.ensures.refused))
