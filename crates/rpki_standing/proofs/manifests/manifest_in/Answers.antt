use Rattle.std.proofs.Common.{ℕ, List, sym, subst}
use Rattle.rpki_standing.specs.Manifests.{IsReadIn}
use Rattle.rpki_standing.proofs.manifests.manifest_in.Goals as goal

pub returns-in-Err-Content : goal.returns-in-Err-Content
returns-in-Err-Content c =
    let none = rw c.in-Err-Content.field-0-is at c.in-Err-Content.ensures in
    λ k t. none k.signed k.content (subst (λ (octets : List ℕ). IsReadIn c.args.strict octets k) (sym c.in_ok-clone.ensures.cases) t)
