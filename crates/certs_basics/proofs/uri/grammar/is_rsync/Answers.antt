-- The scheme, and what comes after it.
use Rattle.certs_basics.proofs.UriTexts.{HasScheme-from_rsync, IsRsync-from_parts}
use Rattle.certs_basics.proofs.uri.grammar.is_rsync.Goals as goal

pub returns-in-Some : goal.returns-in-Some
returns-in-Some c =
    let parts = c.in-Some.ensures in (
      λ t. IsRsync-from_parts _ parts.0 (rw (← parts.1) (c.is_module_path.ensures.0 t)),
      λ r. c.is_module_path.ensures.1 (rw parts.1 (HasScheme-from_rsync _ r).1),
    )

pub returns-in-None : goal.returns-in-None
returns-in-None c = (λ t. cc, λ r. absurd (c.in-None.ensures (HasScheme-from_rsync _ r).0))
