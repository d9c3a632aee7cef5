-- The scheme, and what comes after it.
use Rattle.std.proofs.Common.{arith}
use Rattle.std.proofs.lemmas.Bool.Decides.{nat_tests}
use Rattle.certs_basics.proofs.UriTexts.{HasScheme-from_https, IsHttps-from_parts}
use Rattle.certs_basics.proofs.uri.grammar.is_https.Goals as goal

pub returns-in-Some : goal.returns-in-Some
returns-in-Some c =
    let parts = c.in-Some.ensures in
    let len = c.segment_len.ensures.place in (
      λ t. IsHttps-from_parts _ parts.0 (rw (← parts.1, ← len) (grind (arith, nat_tests))),
      λ r. let some = (HasScheme-from_https _ r).1 in let more = rw (← parts.1, ← len) at some in grind (arith, nat_tests),
    )

pub returns-in-None : goal.returns-in-None
returns-in-None c = (λ t. cc, λ r. absurd (c.in-None.ensures (HasScheme-from_https _ r).0))
