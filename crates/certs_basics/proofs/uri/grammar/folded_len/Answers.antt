-- The scheme has 8 octets, and after it comes the host.
use Rattle.std.proofs.Common.{◌+◌}
use Rattle.certs_basics.proofs.UriTexts.{lookup_key-split}
use Rattle.certs_basics.proofs.uri.grammar.folded_len.Goals as goal

pub returns-in-Some-clause-key : goal.returns-in-Some-clause-key
returns-in-Some-clause-key c =
    let behind = c.in-Some.ensures.cases.2 in
    lookup_key-split c.args.uri.now (8 + c.segment_len.result) cc
