-- What an attestation that is put together ends as, where a `&mut` to the blocks of a kind is lent.
use Rattle.std.specs.Prelude.{List}
use Rattle.std.specs.Borrow.{Fml, Lends, MutBor}
use Rattle.resources_as.specs.contracts.blocks.AsBlocksBuilder.{the_row as as_row}
use Rattle.resources_ip.specs.contracts.blocks.IpBlocksBuilder.{the_row as ip_row}
use Rattle.resources_ip.specs.resources_chain.Sets.{Run}
use Rattle.objects_rta_written.specs.Builders.{ContentBuilder}
use Rattle.objects_rta_written.specs.contracts.builder.AttestationBuilder.{the_row}

-- Once the borrow ends the kind has the blocks that the borrow left, and all else is what it was.
abbrev pub LendsNumbers : MutBor ContentBuilder → MutBor (List Run) → Fml
LendsNumbers b lent = Lends the_row as_row b lent (λ blocks. record b.now { asn = blocks })

abbrev pub LendsV4 : MutBor ContentBuilder → MutBor (List Run) → Fml
LendsV4 b lent = Lends the_row ip_row b lent (λ blocks. record b.now { v4 = blocks })

abbrev pub LendsV6 : MutBor ContentBuilder → MutBor (List Run) → Fml
LendsV6 b lent = Lends the_row ip_row b lent (λ blocks. record b.now { v6 = blocks })
