use Rattle.certs_crl.proofs.Gathered.{lacks_entries}
use Rattle.certs_crl.proofs.entries.VecCrlEntryIntoRevoked.into_revoked.Goals as goal

pub returns-clause-refused : goal.returns-clause-refused
returns-clause-refused c = lacks_entries c.args.self.items c.from_entries-made.result (rw c.as_slice.ensures.value at c.from_entries-made.ensures.refused)
