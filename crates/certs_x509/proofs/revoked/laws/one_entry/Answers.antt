use Rattle.certs_x509.specs.Listing.{entry_one}
use Rattle.certs_x509.proofs.revoked.laws.one_entry.Goals as goal

pub returns : goal.returns
returns c = entry_one
