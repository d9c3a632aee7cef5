use Rattle.rpki_steps.specs.Holders.{cert_of}
use Rattle.rpki_steps.proofs.NameLemmas.{named_told}
use Rattle.rpki_steps.proofs.repository.naming.BundleRepositoryNaming.named_keys.Goals as goal

pub returns-clause-named : goal.returns-clause-named
returns-clause-named g c =
    named_told c.args.self.now.reader.index _ _ (cert_of c.args.ca.now) c.named_keys.result (rw (c.as_cert.ensures, c.verified.ensures.cert) at c.named_keys.ensures)
