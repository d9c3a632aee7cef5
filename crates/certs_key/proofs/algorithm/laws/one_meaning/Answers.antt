use Rattle.certs_key.proofs.of_certs_basics.Values.{algorithm_one}
use Rattle.certs_key.proofs.Meanings.{cms_one, digest_one, digests_one}
use Rattle.certs_key.proofs.algorithm.laws.one_meaning.Goals as goal

pub returns-clause-x509 : goal.returns-clause-x509
returns-clause-x509 c = algorithm_one

pub returns-clause-cms : goal.returns-clause-cms
returns-clause-cms c = cms_one

pub returns-clause-digest : goal.returns-clause-digest
returns-clause-digest c = digest_one

pub returns-clause-digests : goal.returns-clause-digests
returns-clause-digests c = digests_one
