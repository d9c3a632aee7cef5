use Rattle.std.proofs.Common.{List, subst}
use Rattle.std.specs.Prelude.{◌↔◌, IsTrue}
use Rattle.certs_verify.specs.certs_basics.Lists.{Each}
use Rattle.certs_verify.specs.certs_extension.Cert.{CertValue}
use Rattle.objects_rta_valid.specs.Certs.{IsCurrent}
use Rattle.objects_rta_valid.proofs.judge.passes_validity.Goals as goal

pub returns : goal.returns
returns c d good strict = subst (λ (cs : List CertValue). IsTrue c.are_current.result ↔ Each (IsCurrent c.args.now) cs) c.certs_of.ensures c.are_current.ensures
