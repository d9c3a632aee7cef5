use Rattle.std.proofs.Common.{IfErr, IfOk, subst}
use Rattle.certs_cert.specs.bcder_tree.declared.mode.Mode.TheVariants.{Der}
use Rattle.certs_x509.specs.Captured.{RefusesSigned, WritesSigned}
use Rattle.certs_extension.specs.Cert.{SignedValue}
use Rattle.certs_cert.proofs.cert.Cert.to_captured.Goals as goal

pub returns-clause-captured : goal.returns-clause-captured
returns-clause-captured c = subst (λ (s : SignedValue). IfOk c.in_der.result (λ k. WritesSigned s Der k.octets)) c.encode_ref.ensures c.in_der.ensures.captured

pub returns-clause-refused : goal.returns-clause-refused
returns-clause-refused c = subst (λ (s : SignedValue). IfErr c.in_der.result (RefusesSigned s)) c.encode_ref.ensures c.in_der.ensures.refused
