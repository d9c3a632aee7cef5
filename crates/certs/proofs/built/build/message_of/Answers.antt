use Rattle.std.proofs.Common.{subst}
use Rattle.std.specs.Prelude.{IfOk}
use Rattle.certs.specs.bcder_tree.declared.mode.Mode.TheVariants.{Der}
use Rattle.certs.specs.certs_extension.Cert.{TbsValue}
use Rattle.certs.specs.Tbs.{tbs}
use Rattle.certs.proofs.Signed.{not_written}
use Rattle.certs.proofs.built.build.message_of.Goals as goal

pub returns-clause-message : goal.returns-clause-message
returns-clause-message c = subst (λ (v : TbsValue). IfOk c.to_captured.result (λ m. (tbs v).writes Der m.octets)) c.new-value.ensures c.to_captured.ensures.captured

pub returns-clause-refused : goal.returns-clause-refused
returns-clause-refused c = not_written c.to_captured.result c.new-value.ensures c.to_captured.ensures.refused c.to_captured.ensures.memory
