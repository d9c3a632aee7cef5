use Rattle.certs_crl.specs.bcder_tree.Tags.{sequence_tag}
use Rattle.certs_crl.specs.bcder_content.Exact.{LacksTagged}
use Rattle.certs_crl.proofs.of_bcder_content.Choices.{such_lacks}
use Rattle.certs_crl.proofs.of_bcder_content.Forests.{absent, there, unlike_lacks}
use Rattle.certs_crl.proofs.of_bcder_content.Taking.{on_content, weaker}
use Rattle.certs_crl.specs.certs_extension.Raw.{extension_value}
use Rattle.certs_x509.specs.certs_extension.Extensions.{IsExtension}
use Rattle.certs_crl.proofs.Pairs.{extension_tagged, tells_absent, tells_kind, tells_lacks, told_refused, unknown_lacks}
use Rattle.certs_crl.proofs.extensions.take_extension.Goals as goal

pub returns-in-Ok-None-clause-reads : goal.returns-in-Ok-None-clause-reads
returns-in-Ok-None-clause-reads g c = on_content _ (such_lacks (unlike_lacks extension_tagged (absent extension_value (IsExtension _) _ c.in-Ok-None.field-0-is c.in-Ok-None.ensures.reads).1))

pub returns-in-Ok-None-clause-told : goal.returns-in-Ok-None-clause-told
returns-in-Ok-None-clause-told g c = tells_absent _ (absent extension_value (IsExtension _) _ c.in-Ok-None.field-0-is c.in-Ok-None.ensures.reads).1

pub returns-in-Err-clause-reads : goal.returns-in-Err-clause-reads
returns-in-Err-clause-reads g c = weaker {P = LacksTagged sequence_tag (IsExtension _) _} _ (λ l. such_lacks l.lacks) c.in-Err.ensures.reads

pub returns-in-Err-clause-told : goal.returns-in-Err-clause-told
returns-in-Err-clause-told g c = tells_lacks _ _ c.in-Err.ensures.reads

pub returns-clause-reads : goal.returns-clause-reads
returns-clause-reads g c = told_refused c.in-Ok-Some.extension.kind.0 c.unknown.result c.unknown.ensures (unknown_lacks (there extension_value sequence_tag _ c.in-Ok-Some.field-0-is c.in-Ok-Some.ensures.reads) (λ k. let yes = c.is_known.ensures.1 k in let no = c.if-is_known.false in absurd cc))

pub returns-clause-told : goal.returns-clause-told
returns-clause-told g c = tells_kind c.unknown.result c.unknown.ensures (there extension_value sequence_tag {Q = IsExtension _} _ c.in-Ok-Some.field-0-is c.in-Ok-Some.ensures.reads)
