use Rattle.certs_crl.specs.bcder_tree.Tags.{sequence_tag}
use Rattle.certs_crl.specs.bcder_content.Exact.{LacksTagged}
use Rattle.certs_crl.proofs.of_bcder_content.Forests.{absent, there}
use Rattle.certs_crl.proofs.of_bcder_content.Taking.{on_content, weaker}
use Rattle.certs_crl.specs.certs_extension.Raw.{extension_value}
use Rattle.certs_x509.specs.certs_extension.Extensions.{IsExtension}
use Rattle.certs_crl.proofs.Pairs.{goes_on, no_more, some_more, tells_kind, tells_known, tells_lacks, told_refused}
use Rattle.certs_crl.proofs.extensions.take_no_more.Goals as goal

pub returns-in-Ok-None-clause-reads : goal.returns-in-Ok-None-clause-reads
returns-in-Ok-None-clause-reads g c = record { reads = no_more (absent extension_value (IsExtension _) _ c.in-Ok-None.field-0-is c.in-Ok-None.ensures.reads) }

pub returns-in-Err-clause-reads : goal.returns-in-Err-clause-reads
returns-in-Err-clause-reads g c = record { reads = weaker {P = LacksTagged sequence_tag (IsExtension _) _} _ goes_on c.in-Err.ensures.reads }

pub returns-in-Err-clause-told : goal.returns-in-Err-clause-told
returns-in-Err-clause-told g c = tells_lacks _ _ c.in-Err.ensures.reads

pub returns-then-is_known-clause-reads : goal.returns-then-is_known-clause-reads
returns-then-is_known-clause-reads g c = record { reads = on_content _ (some_more (there extension_value sequence_tag {Q = IsExtension _} _ c.in-Ok-Some.field-0-is c.in-Ok-Some.ensures.reads)) }

pub returns-then-is_known-clause-told : goal.returns-then-is_known-clause-told
returns-then-is_known-clause-told g c =
    tells_known _ (c.is_known.ensures.0 c.if-is_known.true) (there extension_value sequence_tag {Q = IsExtension _} _ c.in-Ok-Some.field-0-is c.in-Ok-Some.ensures.reads)

pub returns-clause-reads : goal.returns-clause-reads
returns-clause-reads g c = record { reads = told_refused c.in-Ok-Some.extension.kind.0 c.unknown.result c.unknown.ensures (some_more (there extension_value sequence_tag {Q = IsExtension _} _ c.in-Ok-Some.field-0-is c.in-Ok-Some.ensures.reads)) }

pub returns-clause-told : goal.returns-clause-told
returns-clause-told g c = tells_kind c.unknown.result c.unknown.ensures (there extension_value sequence_tag {Q = IsExtension _} _ c.in-Ok-Some.field-0-is c.in-Ok-Some.ensures.reads)
