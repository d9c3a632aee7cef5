use Rattle.std.proofs.Common.{◌≡◌, ◌≢◌, [], length, map, refl, arith}
use Rattle.std.proofs.lemmas.Grind.{common_steps}
use Rattle.objects_cms.proofs.of_bcder_content.Taking.{on_content}
use Rattle.objects_cms.specs.Signer.{signer_fields}
use Rattle.objects_rta.proofs.Repeated.{none_lacks, none_mapped, some_gives, some_mapped, some_stop, some_took}
use Rattle.objects_rta.proofs.signers.take_some.Goals as goal

pub returns-in_err-signers-clause-reads : goal.returns-in_err-signers-clause-reads
returns-in_err-signers-clause-reads g c = some_stop _ _ c.from_residual.ensures c.in_err-signers.ensures.reads.reads

pub returns-then-is_empty-clause-reads : goal.returns-then-is_empty-clause-reads
returns-then-is_empty-clause-reads g c =
    let size : length c.in_ok-signers.signers.items ≡ 0 = grind (arith, common_steps, c.if-is_empty.true) in
    record { reads = on_content _ (none_lacks (none_mapped signer_fields _ size) c.in_ok-signers.ensures.reads.reads) }

pub returns-clause-reads : goal.returns-clause-reads
returns-clause-reads g c =
    let some : map signer_fields c.in_ok-signers.signers.items ≢ [] =
    some_mapped signer_fields c.in_ok-signers.signers.items (λ size. grind (arith, common_steps, c.if-is_empty.false, size)) in
    some_gives refl some c.in_ok-signers.ensures.reads.reads

pub returns-clause-octets : goal.returns-clause-octets
returns-clause-octets g c =
    let some : map signer_fields c.in_ok-signers.signers.items ≢ [] =
    some_mapped signer_fields c.in_ok-signers.signers.items (λ size. grind (arith, common_steps, c.if-is_empty.false, size)) in
    some_took refl some c.in_ok-signers.ensures.octets
