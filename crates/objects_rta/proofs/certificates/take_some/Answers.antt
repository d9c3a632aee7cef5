use Rattle.std.proofs.Common.{◌≡◌, ◌≢◌, [], length, refl, ap, arith}
use Rattle.std.proofs.lemmas.Grind.{common_steps}
use Rattle.objects_cms.proofs.of_bcder_content.Taking.{on_content}
use Rattle.objects_rta.proofs.Repeated.{none_lacks, none_of, some_gives, some_stop, some_took}
use Rattle.objects_rta.proofs.certificates.take_some.Goals as goal

pub returns-in_err-certs-clause-reads : goal.returns-in_err-certs-clause-reads
returns-in_err-certs-clause-reads g c = some_stop _ _ c.from_residual.ensures c.in_err-certs.ensures.reads.reads

pub returns-then-is_empty-clause-reads : goal.returns-then-is_empty-clause-reads
returns-then-is_empty-clause-reads g c =
    let size : length c.in_ok-certs.certs.items ≡ 0 = grind (arith, common_steps, c.if-is_empty.true) in
    record { reads = on_content _ (none_lacks (none_of _ size) c.in_ok-certs.ensures.reads.reads) }

pub returns-clause-reads : goal.returns-clause-reads
returns-clause-reads g c =
    let some : c.in_ok-certs.certs.items ≢ [] = λ e. (let size : length c.in_ok-certs.certs.items ≡ 0 = ap length e in grind (arith, common_steps, c.if-is_empty.false)) in
    some_gives refl some c.in_ok-certs.ensures.reads.reads

pub returns-clause-octets : goal.returns-clause-octets
returns-clause-octets g c =
    let some : c.in_ok-certs.certs.items ≢ [] = λ e. (let size : length c.in_ok-certs.certs.items ≡ 0 = ap length e in grind (arith, common_steps, c.if-is_empty.false)) in
    some_took refl some c.in_ok-certs.ensures.octets
