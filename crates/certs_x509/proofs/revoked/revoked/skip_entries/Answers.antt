use Rattle.std.proofs.Common.{refl}
use Rattle.certs_x509.proofs.of_bcder_content.Forests.{there, absent}
use Rattle.certs_x509.proofs.of_bcder_content.Gathering.{gather_begin, gather_next, gather_stop, gather_end}
use Rattle.certs_x509.proofs.of_bcder_content.Took.{took_shorter}
use Rattle.certs_x509.specs.Listing.{entry_one}
use Rattle.certs_x509.proofs.Lists.{entry_tagged}
use Rattle.certs_x509.proofs.revoked.revoked.skip_entries.Goals as goal

pub loop-entry-init : goal.loop-entry-init
loop-entry-init g c = gather_begin tt

pub returns-in_err-_entry-clause-reads : goal.returns-in_err-_entry-clause-reads
returns-in_err-_entry-clause-reads g c = gather_stop _ _ c.loop-entry.invariant c.from_residual.ensures c.in_err-_entry.ensures.reads

pub loop-entry-preserved : goal.loop-entry-preserved
loop-entry-preserved g c = gather_next (λ m. entry_one) c.loop-entry.invariant (there _ _ _ c.in-Some.is c.in_ok-_entry.ensures.reads) tt

pub loop-entry-smaller : goal.loop-entry-smaller
loop-entry-smaller g c = took_shorter _ _ _ (there _ _ _ c.in-Some.is c.in_ok-_entry.ensures.reads).took

pub returns-clause-reads : goal.returns-clause-reads
returns-clause-reads g c = gather_end c.loop-entry.invariant (λ m. entry_tagged) (absent _ _ _ c.in_default.is c.in_ok-_entry.ensures.reads) refl
