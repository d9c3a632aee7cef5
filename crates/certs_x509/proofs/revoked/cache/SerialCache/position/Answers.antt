use Rattle.std.proofs.Common.{sym, ◌∙◌, subst}
use Rattle.std.specs.List.Sorted.{IsStrictlyIncreasing}
use Rattle.certs_x509.proofs.Serials.{place_is, rises_ordered}
use Rattle.certs_x509.proofs.revoked.cache.SerialCache.position.Goals as goal

pub halve-place-requires-clause-order : goal.halve-place-requires-clause-order
halve-place-requires-clause-order c = rises_ordered c.as_slice.result.now c.args.serial (subst IsStrictlyIncreasing (sym c.as_slice.ensures.value) c.self.invariant)

pub returns-clause-place : goal.returns-clause-place
returns-clause-place c = place_is c.as_slice.result.now c.args.self.now c.args.serial c.halve-place.result (c.as_slice.ensures.value ∙ c.self.view_is) c.halve-place.ensures.place
