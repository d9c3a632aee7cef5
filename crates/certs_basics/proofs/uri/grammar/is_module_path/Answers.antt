-- The lengths of the host and the module.
use Rattle.std.proofs.Common.{arith}
use Rattle.std.proofs.lemmas.Bool.Decides.{nat_tests}
use Rattle.std.proofs.lemmas.List.{take_rest}
use Rattle.certs_basics.proofs.UriTexts.{IsModulePath-from_lens, HasModule-from_path}
use Rattle.certs_basics.proofs.uri.grammar.is_module_path.Goals as goal
use Rattle.certs_basics.proofs.uri.grammar.is_module_path.Goals.{then-host-gt0, else-host-gt0}

pub returns-then-host-text : goal.returns-then-host-text
returns-then-host-text c =
    let len = rw take_rest at c.segment_len.ensures.place in
    let host = c.segment_len-host.ensures.place in (
      λ t. IsModulePath-from_lens _ (record {
        host_some = omega arith;
        slash = omega arith;
        module_some = rw (← host, ← len) (grind (arith, nat_tests));
      }),
      λ p. let some = (HasModule-from_path _ p).module_some in let more = rw (← host, ← len) at some in grind (arith, nat_tests),
    )

pub returns-else-host-text : goal.returns-else-host-text
returns-else-host-text c = elim c.if-host-gt0.branch [
  | then-host-gt0 w ↦ (λ t. absurd (grind (arith, nat_tests)), λ p. let m = HasModule-from_path _ p in absurd (grind (arith, nat_tests)))
  | else-host-gt0 w ↦ (λ t. absurd (grind (arith, nat_tests)), λ p. let m = HasModule-from_path _ p in absurd (grind (arith, nat_tests)))
]
