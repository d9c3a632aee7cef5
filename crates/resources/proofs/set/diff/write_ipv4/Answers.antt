use Rattle.std.proofs.Common.{◌≡◌, true, List, sym, subst, ◌∙◌}
use Rattle.std.specs.Prelude.{codes}
use Rattle.std.proofs.Output.{has_written_of_eq, writes_in_calls_nil}
use Rattle.resources.specs.resources_chain.Sets.{Run}
use Rattle.resources.specs.resources_ip_prefix.declared.addr.AddressFamily.TheVariants.{Ipv4}
use Rattle.resources.specs.resources_ip.Texts.{ip_set_text}
use Rattle.resources.specs.Texts.{no_run}
use Rattle.resources.proofs.Texts.{none_is, kind_is}
use Rattle.resources.proofs.set.diff.write_ipv4.Goals as goal

pub returns-then-is_empty : goal.returns-then-is_empty
returns-then-is_empty g c =
    let blocks = c.as_blocks-blocks in
    let empty : no_run blocks.result.now ≡ true = sym (none_is c.is_empty.result blocks.result.now c.runs_are_maximal.ensures c.is_empty.ensures) ∙ c.if-is_empty.true in
    let none : no_run c.args.ipv4.now ≡ true = subst (λ (s : List Run). no_run s ≡ true) blocks.ensures.same empty in
    λ plain ok. has_written_of_eq _ _ _ _ _ (sym (kind_is (codes " ipv4: ") (ip_set_text Ipv4) c.args.ipv4.now none)) (record { wrote = writes_in_calls_nil _ _; plain = plain })
