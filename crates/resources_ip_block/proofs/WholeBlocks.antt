-- Blocks that are read as IPv4 are over whole addresses.
use Rattle.std.proofs.Common.{inl, inr, sym, subst}
use Rattle.resources_ip_block.specs.bcder_tree.declared.mode.Mode.{Mode}
use Rattle.resources_ip_block.specs.bcder_tree.Tree.{Tree}
use Rattle.resources_ip_block.specs.resources_chain.Sets.{Run}
use Rattle.resources_ip_prefix.specs.declared.addr.AddressFamily.TheVariants.{Ipv4}
use Rattle.resources_ip_block.specs.BlockEncodings.{IsBlock, beginning}
use Rattle.resources_ip_prefix.specs.Encodings.{FirstBits, IsAddress, filled}
use Rattle.resources_ip_prefix.specs.Whole.{IsWhole}
use Rattle.resources_ip_prefix.proofs.Spans.{own_first}
use Rattle.resources_ip_prefix.proofs.WholePrefix.{whole_prefix}

v4_address : (m : Mode) (t : Tree) (x : FirstBits) → IsAddress m Ipv4 t x → IsWhole (beginning x)
v4_address m t x p = subst (λ (y : FirstBits). IsWhole (beginning y)) (sym p.means) (whole_prefix _ _ p.is.meets (own_first _ (filled 16 p.x.octets)))

pub v4_block : (m : Mode) (t : Tree) (run : Run) → IsBlock m Ipv4 t run → IsWhole run
v4_block m t run p = elim p.cases [
  | inl q ↦ subst IsWhole (sym q.means) (v4_address m t q.x q.is)
  | inr r ↦ subst IsWhole (sym r.is.from_min_to_max) ((v4_address m r.is.are.first r.is.ends.0 r.is.are.is).0, (v4_address m r.is.are.rest.first r.is.ends.1.0 r.is.are.rest.is).1)
]
