-- What is written of blocks is read again as the same addresses.
use Rattle.std.proofs.Common.{◌≡◌, ℕ, ◌+◌, ◌-◌, ◌%◌, ◌^◌, ◌<◌, ◌≤◌, inl, inr, refl, sym, ap, ◌∙◌, subst, arith}
use Rattle.std.proofs.lemmas.Bool.Decides.{leb_tells}
use Rattle.std.proofs.Math.Pow.{pow-lt}
use Rattle.std.proofs.lemmas.Nat.{pow_pos}
use Rattle.resources_ip_block.specs.bcder_tree.declared.mode.Mode.{Mode}
use Rattle.resources_ip_block.specs.bcder_tree.Tags.{TagValue, sequence_tag}
use Rattle.resources_ip_block.specs.bcder_tree.Tree.{Tree, Trees, primitive, constructed, none, more}
use Rattle.resources_ip_block.specs.bcder_octets.BitContents.{bit_string_tag}
use Rattle.resources_ip_block.specs.bcder_values.declared.choice.Choice2.{Choice2}
use Rattle.resources_ip_block.specs.bcder_values.declared.choice.Choice2.TheVariants.{One, Two}
use Rattle.resources_ip_block.specs.bcder_primitive.declared.written.primitive.Primitive.{Primitive}
use Rattle.resources_ip_block.specs.bcder_primitive.Encoded.{joined}
use Rattle.resources_ip_block.specs.resources_chain.Sets.{Run}
use Rattle.resources_ip_block.specs.resources_chain.Same.{run_is}
use Rattle.resources_ip_prefix.specs.declared.addr.AddressFamily.{AddressFamily}
use Rattle.resources_ip_prefix.specs.declared.addr.AddressFamily.TheVariants.{Ipv4, Ipv6}
use Rattle.resources_ip_prefix.specs.declared.prefix.Prefix.{Prefix}
use Rattle.resources_ip_prefix.specs.Address.{bits_of}
use Rattle.resources_ip_block.specs.BlockEncodings.{AreOrdered}
use Rattle.resources_ip_prefix.specs.Encodings.{IsAddress, prefix_bits}
use Rattle.resources_ip_prefix.specs.Family.{max_len_of}
use Rattle.resources_ip_prefix.specs.Prefix.{prefix_addr, prefix_len, len_within, run_of_prefix}
use Rattle.resources_ip_prefix.specs.Prefixes.{span_of}
use Rattle.resources_ip_block.specs.Written.{BlockTrees, EncodesBlock, EncodesRange, FitsRun, IsShortestMax, IsShortestMin, PrefixTrees, RangeTrees, RangeValue, ReadsBlock}
use Rattle.resources_ip_prefix.proofs.Told.{prefix_read}

-- A prefix of whole IPv4 addresses has at most 32 bits.
short_run : (first len : ℕ) → len ≤ 128 → first % 2 ^ 96 ≡ 0 → (first + (span_of len - 1)) % 2 ^ 96 ≡ 2 ^ 96 - 1 → len ≤ 32
short_run first len h low high =
    elim (leb_tells len 32) [
      | inl within ↦ within.1
      | inr beyond ↦ absurd (
          let shorter : 128 - len < 96 = omega (arith, beyond) in
          let few : span_of len < 2 ^ 96 = pow-lt shorter in
          omega (arith, low, high, few, pow_pos (128 - len)))
    ]

prefix_fits : (family : AddressFamily) (p : Prefix) → FitsRun family (run_of_prefix p) → prefix_len p ≤ max_len_of family
prefix_fits Ipv4 p fits = short_run (bits_of (prefix_addr p)) (prefix_len p) (len_within p) fits.0 fits.1
prefix_fits Ipv6 p fits = len_within p

min_fits : (family : AddressFamily) (run : Run) (p : Prefix) → FitsRun family run → IsShortestMin run.first p → prefix_len p ≤ max_len_of family
min_fits Ipv4 run p fits is = is.shortest 32 (omega arith) (let low : run.first % 2 ^ 96 ≡ 0 = fits.0 in omega (arith, low))
min_fits Ipv6 run p fits is = len_within p

max_fits : (family : AddressFamily) (run : Run) (p : Prefix) → FitsRun family run → IsShortestMax run.last p → prefix_len p ≤ max_len_of family
max_fits Ipv4 run p fits is = is.shortest 32 (omega arith) (let high : run.last % 2 ^ 96 ≡ 2 ^ 96 - 1 = fits.1 in omega (arith, high))
max_fits Ipv6 run p fits is = len_within p

-- One value of a prefix.
pub record ReadsPrefix (m : Mode) (family : AddressFamily) (p : Prefix) (ts : Trees) : Type 0 where
  pub tree : Tree
  pub alone : ts ≡ more tree none
  pub is : IsAddress m family tree (prefix_bits p)

prefix_again : (m : Mode) (family : AddressFamily) (x : Primitive Prefix) (ts : Trees) → x.tag ≡ bit_string_tag → prefix_len x.content ≤ max_len_of family → PrefixTrees m x ts → ReadsPrefix m family x.content ts
prefix_again m family x ts tag fits t = record {
  tree = primitive bit_string_tag t.content;
  alone = t.whole ∙ ap (λ (u : TagValue). more (primitive u t.content) none) tag;
  is = prefix_read m family x.content t.content fits t.is;
}

range_again : (m : Mode) (family : AddressFamily) (run : Run) (x : RangeValue) (ts : Trees) → run.first ≤ run.last → FitsRun family run → EncodesRange run x → RangeTrees m x ts → ReadsBlock m family run ts
range_again m family run x ts order fits e t =
    let min = prefix_again m family x.inner.0 t.is.first e.min_tag (min_fits family run x.inner.0.content fits e.min_is) t.is.is_first in
    let max = prefix_again m family x.inner.1 t.is.second e.max_tag (max_fits family run x.inner.1.content fits e.max_is) t.is.is_second in
    let values : t.values ≡ more min.tree (more max.tree none) = t.is.whole ∙ ap (λ (us : Trees). joined us t.is.second) min.alone ∙ ap (λ (us : Trees). more min.tree us) max.alone in
    let ordered : AreOrdered m family t.values run = record {
      ends = (prefix_bits x.inner.0.content, (prefix_bits x.inner.1.content, tt));
      are = record { first = min.tree; others = more max.tree none; whole = values; is = min.is; rest = record { first = max.tree; others = none; whole = refl; is = max.is; rest = record { ended = refl } } };
      from_min_to_max = run_is (sym e.min_is.begins) (sym e.max_is.ends);
      ordered = order;
    } in
    record {
      tree = constructed sequence_tag t.values;
      alone = t.whole ∙ ap (λ (u : TagValue). more (constructed u t.values) none) e.tag_is;
      is = record { cases = inr (record { values = t.values; whole = refl; is = ordered }) };
    }

pub block_again : (m : Mode) (family : AddressFamily) (run : Run) (x : Choice2 (Primitive Prefix) RangeValue) (ts : Trees) → run.first ≤ run.last → FitsRun family run → EncodesBlock run x → BlockTrees m x ts → ReadsBlock m family run ts
block_again m family run (One x) ts order fits e t =
    let own : FitsRun family (run_of_prefix x.content) = subst (FitsRun family) (sym e.1) fits in
    let read = prefix_again m family x ts e.0 (prefix_fits family x.content own) t in
    record { tree = read.tree; alone = read.alone; is = record { cases = inl (record { x = prefix_bits x.content; is = read.is; means = sym e.1 }) } }
block_again m family run (Two x) ts order fits e t = range_again m family run x ts order fits e.0 t
