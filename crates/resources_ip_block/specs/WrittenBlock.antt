-- What is written of a block, by its addresses alone (RFC 3779 2.2.3.7).
use Rattle.std.proofs.Common.{◌≡◌, ℕ, ◌+◌, ◌-◌, ◌*◌, ◌/◌, ◌^◌, ◌<◌, ◌≤◌, inl, inr, List, ap, sym, ◌∙◌, subst, take, arith}
use Rattle.std.proofs.lemmas.Bool.Decides.{leb_tells}
use Rattle.std.proofs.lemmas.Nat.{pow_pos, shr_high}
use Rattle.std.proofs.Math.Pow.{pow-lt}
use Rattle.std.specs.Int.{to_be_bytes, w128}
use Rattle.resources_ip_block.specs.bcder_tree.declared.mode.Mode.{Mode}
use Rattle.resources_ip_block.specs.bcder_tree.Tags.{TagValue}
use Rattle.resources_ip_block.specs.bcder_tree.Tree.{Trees, constructed, none, more}
use Rattle.resources_ip_block.specs.bcder_octets.Bits.{BitsValue}
use Rattle.resources_ip_block.specs.bcder_octets.BitContents.{WritesBits}
use Rattle.resources_ip_block.specs.bcder_octets.BitsWritten.{one_bits}
use Rattle.resources_ip_block.specs.bcder_primitive.declared.written.primitive.Primitive.{Primitive}
use Rattle.resources_ip_block.specs.bcder_primitive.Encoded.{IsPlain, WritesPlain, WritesWrapped, WritesBoth, SpellsSome}
use Rattle.resources_ip_block.specs.bcder_values.declared.choice.Choice2.{Choice2}
use Rattle.resources_ip_block.specs.bcder_values.declared.choice.Choice2.TheVariants.{One, Two}
use Rattle.resources_ip_block.specs.bcder_values.Choices.{WritesEither}
use Rattle.resources_ip_block.specs.bcder_values.Laws.{both_spelled, both_one}
use Rattle.resources_ip_block.specs.bcder_values.Plains.{plain_spelled, plain_one}
use Rattle.resources_ip_block.specs.bcder_values.Wraps.{wrapped_spelled, wrapped_one}
use Rattle.resources_ip_block.specs.resources_chain.Sets.{Run}
use Rattle.resources_ip_prefix.specs.declared.prefix.Prefix.{Prefix}
use Rattle.resources_ip_prefix.specs.Address.{bits_of}
use Rattle.resources_ip_prefix.specs.Prefix.{prefix_addr, prefix_len, run_of_prefix, len_within, host_clear}
use Rattle.resources_ip_prefix.specs.Prefixes.{first_of, last_of, span_of}
use Rattle.resources_ip_block.specs.Written.{BlockTrees, EncodesBlock, IsShortestMax, IsShortestMin, PrefixTrees, RangeTrees, RangeValue}
use Rattle.resources_ip_prefix.specs.Written.{octet_count, spelled_bits}

-- The octets that are written of a prefix, of a range, of a block.
abbrev pub PrefixText : Mode → Primitive Prefix → List ℕ → Type 0
PrefixText m x = WritesPlain m x.tag (WritesBits m (spelled_bits x.content))

abbrev pub RangeText : Mode → RangeValue → List ℕ → Type 0
RangeText m x = WritesWrapped m x.tag (WritesBoth (PrefixText m x.inner.0) (PrefixText m x.inner.1))

abbrev pub BlockText : Mode → Choice2 (Primitive Prefix) RangeValue → List ℕ → Type 0
BlockText m = WritesEither (PrefixText m) (RangeText m)

-- IPAddressOrRange: of a run, a prefix where it is one, and else a range.
pub record AreIpBlock (m : Mode) (run : Run) (ts : Trees) : Type 0 where
  pub value : Choice2 (Primitive Prefix) RangeValue
  pub encodes : EncodesBlock run value
  pub are : BlockTrees m value ts

pub record WritesIpBlock (m : Mode) (run : Run) (text : List ℕ) : Type 0 where
  pub value : Choice2 (Primitive Prefix) RangeValue
  pub encodes : EncodesBlock run value
  pub writes : BlockText m value text

-- A run has one such value, but for proofs.
abbrev pub SamePrefix : Primitive Prefix → Primitive Prefix → Type 0
SamePrefix x y = (x.tag ≡ y.tag) × (spelled_bits x.content ≡ spelled_bits y.content)

abbrev pub SameBlock : Choice2 (Primitive Prefix) RangeValue → Choice2 (Primitive Prefix) RangeValue
    → Type 0
SameBlock (One x) (One y) = SamePrefix x y
SameBlock (One x) (Two y) = ⊥
SameBlock (Two x) (One y) = ⊥
SameBlock (Two x) (Two y) =
    (x.tag ≡ y.tag) × SamePrefix x.inner.0 y.inner.0 × SamePrefix x.inner.1 y.inner.1

abbrev bits_made : ℕ → ℕ → BitsValue
bits_made addr len = record {
  unused = 8 * octet_count len - len;
  octets = take (octet_count len) (to_be_bytes w128 addr);
}

same_bits : (p q : Prefix) → bits_of (prefix_addr p) ≡ bits_of (prefix_addr q)
    → prefix_len p ≡ prefix_len q → spelled_bits p ≡ spelled_bits q
same_bits p q e f = ap (λ (n : ℕ). bits_made n (prefix_len p)) e ∙ ap
    (λ (l : ℕ). bits_made (bits_of (prefix_addr q)) l) f

-- A length is given by how many addresses begin alike.
fewer : (a b : ℕ) → a < b → b ≤ 128 → span_of b < span_of a
fewer a b h k = let shorter : 128 - b < 128 - a = omega arith in pow-lt shorter

same_len : (a b : ℕ) → a ≤ 128 → b ≤ 128 → span_of a - 1 ≡ span_of b - 1 → a ≡ b
same_len a b h k e =
    elim (leb_tells a b) [
      | inl le ↦ elim (leb_tells b a) [
        | inl ge ↦ omega (arith, le.1, ge.1)
        | inr lt ↦ absurd (omega (arith, fewer a b lt.1 k, pow_pos (128 - a), pow_pos (128 - b), e))
      ]
      | inr lt ↦ absurd (omega (arith, fewer b a lt.1 h, pow_pos (128 - a), pow_pos (128 - b), e))
    ]

-- The last address of a prefix is the last that begins as it does.
last_own : (q : Prefix) → last_of (prefix_len q) (run_of_prefix q).last ≡ (run_of_prefix q).last
last_own q =
    let j : ℕ = 128 - prefix_len q in
    let n : ℕ = bits_of (prefix_addr q) in
    let clear : n / 2 ^ j * 2 ^ j ≡ n = host_clear q in
    let low : 2 ^ j - 1 < 2 ^ j = omega (arith, pow_pos j) in
    let top : (n / 2 ^ j * 2 ^ j + (2 ^ j - 1)) / 2 ^ j ≡ n / 2 ^ j =
    shr_high (n / 2 ^ j) j (2 ^ j - 1) low in
    let div : (n + (2 ^ j - 1)) / 2 ^ j ≡ n / 2 ^ j =
    ap (λ (k : ℕ). (k + (2 ^ j - 1)) / 2 ^ j) (sym clear) ∙ top in
    ap (λ (k : ℕ). k * 2 ^ j + (2 ^ j - 1)) div ∙ ap (λ (k : ℕ). k + (2 ^ j - 1)) clear

same_prefix : (p q : Prefix) → run_of_prefix p ≡ run_of_prefix q → spelled_bits p ≡ spelled_bits q
same_prefix p q e =
    let first : bits_of (prefix_addr p) ≡ bits_of (prefix_addr q) = ap (λ (r : Run). r.first) e in
    let last : bits_of (prefix_addr p) + (span_of (prefix_len p) - 1) ≡ bits_of (prefix_addr q) + (span_of (prefix_len q) - 1) = ap (λ (r : Run). r.last) e in
    same_bits p q first (same_len (prefix_len p) (prefix_len q) (len_within p) (len_within q)
    (omega (arith, first, last)))

min_within : {first : ℕ} (p q : Prefix) → IsShortestMin first p → IsShortestMin first q
    → prefix_len p ≤ prefix_len q
min_within p q a b = a.shortest (prefix_len q) (len_within q)
    (subst (λ (n : ℕ). first_of (prefix_len q) n ≡ n) b.begins (host_clear q))

same_min : {first : ℕ} (p q : Prefix) → IsShortestMin first p → IsShortestMin first q
    → spelled_bits p ≡ spelled_bits q
same_min p q a b =
    same_bits p q (a.begins ∙ sym b.begins) (omega (arith, min_within p q a b, min_within q p b a))

max_within : {last : ℕ} (p q : Prefix) → IsShortestMax last p → IsShortestMax last q
    → prefix_len p ≤ prefix_len q
max_within p q a b = a.shortest (prefix_len q) (len_within q)
    (subst (λ (n : ℕ). last_of (prefix_len q) n ≡ n) b.ends (last_own q))

same_max : {last : ℕ} (p q : Prefix) → IsShortestMax last p → IsShortestMax last q
    → spelled_bits p ≡ spelled_bits q
same_max p q a b =
    let len : prefix_len p ≡ prefix_len q = omega (arith, max_within p q a b, max_within q p b a) in
    let ends : bits_of (prefix_addr p) + (span_of (prefix_len p) - 1) ≡ bits_of (prefix_addr q) + (span_of (prefix_len q) - 1) = a.ends ∙ sym b.ends in
    let span : span_of (prefix_len p) ≡ span_of (prefix_len q) = ap span_of len in
    same_bits p q (omega (arith, ends, span)) len

pub same_block : (run : Run) (x y : Choice2 (Primitive Prefix) RangeValue) → EncodesBlock run x
    → EncodesBlock run y → SameBlock x y
same_block run (One x) (One y) a b =
    (a.0 ∙ sym b.0, same_prefix x.content y.content (a.1 ∙ sym b.1))
same_block run (One x) (Two y) a b = b.1 (bits_of (prefix_addr x.content)) (prefix_len x.content)
    (len_within x.content) (host_clear x.content) a.1
same_block run (Two x) (One y) a b = a.1 (bits_of (prefix_addr y.content)) (prefix_len y.content)
    (len_within y.content) (host_clear y.content) b.1
same_block run (Two x) (Two y) a b = (
  a.0.tag_is ∙ sym b.0.tag_is,
  (a.0.min_tag ∙ sym b.0.min_tag, same_min x.inner.0.content y.inner.0.content a.0.min_is b.0.min_is),
  (a.0.max_tag ∙ sym b.0.max_tag, same_max x.inner.1.content y.inner.1.content a.0.max_is b.0.max_is),
)

-- What is so of one of the values is so of the other.
carried : (F : TagValue → BitsValue → Type 0) (x y : Primitive Prefix) → SamePrefix x y
    → F x.tag (spelled_bits x.content) → F y.tag (spelled_bits y.content)
carried F x y s p = subst (λ (t : TagValue). F t (spelled_bits y.content)) s.0
    (subst (λ (b : BitsValue). F x.tag b) s.1 p)

prefix_text : (m : Mode) (x y : Primitive Prefix) (text : List ℕ) → SamePrefix x y
    → PrefixText m x text → PrefixText m y text
prefix_text m x y text = carried (λ t b. WritesPlain m t (WritesBits m b) text) x y

prefix_trees : (m : Mode) (x y : Primitive Prefix) (ts : Trees) → SamePrefix x y
    → PrefixTrees m x ts → PrefixTrees m y ts
prefix_trees m x y ts = carried (λ t b. IsPlain t (WritesBits m b) ts) x y

range_text : (m : Mode) (x y : RangeValue) (text : List ℕ) → (x.tag ≡ y.tag)
    × SamePrefix x.inner.0 y.inner.0 × SamePrefix x.inner.1 y.inner.1 → RangeText m x text
    → RangeText m y text
range_text m x y text s w = subst (λ (t : TagValue). WritesWrapped m t
    (WritesBoth (PrefixText m y.inner.0) (PrefixText m y.inner.1)) text) s.0 (record {
      content = w.content;
      is = record {
        first = w.is.first;
        second = w.is.second;
        is_first = prefix_text m x.inner.0 y.inner.0 w.is.first s.1 w.is.is_first;
        is_second = prefix_text m x.inner.1 y.inner.1 w.is.second s.2 w.is.is_second;
        whole = w.is.whole;
      };
      few = w.few;
      spelled = w.spelled;
    })

range_trees : (m : Mode) (x y : RangeValue) (ts : Trees) → (x.tag ≡ y.tag)
    × SamePrefix x.inner.0 y.inner.0 × SamePrefix x.inner.1 y.inner.1 → RangeTrees m x ts
    → RangeTrees m y ts
range_trees m x y ts s w = record {
  values = w.values;
  is = record {
    first = w.is.first;
    second = w.is.second;
    is_first = prefix_trees m x.inner.0 y.inner.0 w.is.first s.1 w.is.is_first;
    is_second = prefix_trees m x.inner.1 y.inner.1 w.is.second s.2 w.is.is_second;
    whole = w.is.whole;
  };
  whole = w.whole ∙ ap (λ (t : TagValue). more (constructed t w.values) none) s.0;
}

pub block_text : (m : Mode) (x y : Choice2 (Primitive Prefix) RangeValue) (text : List ℕ)
    → SameBlock x y → BlockText m x text → BlockText m y text
block_text m (One x) (One y) text s p = prefix_text m x y text s p
block_text m (One x) (Two y) text s p = absurd s
block_text m (Two x) (One y) text s p = absurd s
block_text m (Two x) (Two y) text s p = range_text m x y text s p

pub block_trees : (m : Mode) (x y : Choice2 (Primitive Prefix) RangeValue) (ts : Trees)
    → SameBlock x y → BlockTrees m x ts → BlockTrees m y ts
block_trees m (One x) (One y) ts s p = prefix_trees m x y ts s p
block_trees m (One x) (Two y) ts s p = absurd s
block_trees m (Two x) (One y) ts s p = absurd s
block_trees m (Two x) (Two y) ts s p = range_trees m x y ts s p

-- What is written spells these values, and is always the same.
value_spelled : (m : Mode) (x : Choice2 (Primitive Prefix) RangeValue) (text : List ℕ)
    → BlockText m x text → SpellsSome m (BlockTrees m x) text
value_spelled m (One x) = plain_spelled m
value_spelled m (Two x) = wrapped_spelled m (both_spelled m (plain_spelled m) (plain_spelled m))

value_one : (m : Mode) (x : Choice2 (Primitive Prefix) RangeValue) (a b : List ℕ) → BlockText m x a
    → BlockText m x b → a ≡ b
value_one m (One x) = plain_one m (one_bits m (spelled_bits x.content))
value_one m (Two x) = wrapped_one m (both_one (plain_one m
    (one_bits m (spelled_bits x.inner.0.content)))
    (plain_one m (one_bits m (spelled_bits x.inner.1.content))))

pub block_spelled : (m : Mode) (run : Run) (text : List ℕ) → WritesIpBlock m run text
    → SpellsSome m (AreIpBlock m run) text
block_spelled m run text w =
    let s = value_spelled m w.value text w.writes in
    record {
      trees = s.trees;
      is = record {
        value = w.value;
        encodes = w.encodes;
        are = s.is;
      };
      spelled = s.spelled;
    }

pub block_one : (m : Mode) (run : Run) (a b : List ℕ) → WritesIpBlock m run a
    → WritesIpBlock m run b → a ≡ b
block_one m run a b v w = value_one m w.value a b (block_text m v.value w.value a (same_block run v.value w.value v.encodes w.encodes) v.writes) w.writes
