-- What `next` gives from a range up to its end is the range's cover.
use Rattle.std.proofs.Common.{◌≡◌, ℕ, ◌+◌, ◌-◌, ◌<◌, ◌≤◌, ◌⊎◌, ◌↔◌, inl, inr, List, [], ◌∷◌, Option, Some, None, ap, sym, subst, ◌∙◌, arith, refl, le_refl}
use Rattle.std.specs.Prelude.{map}
use Rattle.std.specs.Iterator.{Yields, Drains}
use Rattle.std.proofs.lemmas.Bool.Decides.{leb_tells}
use Rattle.std.proofs.lemmas.Nat.{pow_pos}
use Rattle.resources_ip_block.specs.resources_chain.Same.{run_is}
use Rattle.resources_ip_block.specs.resources_chain.Sets.{Run, InRuns}
use Rattle.resources_ip_block.specs.declared.cover.RangePrefixes.{RangePrefixes}
use Rattle.resources_ip_prefix.specs.declared.prefix.Prefix.{Prefix}
use Rattle.resources_ip_block.specs.declared.range.AddressRange.{AddressRange}
use Rattle.resources_ip_prefix.specs.Address.{bits_of}
use Rattle.resources_ip_prefix.specs.Prefix.{prefix_addr, prefix_len, run_of_prefix, len_within, host_clear}
use Rattle.resources_ip_prefix.specs.Prefixes.{span_of, first_of}
use Rattle.resources_ip_prefix.specs.Whole.{IsWhole}
use Rattle.resources_ip_block.specs.Range.{run_of_range}
use Rattle.resources_ip_prefix.proofs.Spans.{from_longer, to_longer, own_block, own_first, clear_longer, spaced, first_in}
use Rattle.resources_ip_block.specs.Cover.{LiesIn, IsLargest, Has, Ascend, IsCover, IsFirst, IsBehind, GivesFrom, gives, filled}

-- Whatever lies in the run ends before the number or begins there or after it.
abbrev pub NoneAcross : Run → ℕ → Type 0
NoneAcross r at = (addr len : ℕ) → LiesIn r addr len → (addr + (span_of len - 1) < at) ⊎ (at ≤ addr)

-- A prefix that begins within the first one and isn't before it ends with it or before.
within_first : (r : Run) (p : Prefix) (addr len : ℕ) → IsFirst r p → len ≤ 128 → first_of len addr ≡ addr → r.first ≤ addr → addr ≤ (run_of_prefix p).last → addr + (span_of len - 1) ≤ r.last → addr + (span_of len - 1) ≤ (run_of_prefix p).last
within_first r p addr len is short clear from below to =
    let m : ℕ = bits_of (prefix_addr p) in
    let lp : ℕ = prefix_len p in
    elim (leb_tells lp len) [
      | inl le ↦
          let own : first_of lp addr ≡ m = first_in lp m addr (host_clear p) (omega (arith, is.start, from)) (omega (arith, below, pow_pos (128 - lp))) in
          omega (arith, to_longer lp len addr le.1 short, own, clear, pow_pos (128 - len), pow_pos (128 - lp))
      | inr lt ↦ absurd (
          let aligned : first_of lp addr ≡ addr = clear_longer len lp addr (omega (arith, lt.1)) (len_within p) clear in
          elim (leb_tells addr m) [
            | inl at ↦
                let e : addr ≡ r.first = omega (arith, at.1, from, is.start) in
                omega (arith, lt.1, is.longest len short (subst (λ (k : ℕ). first_of len k ≡ k) e clear) (subst (λ (k : ℕ). k + (span_of len - 1) ≤ r.last) e to))
            | inr past ↦ omega (arith, spaced lp m addr (host_clear p) aligned (omega (arith, past.1)), below, pow_pos (128 - lp))
          ])
    ]

-- The first prefix of what is left is one of the largest of the whole run.
first_largest : (r left : Run) (p : Prefix) → r.first ≤ left.first → left.last ≡ r.last → NoneAcross r left.first → IsFirst left p → IsLargest r (bits_of (prefix_addr p)) (prefix_len p)
first_largest r left p from end none is =
    let m : ℕ = bits_of (prefix_addr p) in
    let lp : ℕ = prefix_len p in
    record {
      lies = record { short = len_within p; clear = host_clear p; from = omega (arith, from, is.start); to = omega (arith, is.to, end) };
      alone = λ shorter one lies. elim (none (first_of shorter m) shorter lies) [
        | inl before ↦ omega (arith, before, own_block shorter m, is.start)
        | inr behind ↦
            let e : first_of shorter m ≡ left.first = omega (arith, behind, own_block shorter m, is.start) in
            let clear : first_of shorter left.first ≡ left.first = subst (λ (k : ℕ). first_of shorter k ≡ k) e (own_first shorter m) in
            omega (arith, one, is.longest shorter lies.short clear (omega (arith, e, lies.to, end)))
      ];
    }

-- What is across the end of the first prefix would be across its beginning.
none_behind : (r left : Run) (p : Prefix) → left.last ≡ r.last → NoneAcross r left.first → IsFirst left p → NoneAcross r ((run_of_prefix p).last + 1)
none_behind r left p end none is addr len lies =
    elim (none addr len lies) [
      | inl before ↦ inl (omega (arith, before, is.start))
      | inr behind ↦ elim (leb_tells ((run_of_prefix p).last + 1) addr) [
        | inl past ↦ inr past.1
        | inr within ↦ inl (omega (arith, within_first left p addr len is lies.short lies.clear behind (omega (arith, within.1)) (omega (arith, lies.to, end))))
      ]
    ]

-- A largest prefix that begins in what is left, and not after its first prefix, is that one.
same_as_first : (r left : Run) (p : Prefix) (addr len : ℕ) → r.first ≤ left.first → left.last ≡ r.last → IsFirst left p → IsLargest r addr len → left.first ≤ addr → addr ≤ (run_of_prefix p).last → (bits_of (prefix_addr p) ≡ addr) × (prefix_len p ≡ len)
same_as_first r left p addr len from end is largest behind within =
    let m : ℕ = bits_of (prefix_addr p) in
    let lp : ℕ = prefix_len p in
    let lies = largest.lies in
    elim (leb_tells len lp) [
      | inl le ↦
          let aligned : first_of lp addr ≡ addr = clear_longer len lp addr le.1 (len_within p) lies.clear in
          elim (leb_tells addr m) [
            | inl at ↦
                let e : addr ≡ left.first = omega (arith, at.1, behind, is.start) in
                let long : lp ≤ len = is.longest len lies.short (subst (λ (k : ℕ). first_of len k ≡ k) e lies.clear) (omega (arith, e, lies.to, end)) in
                (omega (arith, e, is.start), omega (arith, long, le.1))
            | inr past ↦ absurd (omega (arith, spaced lp m addr (host_clear p) aligned (omega (arith, past.1)), within, pow_pos (128 - lp)))
          ]
      | inr lt ↦ absurd (
          let own : first_of lp addr ≡ m = first_in lp m addr (host_clear p) (omega (arith, is.start, behind)) (omega (arith, within, pow_pos (128 - lp))) in
          let shorter : ℕ = len - 1 in
          let above : lp ≤ shorter = omega (arith, lt.1) in
          let short : shorter ≤ 128 = omega (arith, lies.short) in
          largest.alone shorter (omega (arith, lt.1)) (record {
            short = short;
            clear = own_first shorter addr;
            from = omega (arith, from_longer lp shorter addr above short, own, is.start, from);
            to = omega (arith, to_longer lp shorter addr above short, own, is.to, end, pow_pos (128 - shorter), pow_pos (128 - lp));
          }))
    ]

-- What the calls of `next` give from where nothing, or a range, is left of the run.
pub record CoversFrom (r : Run) (at : ℕ) (prefixes : List Prefix) : Type 0 where
  pub all : (addr len : ℕ) → Has prefixes addr len ↔ (IsLargest r addr len × (at ≤ addr))
  pub ascending : Ascend at prefixes
  pub exact : (n : ℕ) → InRuns (map run_of_prefix prefixes) n ↔ ((at ≤ n) × (n ≤ r.last))

covers_none : (r : Run) (at : ℕ) → at ≡ r.last + 1 → CoversFrom r at []
covers_none r at e = record {
  all = λ addr len. (λ h. absurd h, λ h. omega (arith, e, h.0.lies.to, h.1));
  ascending = tt;
  exact = λ n. (λ h. absurd h, λ h. omega (arith, e, h));
}

covers_more : (r left : Run) (p : Prefix) (rest : List Prefix) → r.first ≤ left.first → left.last ≡ r.last → NoneAcross r left.first → IsFirst left p → CoversFrom r ((run_of_prefix p).last + 1) rest → CoversFrom r left.first (p ∷ rest)
covers_more r left p rest from end none is covers = record {
  all = λ addr len. (
    λ h. elim h [
      | inl same ↦ (subst (λ (k : ℕ). IsLargest r addr k) same.1 (subst (λ (k : ℕ). IsLargest r k (prefix_len p)) same.0 (first_largest r left p from end none is)), omega (arith, same.0, is.start))
      | inr later ↦ let more = (covers.all addr len).0 later in (more.0, omega (arith, more.1, is.start))
    ],
    λ h. elim (leb_tells ((run_of_prefix p).last + 1) addr) [
      | inl past ↦ inr ((covers.all addr len).1 (h.0, past.1))
      | inr within ↦ inl (same_as_first r left p addr len from end is h.0 h.1 (omega (arith, within.1)))
    ],
  );
  ascending = (omega (arith, is.start), covers.ascending);
  exact = λ n. (
    λ h. elim h [
      | inl in_first ↦ (omega (arith, in_first, is.start), omega (arith, in_first, is.to, end))
      | inr later ↦ let more = (covers.exact n).0 later in (omega (arith, more.0, is.start), more.1)
    ],
    λ h. elim (leb_tells ((run_of_prefix p).last + 1) n) [
      | inl past ↦ inr ((covers.exact n).1 (past.1, h.1))
      | inr within ↦ inl (omega (arith, h.0, is.start), omega (arith, within.1))
    ],
  );
}

-- What is left of the run from the number on.
abbrev pub IsLeft : Run → ℕ → Option AddressRange → Type 0
IsLeft r at None = at ≡ r.last + 1
IsLeft r at (Some range) = ((run_of_range range).first ≡ at) × ((run_of_range range).last ≡ r.last) × (r.first ≤ at) × NoneAcross r at

left_behind : (r left : Run) (p : Prefix) (b : Option AddressRange) → IsBehind left p b → r.first ≤ left.first → left.last ≡ r.last → NoneAcross r left.first → IsFirst left p → IsLeft r ((run_of_prefix p).last + 1) b
left_behind r left p None h from end none is = omega (arith, h, end)
left_behind r left p (Some rest) h from end none is = (
  ap (λ (k : Run). k.first) h,
  ap (λ (k : Run). k.last) h ∙ end,
  omega (arith, from, is.start),
  none_behind r left p end none is,
)

ends_here : (o b : Option AddressRange) (r : Run) (at : ℕ) → IsLeft r at o → GivesFrom o None b → CoversFrom r at []
ends_here None b r at left g = covers_none r at left
ends_here (Some range) b r at left g = absurd g

goes_on : (o b : Option AddressRange) (r : Run) (at : ℕ) (p : Prefix) (rest : List Prefix) → IsLeft r at o → GivesFrom o (Some p) b → IsLeft r ((run_of_prefix p).last + 1) b × (CoversFrom r ((run_of_prefix p).last + 1) rest → CoversFrom r at (p ∷ rest))
goes_on None b r at p rest left g = absurd (let e : Some p ≡ None = g.0 in cc)
goes_on (Some range) b r at p rest left g =
    let run : Run = run_of_range range in
    let from : r.first ≤ run.first = omega (arith, left.0, left.2) in
    let none : NoneAcross r run.first = subst (λ (k : ℕ). NoneAcross r k) (sym left.0) left.3 in (
      left_behind r run p b g.1 from left.1 none g.0,
      λ covers. subst (λ (k : ℕ). CoversFrom r k (p ∷ rest)) left.0 (covers_more r run p rest from left.1 none g.0 covers),
    )

covers_from : (r : Run) (prefixes : List Prefix) (s t u : RangePrefixes) (at : ℕ) → IsLeft r at s.left → Yields gives s prefixes t → gives t None u → CoversFrom r at prefixes
covers_from r [] s t u at left e stop = ends_here s.left u.left r at left (subst (λ (k : RangePrefixes). gives k None u) (sym e) stop)
covers_from r (p ∷ rest) s t u at left run stop =
    let on = goes_on s.left run.0.left r at p rest left run.1 in
    on.1 (covers_from r rest run.0 t u ((run_of_prefix p).last + 1) on.0 run.2 stop)

pub covers : (s : RangePrefixes) (range : AddressRange) → s.left ≡ Some range → (prefixes : List Prefix) → Drains gives s prefixes → IsCover (run_of_range range) prefixes
covers s range e prefixes drains =
    let r : Run = run_of_range range in
    let whole : IsLeft r r.first (Some range) = (refl, refl, le_refl r.first, λ addr len lies. inr lies.from) in
    let found = covers_from r prefixes s drains.1.0 drains.0 r.first (subst (λ (o : Option AddressRange). IsLeft r r.first o) (sym e) whole) drains.1.1 drains.1.2 in
    record {
      all = λ addr len. (λ h. ((found.all addr len).0 h).0, λ largest. (found.all addr len).1 (largest, largest.lies.from));
      ascending = found.ascending;
      exact = found.exact;
    }

-- A prefix of the cover of whole IPv4 addresses has at most 32 bits.
pub short_v4 : (r : Run) (addr len : ℕ) → IsLargest (filled r) addr len → len ≤ 32
short_v4 r addr len largest =
    elim (leb_tells len 32) [
      | inl le ↦ le.1
      | inr lt ↦ absurd (
          let shorter : ℕ = len - 1 in
          let above : 32 ≤ shorter = omega (arith, lt.1) in
          let short : shorter ≤ 128 = omega (arith, largest.lies.short) in
          largest.alone shorter (omega (arith, lt.1)) (record {
            short = short;
            clear = own_first shorter addr;
            from = omega (arith, from_longer 32 shorter addr above short, largest.lies.from);
            to = omega (arith, to_longer 32 shorter addr above short, largest.lies.to, pow_pos (128 - shorter));
          }))
    ]

-- Whole addresses are filled already.
pub whole_filled : (r : Run) → IsWhole r → filled r ≡ r
whole_filled r whole = run_is (omega (arith, whole.0)) (omega (arith, whole.1))
