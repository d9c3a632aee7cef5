-- Texts of ranges and blocks of addresses that are read.
use Rattle.std.proofs.Common.{◌≡◌, ◌≢◌, ℕ, ◌<◌, ◌≤◌, ◌⊎◌, ◌↔◌, List, [], ◌∷◌, ◌++◌, inl, inr, sym, subst, ap, ◌∙◌, arith, refl}
use Rattle.std.specs.Prelude.{Result, Ok, Err, MatchResult, IfOk}
use Rattle.resources_ip_block.specs.resources_ip_prefix.Cuts.{IsCut}
use Rattle.resources_ip_block.specs.resources_chain.Sets.{Run}
use Rattle.resources_ip_block.specs.resources_chain.Same.{run_is}
use Rattle.resources_ip_prefix.specs.declared.addr.AddressFamily.{AddressFamily}
use Rattle.resources_ip_prefix.specs.declared.addr.AddressFamily.TheVariants.{Ipv4, Ipv6}
use Rattle.resources_ip_prefix.specs.declared.error.FromStrError.{FromStrError}
use Rattle.resources_ip_prefix.specs.declared.error.FromStrError.TheVariants as Cause
use Rattle.resources_ip_prefix.specs.Family.{max_len_of, HasColon}
use Rattle.resources_ip_prefix.specs.Prefixes.{first_of, last_of, prefix_run}
use Rattle.resources_ip_prefix.specs.Whole.{IsWhole}
use Rattle.resources_ip_prefix.specs.ReadTexts.{IsAddrText, WritesPrefix, Shows}
use Rattle.resources_ip_prefix.proofs.AddrTexts.{cut_once, cut_lacks}
use Rattle.resources_ip_prefix.proofs.ReadLemmas.{addr_once, addr_at, addr_shows, prefix_once, prefix_refused, prefix_shows, between_shows, shown_by}
use Rattle.resources_ip_prefix.proofs.Spans.{own_first}
use Rattle.resources_ip_prefix.proofs.WholePrefix.{whole_prefix}
use Rattle.resources_ip_block.specs.declared.block.IpBlock.{IpBlock}
use Rattle.resources_ip_block.specs.declared.range.AddressRange.{AddressRange}
use Rattle.resources_ip_block.specs.Block.{run_of_block}
use Rattle.resources_ip_block.specs.Range.{run_of_range}
use Rattle.resources_ip_block.specs.ReadTexts.{WritesRange, IsNoRange, ReadsRange, WritesBlock, IsNoBlock, ReadsBlock, ShowsBoth, IsNoRangeOfAny, IsNoBlockOfAny}

-- ---- ranges

-- Both texts are cut at the same dash.
first_at : (family : AddressFamily) (text min max : List ℕ) (r : Run) → IsCut 45 text min max → WritesRange family text r → IsAddrText family min r.first
first_at family text min max r cut h = addr_at family h.min min r.first (cut_once 45 text h.min h.max min max h.cut cut).0 h.first

last_at : (family : AddressFamily) (text min max : List ℕ) (r : Run) → IsCut 45 text min max → (h : WritesRange family text r) → IsAddrText family max h.end
last_at family text min max r cut h = addr_at family h.max max h.end (cut_once 45 text h.min h.max min max h.cut cut).1 h.last

pub range_once : (family : AddressFamily) (text : List ℕ) (r s : Run) → WritesRange family text r → WritesRange family text s → r ≡ s
range_once family text r s h k =
    let first = addr_once family k.min r.first s.first (first_at family text k.min k.max r k.cut h) k.first in
    let end = addr_once family k.max h.end k.end (last_at family text k.min k.max r k.cut h) k.last in
    run_is first (h.last_is ∙ ap (last_of (max_len_of family)) end ∙ sym k.last_is)

turned : (first last end other : ℕ) → last ≡ end → end < other → other ≡ first → first ≤ last → ⊥
turned first last end other e l f o = omega arith

no_range : (family : AddressFamily) (text : List ℕ) (e : FromStrError) → IsNoRange family text e → (r : Run) → ¬ (WritesRange family text r)
no_range family text Cause.MissingSeparator w r h = cut_lacks 45 text h.min h.max h.cut w
no_range family text Cause.Addr w r h =
    elim w.3 [ inl none ↦ none r.first (first_at family text w.0 w.1 r w.2 h) | inr none ↦ none h.end (last_at family text w.0 w.1 r w.2 h) ]
no_range family text Cause.BadRange w r h =
    let first = addr_once family w.0 w.2 r.first w.5 (first_at family text w.0 w.1 r w.4 h) in
    let end = addr_once family w.1 h.end w.3 (last_at family text w.0 w.1 r w.4 h) w.6 in
    turned r.first r.last (last_of (max_len_of family) w.3) w.2 (h.last_is ∙ ap (last_of (max_len_of family)) end) w.7 first h.ordered
no_range family text Cause.PrefixLen w r h = absurd w
no_range family text Cause.FamilyMismatch w r h = absurd w
no_range family text Cause.BadBlocks w r h = absurd w
no_range family text Cause.Memory w r h = absurd w

pub range_refused : (family : AddressFamily) (text : List ℕ) (e : FromStrError) → IsNoRange family text e → IsNoRange family text e × ((r : Run) → ¬ (WritesRange family text r))
range_refused family text e w = (w, no_range family text e w)

-- From two addresses that a text has to what reading it answers.
pub ends_read : (family : AddressFamily) (text min max : List ℕ) (first end last : ℕ) (r : Result AddressRange FromStrError) → IsCut 45 text min max → IsAddrText family min first → IsAddrText family max end → last ≡ last_of (max_len_of family) end
    → MatchResult r (λ a. (run_of_range a ≡ record { first = first; last = last }) × (first ≤ last)) (λ e. (e ≡ Cause.BadRange) × (last < first)) → ReadsRange family text r
ends_read family text min max first end last (Ok a) cut f l e h =
    subst (λ (run : Run). WritesRange family text run) (sym h.0) (record { min = min; max = max; end = end; cut = cut; first = f; last = l; last_is = e; ordered = h.1 })
ends_read family text min max first end last (Err x) cut f l e h =
    let w : IsNoRange family text Cause.BadRange = (min, max, first, end, cut, f, l, subst (λ (n : ℕ). n < first) e h.1) in
    subst (λ (z : FromStrError). IsNoRange family text z × ((run : Run) → ¬ (WritesRange family text run))) (sym h.0) (range_refused family text Cause.BadRange w)

-- ---- blocks

pub block_once : (family : AddressFamily) (text : List ℕ) (r s : Run) → WritesBlock family text r → WritesBlock family text s → r ≡ s
block_once family text r s (inl h) (inl k) =
    let same = prefix_once family text h.0 k.0 h.1 k.1 h.2 k.2 in h.3 ∙ (λ i. prefix_run (same.0 i) (same.1 i)) ∙ sym k.3
block_once family text r s (inl h) (inr k) = absurd (cut_lacks 47 text h.2.address h.2.digits h.2.cut k.0)
block_once family text r s (inr h) (inl k) = absurd (cut_lacks 47 text k.2.address k.2.digits k.2.cut h.0)
block_once family text r s (inr h) (inr k) = range_once family text r s h.1 k.1

not_nil : (c : ℕ) (xs ys : List ℕ) → [] ≡ xs ++ c ∷ ys → ⊥
not_nil c [] ys e = absurd cc
not_nil c (x ∷ xs) ys e = absurd cc

pub block_some : (family : AddressFamily) (r : Run) → ¬ (WritesBlock family [] r)
block_some family r (inl h) = not_nil 47 h.2.address h.2.digits h.2.cut.whole
block_some family r (inr h) = not_nil 45 h.1.min h.1.max h.1.cut.whole

no_block : (family : AddressFamily) (text : List ℕ) (e : FromStrError) → IsNoBlock family text e → (r : Run) → ¬ (WritesBlock family text r)
no_block family text e (inl w) r (inl h) = (prefix_refused family text e w.1).1 h.0 h.1 h.2
no_block family text e (inl w) r (inr h) = w.0 h.0
no_block family text e (inr w) r (inl h) = cut_lacks 47 text h.2.address h.2.digits h.2.cut w.0
no_block family text e (inr w) r (inr h) = no_range family text e w.1 r h.1

pub block_refused : (family : AddressFamily) (text : List ℕ) (e : FromStrError) → IsNoBlock family text e → IsNoBlock family text e × ((r : Run) → ¬ (WritesBlock family text r))
block_refused family text e w = (w, no_block family text e w)

-- ---- whole IPv4 addresses

pub v4_range_whole : (text : List ℕ) (r : Run) → WritesRange Ipv4 text r → IsWhole r
v4_range_whole text r h = let e = h.first.2 in let f = h.last_is in (omega (arith, e), omega (arith, f))

v4_block_whole : (text : List ℕ) (r : Run) → WritesBlock Ipv4 text r → IsWhole r
v4_block_whole text r (inl h) =
    let p = h.2 in
    let clear : first_of h.1 h.0 ≡ h.0 = ap (first_of h.1) p.first_is ∙ own_first h.1 p.bits ∙ sym p.first_is in
    subst IsWhole (sym h.3) (whole_prefix h.0 h.1 p.length.1 clear)
v4_block_whole text r (inr h) = v4_range_whole text r h.1

pub whole_range_read : (text : List ℕ) (r : Result AddressRange FromStrError) → ReadsRange Ipv4 text r → IfOk r (λ a. IsWhole (run_of_range a))
whole_range_read text (Ok a) h = v4_range_whole text (run_of_range a) h
whole_range_read text (Err e) h = tt

pub whole_block_read : (text : List ℕ) (r : Result IpBlock FromStrError) → ReadsBlock Ipv4 text r → IfOk r (λ b. IsWhole (run_of_block b))
whole_block_read text (Ok b) h = v4_block_whole text (run_of_block b) h
whole_block_read text (Err e) h = tt

-- ---- either family

pub block_shows : (family : AddressFamily) (text : List ℕ) (r : Run) → WritesBlock family text r → Shows family text
block_shows family text r (inl h) = prefix_shows family text h.0 h.1 h.2
block_shows family text r (inr h) =
    let w = h.1 in
    subst (λ (t : List ℕ). Shows family t) (sym w.cut.whole) (between_shows family 45 w.min w.max (λ e. omega (arith, e)) (addr_shows family w.min r.first w.first) (inr (addr_shows family w.max w.end w.last)))

pub one_family : (f g : AddressFamily) (text : List ℕ) → Shows f text → Shows g text → f ≡ g
one_family Ipv4 Ipv4 text h k = refl
one_family Ipv4 Ipv6 text h k = absurd (h k)
one_family Ipv6 Ipv4 text h k = absurd (k h)
one_family Ipv6 Ipv6 text h k = refl

two_families : (family : AddressFamily) (min max : List ℕ) → Shows family min → Shows family max → (Shows Ipv4 min × Shows Ipv6 max) ⊎ (Shows Ipv6 min × Shows Ipv4 max) → ⊥
two_families Ipv4 min max h k (inl t) = k t.1
two_families Ipv4 min max h k (inr t) = h t.0
two_families Ipv6 min max h k (inl t) = t.0 h
two_families Ipv6 min max h k (inr t) = t.1 k

pub range_family : (f g : AddressFamily) (text : List ℕ) (r : Run) → ShowsBoth f text → WritesRange g text r → f ≡ g
range_family f g text r both h = one_family f g both.0 both.3 (addr_shows g both.0 r.first (first_at g text both.0 both.1 r both.2 h))

no_range_of_any : (text : List ℕ) (e : FromStrError) → IsNoRangeOfAny text e → (family : AddressFamily) (r : Run) → ¬ (WritesRange family text r)
no_range_of_any text Cause.FamilyMismatch w family r h =
    two_families family w.0 w.1 (addr_shows family w.0 r.first (first_at family text w.0 w.1 r w.2 h)) (addr_shows family w.1 h.end (last_at family text w.0 w.1 r w.2 h)) w.3
no_range_of_any text Cause.MissingSeparator w family r h = cut_lacks 45 text h.min h.max h.cut w
no_range_of_any text Cause.Addr w family r h =
    no_range w.0 text Cause.Addr w.2 r (subst (λ (f : AddressFamily). WritesRange f text r) (sym (range_family w.0 family text r w.1 h)) h)
no_range_of_any text Cause.BadRange w family r h =
    no_range w.0 text Cause.BadRange w.2 r (subst (λ (f : AddressFamily). WritesRange f text r) (sym (range_family w.0 family text r w.1 h)) h)
no_range_of_any text Cause.PrefixLen w family r h = absurd w
no_range_of_any text Cause.BadBlocks w family r h = absurd w
no_range_of_any text Cause.Memory w family r h = absurd w

pub any_range_refused : (text : List ℕ) (e : FromStrError) → IsNoRangeOfAny text e → IsNoRangeOfAny text e × ((family : AddressFamily) (r : Run) → ¬ (WritesRange family text r))
any_range_refused text e w = (w, no_range_of_any text e w)

-- Ends of one family are read as a range of it.
pub range_of_any : (family : AddressFamily) (text min max : List ℕ) (r : Result AddressRange FromStrError) → IsCut 45 text min max → Shows family min → Shows family max → ReadsRange family text r
    → MatchResult r (λ a. (f : AddressFamily) × WritesRange f text (run_of_range a)) (λ e. IsNoRangeOfAny text e × ((f : AddressFamily) (run : Run) → ¬ (WritesRange f text run)))
range_of_any family text min max (Ok a) cut m n h = (family, h)
range_of_any family text min max (Err e) cut m n h = any_range_refused text e (of_cause e h.0)
  where
    of_cause : (e : FromStrError) → IsNoRange family text e → IsNoRangeOfAny text e
    of_cause Cause.MissingSeparator w = w
    of_cause Cause.Addr w = (family, (min, max, cut, m, n), w)
    of_cause Cause.BadRange w = (family, (min, max, cut, m, n), w)
    of_cause Cause.PrefixLen w = absurd w
    of_cause Cause.FamilyMismatch w = absurd w
    of_cause Cause.BadBlocks w = absurd w
    of_cause Cause.Memory w = absurd w

pub apart : (f g : AddressFamily) (min max : List ℕ) → f ≢ g → Shows f min → Shows g max → (Shows Ipv4 min × Shows Ipv6 max) ⊎ (Shows Ipv6 min × Shows Ipv4 max)
apart Ipv4 Ipv4 min max other h k = absurd (other refl)
apart Ipv4 Ipv6 min max other h k = inl (h, k)
apart Ipv6 Ipv4 min max other h k = inr (h, k)
apart Ipv6 Ipv6 min max other h k = absurd (other refl)

no_block_of_any : (text : List ℕ) (e : FromStrError) → IsNoBlockOfAny text e → (family : AddressFamily) (r : Run) → ¬ (WritesBlock family text r)
no_block_of_any text e (inl (some, (g, shows, w))) family r (inl h) =
    let same = one_family family g text (prefix_shows family text h.0 h.1 h.2) shows in
    (prefix_refused g text e w).1 h.0 h.1 (subst (λ (f : AddressFamily). WritesPrefix f text h.0 h.1) same h.2)
no_block_of_any text e (inl (some, (g, shows, w))) family r (inr h) = some h.0
no_block_of_any text e (inr w) family r (inl h) = cut_lacks 47 text h.2.address h.2.digits h.2.cut w.0
no_block_of_any text e (inr w) family r (inr h) = no_range_of_any text e w.1 family r h.1

pub any_block_refused : (text : List ℕ) (e : FromStrError) → IsNoBlockOfAny text e → IsNoBlockOfAny text e × ((family : AddressFamily) (r : Run) → ¬ (WritesBlock family text r))
any_block_refused text e w = (w, no_block_of_any text e w)

-- A text shows the family that is told of it.
pub shown_as : (family : AddressFamily) (text : List ℕ) → (family ≡ Ipv6) ↔ HasColon text → Shows family text
shown_as = shown_by

pub whole_if_v4 : (family : AddressFamily) (text : List ℕ) (r : Result IpBlock FromStrError) → ReadsBlock family text r → IfOk r (λ b. family ≡ Ipv4 → IsWhole (run_of_block b))
whole_if_v4 family text (Ok b) h = λ e. v4_block_whole text (run_of_block b) (subst (λ (f : AddressFamily). WritesBlock f text (run_of_block b)) e h)
whole_if_v4 family text (Err e) h = tt
