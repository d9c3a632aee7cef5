-- What a locator's chains cost, and those of all.
use Rattle.std.proofs.Common.{◌≡◌, ◌⊎◌, ◌↔◌, ◌<◌, ◌≤◌, ℕ, zero, suc, Bool, true, false, List, [], ◌∷◌, Vec, Global, length, map, take, get_or, Some, refl, sym, ap, subst, ◌∙◌, inl, inr, arith}
use Rattle.std.specs.Cmp.Lexicographic.{slice_cmp}
use Rattle.std.specs.List.{All}
use Rattle.std.specs.List.Sorted.{IsStrictlySortedBy}
use Rattle.std.specs.Ordering.{is_eq, nat_cmp}
use Rattle.std.specs.declared.cmp.Ordering.TheVariants.{Equal}
use Rattle.std.proofs.lemmas.List.Elements.{All-contains}
use Rattle.std.proofs.lemmas.Map.Views.{Contains-from_lookup}
use Rattle.rpki_walk.specs.resources.Resources.{Resources}
use Rattle.rpki_walk.specs.rpki_bundle.declared.parts.Locator.{Locator}
use Rattle.rpki_rules.specs.Certs.{Cert}
use Rattle.rpki_rules.specs.Kinds.{Kind, InSet}
use Rattle.rpki_rules.specs.Words.{Mem, NoRepeat}
use Rattle.rpki_rules.specs.World.{World}
use Rattle.rpki_rules.specs.Points.{Link}
use Rattle.rpki_rules.specs.Chains.{places, Holds, Accepted}
use Rattle.rpki_rules.proofs.Orders.{contains_of_mem, mem_map, mem_of_contains}
use Rattle.rpki_rules.proofs.Sets.{is_equal, nat_equal, octets_equal, then_equal}
use Rattle.rpki_walk.specs.Repository.{IsAnchorLookup}
use Rattle.rpki_walk.specs.Facts.{Stand}
use Rattle.rpki_walk.specs.Cost.{AreCounts, Chain, CountValue, IsAccepted, IsCost, count_cmp, count_of, how_many}
use Rattle.rpki_walk.specs.Tallied.{Begins, Counts, CountsFrom, IsOf, IsTally, Lists, Tallies, some_count, told}
use Rattle.rpki_walk.specs.declared.repository.AnchorLookup.{AnchorLookup}
use Rattle.rpki_walk.specs.declared.repository.AnchorLookup.TheVariants as To
use Rattle.rpki_walk.specs.declared.cost.count.Count.{Count}
use Rattle.rpki_walk.specs.declared.cost.count.Cost.TheVariants as Is
use Rattle.rpki_walk.specs.declared.cost.tally.Tally.{Tally}
use Rattle.rpki_walk.proofs.Leading.{anchor_of, anchor_on_top, front_of_all, lead_of, one_lead}
use Rattle.rpki_walk.proofs.Tallies.{UpTo, apart_take, fresh, tallies_none, tallies_same}

-- An entry of a tally.
abbrev pub entry_of : List ℕ × ℕ → CountValue
entry_of e = record { authority = e.0; chains = e.1 }

-- The order tells counts apart.
pub one_count : (x y : CountValue) → count_cmp x y ≡ Equal → x ≡ y
one_count x y e =
    let h = then_equal _ _ e in
    let p = sym (nat_equal y.chains x.chains h.0) in
    let q = octets_equal x.authority y.authority h.1 in
    λ i. record { authority = q i; chains = p i }

-- What a tally lists is what its map has.
pub entries_listed : (t : Tally) (old new : List CountValue) → old ≡ map entry_of t.counts.entries → ((x : CountValue) → Mem new x ↔ Mem old x) → All (λ e. told t.counts e.0 ≡ Some e.1) t.counts.entries → Lists t new
entries_listed t old new is same found x = (
  λ m.
      let h = (mem_map entry_of t.counts.entries x).0 (subst (λ (xs : List CountValue). Mem xs x) is ((same x).0 m)) in
      subst (λ (y : CountValue). told t.counts y.authority ≡ Some y.chains) h.2 (All-contains (λ e. told t.counts e.0 ≡ Some e.1) t.counts.entries h.0 found (contains_of_mem t.counts.entries h.0 h.1)),
  λ e.
      let c = Contains-from_lookup {eq = λ q k. is_eq (slice_cmp nat_cmp q k)} (λ q k s. octets_equal q k (is_equal (slice_cmp nat_cmp q k) s)) x.authority x.chains t.counts.entries e in
      let m = (mem_map entry_of t.counts.entries x).1 ((x.authority, x.chains), mem_of_contains t.counts.entries (x.authority, x.chains) c, refl) in
      (same x).1 (subst (λ (xs : List CountValue). Mem xs x) (sym is) m),
)

-- What the locator is, and the chains of it.
module _ {A : Type 0} (cert : A → Cert) (sets : A → Resources) (w : World) (l : Locator) (o : AnchorLookup A) (led : IsAnchorLookup cert sets w l o) where
  led_to : (q : AnchorLookup A) → o ≡ q → IsAnchorLookup cert sets w l q
  led_to q e = subst (λ (z : AnchorLookup A). IsAnchorLookup cert sets w l z) e led

  none_led : (o ≡ To.Unreadable) ⊎ (o ≡ To.Nowhere) → (c : Chain) → ¬ (IsOf w l c)
  none_led (inl e) c h = let k = h.1 in led_to To.Unreadable e k.uris k.key k.reads
  none_led (inr e) c h = (led_to To.Nowhere e).1 h.0 h.1

  pub counts_none : (o ≡ To.Unreadable) ⊎ (o ≡ To.Nowhere) → (t : Tally) → Counts (IsOf w l) t t true
  counts_none e t seen k unseen = tallies_none (IsOf w l) seen t (none_led e) k

  pub counts_anchor : (uri : List ℕ) (c : A) → o ≡ To.Anchor uri c → Mem w.locators l → 1 ≤ w.depth → (v : World) → v ≡ w → (old new : Tally) (whole : Bool) → CountsFrom v [] ((cert c).tbs.subject_key_identifier ∷ []) uri (cert c) (sets c) old new whole → Counts (IsOf w l) old new whole
  counts_anchor uri c e m deep v ev old new whole counts seen k unseen =
      let q = led_to (To.Anchor uri c) e in
      let a : Link = record { uri = uri; cert = cert c } in
      let on = (cert c).tbs.subject_key_identifier ∷ [] in
      let held : (i : Kind) (n : ℕ) → InSet (sets c) i n ↔ Holds a [] i n = λ i n. (q.1 i).same n in
      let st : Stand l.name a [] (record { locator = l.name; chain = places a [] }) on uri (cert c) (sets c) = record { name_is = refl; path_is = refl; on_is = refl; uri_is = refl; ca_is = refl; holds = held } in
      let acc : Accepted w l.name a [] = record { descends = anchor_of w l a m q.0; once = ((λ (z : Mem {X = List ℕ} [] (cert c).tbs.subject_key_identifier). absurd z), tt); short = omega (arith, deep) } in
      let h : CountsFrom w [] on uri (cert c) (sets c) old new whole = subst (λ (u : World). CountsFrom u [] on uri (cert c) (sets c) old new whole) ev counts in
      let t = h l.name a [] st refl acc seen k (λ x b. unseen x (a, q.0, b)) in
      tallies_same (Begins w l.name a []) (IsOf w l) seen new whole t
      (λ x b. (a, q.0, b))
      (λ x z. subst (λ (b : Link). Begins w l.name b [] x) (one_lead w l z.0 a z.1 q.0) z.2)

-- All that is accepted is of some locator.
pub of_some : (w : World) (c : Chain) → IsAccepted w c ↔ UpTo (λ c. ⊥) (IsOf w) w.locators c
of_some w c = (
  λ acc. let k = anchor_on_top w c.locator c.anchor c.below acc in
      inr (k.locator, k.in_list, (c.anchor, lead_of w c.locator c.anchor k, record { name_is = sym k.named; anchor_is = refl; front = front_of_all c.below; accepted = acc })),
  λ h. elim h [ inl n ↦ absurd n | inr q ↦ q.2.2.accepted ],
)

-- The next locator's chains were not counted yet.
pub locator_fresh : (w : World) (i : ℕ) (d : Locator) → i < length w.locators → NoRepeat (map (λ (l : Locator). l.name) w.locators) → (mid : Tally) (t : Tallies (UpTo (λ c. ⊥) (IsOf w) (take i w.locators)) [] mid true) → (c : Chain) → IsOf w (get_or w.locators i d) c → ¬ (Mem t.chains c)
locator_fresh w i d l apart mid t = fresh (λ c. ⊥) (IsOf w) w.locators i d l [] mid t
    (λ c f m. absurd m)
    (λ c f n. n)
    (λ u m c b f. apart_take (λ (x : Locator). x.name) w.locators i d apart l u m (sym b.2.name_is ∙ f.2.name_is))

-- What is listed.
some_is : (n m : ℕ) → (some_count n ≡ Some m) ↔ ((1 ≤ m) × (m ≡ n))
some_is zero m = (λ e. absurd cc, λ h. absurd (omega (arith, h.0, h.1)))
some_is (suc n) m = (
  λ e. let f : suc n ≡ m = cc in (omega (arith, f), sym f),
  λ h. ap (λ (k : ℕ). Some k) (sym h.1),
)

counts_are : (w : World) (t : Tally) (chains : List Chain) (counts : List CountValue) → IsTally t chains → ((c : Chain) → Mem chains c → IsAccepted w c) → Lists t counts → IsStrictlySortedBy count_cmp counts → AreCounts w chains counts
counts_are w t chains counts k accepted listed ascend = record {
  different = k.different;
  accepted = accepted;
  counted = λ x. let s = some_is (how_many x.authority chains) x.chains in let h = listed x in let e = k.counted x.authority in (
    λ m. s.0 (sym e ∙ h.0 m),
    λ q. h.1 (e ∙ s.1 q),
  );
  ascend = ascend;
}

module _ (w : World) (budget : ℕ) (t : Tally) (eb : t.budget ≡ budget) (v : Vec Count Global) (listed : Lists t (map count_of v.items)) (ascend : IsStrictlySortedBy count_cmp (map count_of v.items)) where
  pub cost_exact : (P : Chain → Type 0) → ((c : Chain) → IsAccepted w c ↔ P c) → Tallies P [] t true → IsCost w budget (Is.Exactly v)
  cost_exact P same k = (
    k.chains,
    counts_are w t k.chains (map count_of v.items) k.tally (λ c m. elim (k.added c m) [ inl s ↦ absurd s | inr p ↦ (same c).1 p ]) listed ascend,
    (let h = k.tally.within in let s = k.tally.spent in omega (arith, h, s, eb)),
    λ c acc. k.all refl c ((same c).0 acc),
  )

  pub cost_cut : (P : Chain → Type 0) → ((c : Chain) → IsAccepted w c ↔ P c) → Tallies P [] t false → IsCost w budget (Is.AtLeast v)
  cost_cut P same k = let r = k.rest refl in (
    k.chains,
    counts_are w t k.chains (map count_of v.items) k.tally (λ c m. elim (k.added c m) [ inl s ↦ absurd s | inr p ↦ (same c).1 p ]) listed ascend,
    (let s = k.tally.spent in sym s ∙ (r.0 ∙ eb)),
    r.1,
    (same r.1).1 r.2,
    r.3,
  )
