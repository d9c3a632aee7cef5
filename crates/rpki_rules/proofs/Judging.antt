-- A witness is good where reading it from its object up finds all that is needed.
use Rattle.std.proofs.Common.{ℕ, List, [], ◌∷◌, inl, inr, refl, sym, subst}
use Rattle.rpki_rules.specs.resources_chain.Sets.{InRuns}
use Rattle.rpki_rules.specs.resources_chain.Claims.{FitsIn}
use Rattle.rpki_rules.specs.Objects.{RoaAddress}
use Rattle.rpki_rules.specs.Kinds.{Kind, Ipv4, Ipv6, As, claim}
use Rattle.rpki_rules.specs.Chains.{Holds}
use Rattle.rpki_rules.specs.Attests.{Payload, OfRoa, OfAspa, AreHeld, IsCovered, HoldsWith}
use Rattle.rpki_rules.specs.Judge.{NeedAbove, NeedAt, Needs, runs_of}
use Rattle.rpki_rules.specs.Laws.{JudgingIsExact}
use Rattle.rpki_rules.proofs.Climb.{up, down, with_list, without, climbs_is}

-- All prefixes are held where each of their addresses is.
held_all : (held : ℕ → Type 0) (addresses : List RoaAddress) → AreHeld held addresses → (n : ℕ) → InRuns (runs_of addresses) n → held n
held_all held [] h n i = absurd i
held_all held (a ∷ rest) h n (inl i) = h.0 n i
held_all held (a ∷ rest) h n (inr i) = held_all held rest h.1 n i

all_held : (held : ℕ → Type 0) (addresses : List RoaAddress) → ((n : ℕ) → InRuns (runs_of addresses) n → held n) → AreHeld held addresses
all_held held [] h = tt
all_held held (a ∷ rest) h = (λ n i. h n (inl i), all_held held rest (λ n i. h n (inr i)))

-- What an object attests is covered where what it needs is held.
needs_held : (held : Kind → ℕ → Type 0) (x : Payload) → IsCovered held x → (k : Kind) (n : ℕ) → Needs x k n → held k n
needs_held held (OfRoa r) c Ipv4 n i = held_all (held Ipv4) r.v4 c.0 n i
needs_held held (OfRoa r) c Ipv6 n i = held_all (held Ipv6) r.v6 c.1 n i
needs_held held (OfRoa r) c As n i = absurd i
needs_held held (OfAspa a) c Ipv4 n i = absurd i
needs_held held (OfAspa a) c Ipv6 n i = absurd i
needs_held held (OfAspa a) c As n i = subst (held As) (sym i) c

held_needs : (held : Kind → ℕ → Type 0) (x : Payload) → ((k : Kind) (n : ℕ) → Needs x k n → held k n) → IsCovered held x
held_needs held (OfRoa r) h = (all_held (held Ipv4) r.v4 (h Ipv4), all_held (held Ipv6) r.v6 (h Ipv6))
held_needs held (OfAspa a) h = h As a.customer refl

pub judging_is_exact : JudgingIsExact
judging_is_exact w t x = (
  λ h.
      let a = h.anchor in let cs = h.below in let p = h.point in let m = p.object.cert in let e = h.object.cert in
      let held = Holds a cs in
      let b = (climbs_is w t.locator a cs (NeedAt e p (Needs x))).0 h.climbs in
      let o : (k : Kind) → ((n : ℕ) → NeedAbove e.tbs.overclaim (claim e k) (Needs x k) n → held k n) × FitsIn m.tbs.overclaim (claim m k) (held k) = λ k. without m.tbs.overclaim (claim m k) (held k) (NeedAbove e.tbs.overclaim (claim e k) (Needs x k)) (b.1 k) in
      let d : (k : Kind) → ((n : ℕ) → Needs x k n → held k n) × FitsIn e.tbs.overclaim (claim e k) (held k) = λ k. down e.tbs.overclaim (claim e k) (held k) (Needs x k) (h.kept k) (o k).0 in
      record {
        anchor = a;
        below = cs;
        places_are = h.places_are;
        accepted = record { descends = b.0; once = h.once; short = h.short };
        point = p;
        stands = record { point = h.is_point; fits = λ k. (o k).1 };
        good = record {
          object = h.object;
          is_signed = h.is_signed;
          fits = λ k. (d k).1;
          covered = held_needs (HoldsWith held e) x (λ k n i. (h.kept k n i, (d k).0 n i));
        };
      },
  λ g.
      let a = g.anchor in let cs = g.below in let p = g.point in let m = p.object.cert in let e = g.good.object.cert in
      let held = Holds a cs in
      let n : (k : Kind) (n : ℕ) → Needs x k n → HoldsWith held e k n = needs_held (HoldsWith held e) x g.good.covered in
      record {
        anchor = a;
        below = cs;
        places_are = g.places_are;
        once = g.accepted.once;
        short = g.accepted.short;
        point = p;
        is_point = g.stands.point;
        object = g.good.object;
        is_signed = g.good.is_signed;
        kept = λ k i j. (n k i j).0;
        climbs = (climbs_is w t.locator a cs (NeedAt e p (Needs x))).1 (
          g.accepted.descends,
          λ k. with_list m.tbs.overclaim (claim m k) (held k) (NeedAbove e.tbs.overclaim (claim e k) (Needs x k))
              (up e.tbs.overclaim (claim e k) (held k) (Needs x k) (n k) (g.good.fits k))
              (g.stands.fits k),
        );
      },
)
