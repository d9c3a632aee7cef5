-- Climbing says the same as the chain's definition.
use Rattle.std.proofs.Common.{ℕ, List, [], ◌∷◌, ◌↔◌, inl, inr}
use Rattle.rpki_rules.specs.resources_chain.Claims.{Choice, Keeps, FitsIn}
use Rattle.rpki_rules.specs.resources_chain.declared.choice.ResourcesChoice.TheVariants.{Missing, Inherit, Blocks}
use Rattle.rpki_rules.specs.resources_chain.declared.claims.Overclaim.{Overclaim}
use Rattle.rpki_rules.specs.resources_chain.declared.claims.Overclaim.TheVariants.{Refuse, Trim}
use Rattle.rpki_rules.specs.Kinds.{Kind, claim, InSet}
use Rattle.rpki_rules.specs.World.{World}
use Rattle.rpki_rules.specs.Points.{Link}
use Rattle.rpki_rules.specs.Chains.{Holds, Descends}
use Rattle.rpki_rules.specs.Judge.{NeedAbove, NeedWith, NeedAt, Climbs}
use Rattle.rpki_rules.specs.Laws.{ClimbingIsExact}

-- What is needed above a certificate that fits is held, where what it keeps is.
pub up : (m : Overclaim) (c : Choice) (held need : ℕ → Type 0) → ((n : ℕ) → need n → Keeps c n × held n) → FitsIn m c held → (n : ℕ) → NeedAbove m c need n → held n
up Refuse (Blocks runs) held need h f n i = f n i
up Refuse Missing held need h f n i = (h n i).1
up Refuse Inherit held need h f n i = (h n i).1
up Trim c held need h f n i = (h n i).1

-- What is needed at a certificate is held where what is needed above is, and the certificate fits.
pub down : (m : Overclaim) (c : Choice) (held need : ℕ → Type 0) → ((n : ℕ) → need n → Keeps c n) → ((n : ℕ) → NeedAbove m c need n → held n) → ((n : ℕ) → need n → held n) × FitsIn m c held
down Refuse (Blocks runs) held need k h = (λ n i. h n (k n i), λ n l. h n l)
down Refuse Missing held need k h = (h, λ n l. absurd l)
down Refuse Inherit held need k h = (h, λ n l. absurd l)
down Trim c held need k h = (h, tt)

-- What a manifest's certificate that fits lists is held.
pub with_list : (m : Overclaim) (c : Choice) (held need : ℕ → Type 0) → ((n : ℕ) → need n → held n) → FitsIn m c held → (n : ℕ) → NeedWith m c need n → held n
with_list Refuse c held need h f n (inl l) = f n l
with_list Refuse c held need h f n (inr j) = h n j
with_list Trim c held need h f n i = h n i

-- Where what is needed with a manifest's certificate is held, that certificate fits.
pub without : (m : Overclaim) (c : Choice) (held need : ℕ → Type 0) → ((n : ℕ) → NeedWith m c need n → held n) → ((n : ℕ) → need n → held n) × FitsIn m c held
without Refuse c held need h = (λ n i. h n (inr i), λ n l. h n (inl l))
without Trim c held need h = (h, tt)

pub climbs_is : (w : World) (name : List ℕ) (a : Link) (cs : List Link) (need : Kind → ℕ → Type 0) → Climbs w name a cs need ↔ (Descends w name a cs × ((k : Kind) (n : ℕ) → need k n → Holds a cs k n))
climbs_is w name a [] need = (λ h. h, λ h. h)
climbs_is w name a (c ∷ cs) need = (
  λ h. let p = h.1 in let m = p.object.cert in
      let ih = (climbs_is w name a cs (NeedAt c.cert p need)).0 h.5 in
      let o : (k : Kind) → ((n : ℕ) → NeedAbove c.cert.tbs.overclaim (claim c.cert k) (need k) n → Holds a cs k n) × FitsIn m.tbs.overclaim (claim m k) (Holds a cs k) = λ k. without m.tbs.overclaim (claim m k) (Holds a cs k) (NeedAbove c.cert.tbs.overclaim (claim c.cert k) (need k)) (ih.1 k) in
      let d : (k : Kind) → ((n : ℕ) → need k n → Holds a cs k n) × FitsIn c.cert.tbs.overclaim (claim c.cert k) (Holds a cs k) = λ k. down c.cert.tbs.overclaim (claim c.cert k) (Holds a cs k) (need k) (h.0 k) (o k).0 in (
        (
          ih.0,
          p,
          record { point = h.2; fits = λ k. (o k).1 },
          record { file = h.3; child = record { sound = h.4; fits = λ k. (d k).1 } },
        ),
        λ k n i. (h.0 k n i, (d k).0 n i),
      ),
  λ h. let e = h.0 in let p = e.1 in let m = p.object.cert in let i = e.3 in (
    λ k n j. (h.1 k n j).0,
    p,
    e.2.point,
    i.file,
    i.child.sound,
    (climbs_is w name a cs (NeedAt c.cert p need)).1 (
      e.0,
      λ k. with_list m.tbs.overclaim (claim m k) (Holds a cs k) (NeedAbove c.cert.tbs.overclaim (claim c.cert k) (need k))
          (up c.cert.tbs.overclaim (claim c.cert k) (Holds a cs k) (need k) (h.1 k) (i.child.fits k))
          (e.2.fits k),
    ),
  ),
)

pub climbing_is_exact : ClimbingIsExact
climbing_is_exact w name a cs need = climbs_is w name a cs (InSet need)
