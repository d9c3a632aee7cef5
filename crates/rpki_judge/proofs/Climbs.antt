-- Climbing one certificate further.
use Rattle.std.proofs.Common.{◌≡◌, ℕ, ◌+◌, ◌≤◌, ◌⊎◌, ◌↔◌, Bool, true, false, List, [], ◌∷◌, ◌++◌, inl, inr, refl, sym, subst, arith}
use Rattle.std.specs.Prelude.{IsTrue}
use Rattle.rpki_judge.specs.resources_chain.Claims.{Choice}
use Rattle.rpki_judge.specs.resources_chain.declared.choice.ResourcesChoice.TheVariants.{Missing, Inherit, Blocks}
use Rattle.rpki_judge.specs.resources_chain.declared.claims.Overclaim.{Overclaim}
use Rattle.rpki_judge.specs.resources_chain.declared.claims.Overclaim.TheVariants.{Refuse, Trim}
use Rattle.rpki_judge.specs.resources.Resources.{Resources}
use Rattle.rpki_rules.specs.Certs.{Cert}
use Rattle.rpki_rules.specs.Objects.{Object}
use Rattle.rpki_rules.specs.Kinds.{Kind, claim, InSet}
use Rattle.rpki_rules.specs.World.{World}
use Rattle.rpki_rules.specs.Points.{Link, Point, IsPoint}
use Rattle.rpki_rules.specs.Chains.{last_of}
use Rattle.rpki_rules.specs.Attests.{Payload, IsSigned}
use Rattle.rpki_rules.specs.Judge.{NeedAbove, NeedWith, NeedAt, KeepsNeed, Needs, Climbs}
use Rattle.rpki_rules.proofs.Readings.{one_point, one_signed}
use Rattle.rpki_judge.specs.declared.judging.Judgement.{Judgement}
use Rattle.rpki_judge.specs.Needed.{IsNeed}
use Rattle.rpki_judge.specs.Evidence.{IsBelow}
use Rattle.rpki_judge.specs.Counted.{HasNoPoint, NoneIsKept, ReadsAbove, ReadsFrom}
use Rattle.rpki_judge.specs.Climbing.{IsJudgedUp, ClimbedOn, IsJudgedAt}

pub above_less : (m : Overclaim) (c : Choice) (need less : ℕ → Type 0) → ((n : ℕ) → less n → need n) → (n : ℕ) → NeedAbove m c less n → NeedAbove m c need n
above_less Refuse Missing need less f n i = f n i
above_less Refuse Inherit need less f n i = f n i
above_less Refuse (Blocks runs) need less f n i = i
above_less Trim c need less f n i = f n i

pub with_less : (m : Overclaim) (c : Choice) (need less : ℕ → Type 0) → ((n : ℕ) → less n → need n) → (n : ℕ) → NeedWith m c less n → NeedWith m c need n
with_less Refuse c need less f n (inl l) = inl l
with_less Refuse c need less f n (inr i) = inr (f n i)
with_less Trim c need less f n i = f n i

-- Where less is needed, a chain that climbs still does.
pub climbs_less : (w : World) (name : List ℕ) (a : Link) (cs : List Link) (need less : Kind → ℕ → Type 0) → ((k : Kind) (n : ℕ) → less k n → need k n) → Climbs w name a cs need → Climbs w name a cs less
climbs_less w name a [] need less f h = (h.0, λ k n i. h.1 k n (f k n i))
climbs_less w name a (c ∷ cs) need less f h =
    let p = h.1 in let m = p.object.cert in (
      λ k n i. h.0 k n (f k n i),
      p,
      h.2,
      h.3,
      h.4,
      climbs_less w name a cs (NeedAt c.cert p need) (NeedAt c.cert p less)
          (λ k. with_less m.tbs.overclaim (claim m k) (NeedAbove c.cert.tbs.overclaim (claim c.cert k) (need k)) (NeedAbove c.cert.tbs.overclaim (claim c.cert k) (less k)) (above_less c.cert.tbs.overclaim (claim c.cert k) (need k) (less k) (f k))) h.5,
    )

-- More is handed up where more is needed.
pub at_less : (c : Cert) (p : Point) (need less : Kind → ℕ → Type 0) (k : Kind) → ((n : ℕ) → less k n → need k n) → (n : ℕ) → NeedAt c p less k n → NeedAt c p need k n
at_less c p need less k f =
    let m = p.object.cert in
    with_less m.tbs.overclaim (claim m k) (NeedAbove c.tbs.overclaim (claim c k) (need k)) (NeedAbove c.tbs.overclaim (claim c k) (less k)) (above_less c.tbs.overclaim (claim c k) (need k) (less k) f)

-- With the same need as many points are read.
pub reads_same : (w : World) (a : Link) (cs : List Link) (one two : Kind → ℕ → Type 0) (count : ℕ) → ((k : Kind) (n : ℕ) → one k n ↔ two k n) → ReadsAbove w a cs one count → ReadsAbove w a cs two count
reads_same w a [] one two count f h = h
reads_same w a (c ∷ cs) one two count f (inl h) = inl (h.0, λ k. h.1 (λ j n i. k j n ((f j n).0 i)))
reads_same w a (c ∷ cs) one two count f (inr h) = inr (
  λ k n i. h.0 k n ((f k n).1 i),
  h.1,
  h.2,
  on (reads_same w a cs (NeedAt c.cert h.1 one) (NeedAt c.cert h.1 two)) h.3,
)
  where
    Read : (Kind → ℕ → Type 0) → Type 0
    Read need =
        ((count ≡ 1) × ¬ (IsBelow w (last_of a cs).cert h.1 c.uri c.cert))
        ⊎ (IsBelow w (last_of a cs).cert h.1 c.uri c.cert × (above : ℕ) × (count ≡ above + 1) × ReadsAbove w a cs (NeedAt c.cert h.1 need) above)

    Above : Type 0
    Above = (more : ℕ) → ((k : Kind) (n : ℕ) → NeedAt c.cert h.1 one k n ↔ NeedAt c.cert h.1 two k n) → ReadsAbove w a cs (NeedAt c.cert h.1 one) more → ReadsAbove w a cs (NeedAt c.cert h.1 two) more

    on : Above → Read one → Read two
    on above (inl n) = inl n
    on above (inr g) = inr (
      g.0,
      g.1,
      g.2,
      above g.1 (λ k n. (at_less c.cert h.1 two one k (λ m. (f k m).0) n, at_less c.cert h.1 one two k (λ m. (f k m).1) n)) g.3,
    )

-- The first of links is the chain's last.
first_is : (a l : Link) (ds rest : List Link) → l ∷ rest ≡ ds ++ a ∷ [] → l ≡ last_of a ds
first_is a l [] rest e = cc
first_is a l (d ∷ ds) rest e = cc

none_is : (a : Link) (ds : List Link) → [] ≡ ds ++ a ∷ [] → ⊥
none_is a [] e = absurd cc
none_is a (d ∷ ds) e = absurd cc

-- What is so of a first link above which another stands is so of the chain that they end.
of_two : (P : Link → List Link → Type 0) (lower upper : Link) (rest : List Link) → ((a : Link) (ds : List Link) → upper ∷ rest ≡ ds ++ a ∷ [] → upper ≡ last_of a ds → P a (lower ∷ ds)) → (a : Link) (cs : List Link) → lower ∷ upper ∷ rest ≡ cs ++ a ∷ [] → P a cs
of_two P lower upper rest f a [] e = let z : upper ∷ rest ≡ [] = cc in absurd cc
of_two P lower upper rest f a (c ∷ ds) e =
    let q : lower ≡ c = cc in let z : upper ∷ rest ≡ ds ++ a ∷ [] = cc in
    subst (λ (l : Link). P a (l ∷ ds)) q (f a ds z (first_is a upper ds rest z))

module _ (w : World) (name : List ℕ) where
  pub up_anchor : (anchor : Link) (need : Resources) (says : Bool) → IsTrue says ↔ Climbs w name anchor [] (InSet need) → IsJudgedUp w name (anchor ∷ []) need (record { yes = says; points = 0 })
  up_anchor anchor need says h = record {
    right = at;
    reads = none;
    bounded = omega arith;
    all = λ t. omega arith;
  }
    where
      at : (a : Link) (cs : List Link) → anchor ∷ [] ≡ cs ++ a ∷ [] → IsTrue says ↔ Climbs w name a cs (InSet need)
      at a [] e = let q : anchor ≡ a = cc in subst (λ (l : Link). IsTrue says ↔ Climbs w name l [] (InSet need)) q h
      at a (c ∷ cs) e = let z : [] ≡ cs ++ a ∷ [] = cc in absurd (none_is a cs z)

      none : (a : Link) (cs : List Link) → anchor ∷ [] ≡ cs ++ a ∷ [] → ReadsAbove w a cs (InSet need) 0
      none a [] e = refl
      none a (c ∷ cs) e = let z : [] ≡ cs ++ a ∷ [] = cc in absurd (none_is a cs z)

  -- By the chain's own certificates.
  climbs_some : (a c : Link) (ds : List Link) (p : Point) (need higher : Resources) → KeepsNeed c.cert (InSet need) → IsPoint w (last_of a ds).cert p → IsBelow w (last_of a ds).cert p c.uri c.cert → IsNeed (NeedAt c.cert p (InSet need)) higher → (says : Bool) → IsTrue says ↔ Climbs w name a ds (InSet higher) → IsTrue says ↔ Climbs w name a (c ∷ ds) (InSet need)
  climbs_some a c ds p need higher kept at below sets says h = (
    λ t. (kept, p, at, below.file, below.sound, climbs_less w name a ds (InSet higher) (NeedAt c.cert p (InSet need)) (λ k n i. ((sets k).same n).1 i) (h.0 t)),
    λ k. h.1 (climbs_less w name a ds (NeedAt c.cert p (InSet need)) (InSet higher) (λ k n i. ((sets k).same n).0 i)
        (subst (λ (q : Point). Climbs w name a ds (NeedAt c.cert q (InSet need))) (one_point w (last_of a ds).cert k.1 p k.2 at) k.5)),
  )

  pub up_some : (lower upper : Link) (rest : List Link) (p : Point) (need higher : Resources) → KeepsNeed lower.cert (InSet need) → IsPoint w upper.cert p → IsBelow w upper.cert p lower.uri lower.cert → IsNeed (NeedAt lower.cert p (InSet need)) higher → (j : Judgement) → IsJudgedUp w name (upper ∷ rest) higher j → IsJudgedUp w name (lower ∷ upper ∷ rest) need (record { yes = j.yes; points = j.points + 1 })
  up_some lower upper rest p need higher kept at below sets j h = record {
    right = of_two (λ a cs. IsTrue j.yes ↔ Climbs w name a cs (InSet need)) lower upper rest (λ a ds z u.
        climbs_some a lower ds p need higher kept (subst (λ (l : Link). IsPoint w l.cert p) u at) (subst (λ (l : Link). IsBelow w l.cert p lower.uri lower.cert) u below) sets j.yes (h.right a ds z));
    reads = of_two (λ a cs. ReadsAbove w a cs (InSet need) (j.points + 1)) lower upper rest (λ a ds z u. inr (
      kept,
      p,
      subst (λ (l : Link). IsPoint w l.cert p) u at,
      inr (
        subst (λ (l : Link). IsBelow w l.cert p lower.uri lower.cert) u below,
        j.points,
        refl,
        reads_same w a ds (InSet higher) (NeedAt lower.cert p (InSet need)) j.points (λ k n. (((sets k).same n).0, ((sets k).same n).1)) (h.reads a ds z),
      ),
    ));
    bounded = let b = h.bounded in omega arith;
    all = λ t. let g = h.all t in omega arith;
  }

  -- The need isn't kept, or there is no point above: none is read.
  pub up_none : (lower upper : Link) (rest : List Link) (need : Resources) → (KeepsNeed lower.cert (InSet need) → HasNoPoint w upper.cert) → IsJudgedUp w name (lower ∷ upper ∷ rest) need (record { yes = false; points = 0 })
  up_none lower upper rest need none = record {
    right = of_two (λ a cs. IsTrue false ↔ Climbs w name a cs (InSet need)) lower upper rest (λ a ds z u. (
      λ t. let h : false ≡ true = t in absurd cc,
      λ k. absurd (none k.0 k.1 (subst (λ (l : Link). IsPoint w l.cert k.1) (sym u) k.2)),
    ));
    reads = of_two (λ a cs. ReadsAbove w a cs (InSet need) 0) lower upper rest (λ a ds z u.
        inl (refl, λ k. subst (λ (l : Link). HasNoPoint w l.cert) u (none k)));
    bounded = omega arith;
    all = λ t. let h : false ≡ true = t in absurd cc;
  }

  -- The certificate isn't below at the point above: that one is read.
  pub up_one : (lower upper : Link) (rest : List Link) (p : Point) (need : Resources) → KeepsNeed lower.cert (InSet need) → IsPoint w upper.cert p → ¬ (IsBelow w upper.cert p lower.uri lower.cert) → IsJudgedUp w name (lower ∷ upper ∷ rest) need (record { yes = false; points = 1 })
  up_one lower upper rest p need kept at none = record {
    right = of_two (λ a cs. IsTrue false ↔ Climbs w name a cs (InSet need)) lower upper rest (λ a ds z u. (
      λ t. let h : false ≡ true = t in absurd cc,
      λ k.
          let ca = (last_of a ds).cert in
          let b : IsBelow w ca k.1 lower.uri lower.cert = record { file = k.3; sound = k.4 } in
          let q = one_point w ca k.1 p k.2 (subst (λ (l : Link). IsPoint w l.cert p) u at) in
          absurd (none (subst (λ (l : Link). IsBelow w l.cert p lower.uri lower.cert) (sym u) (subst (λ (x : Point). IsBelow w ca x lower.uri lower.cert) q b))),
    ));
    reads = of_two (λ a cs. ReadsAbove w a cs (InSet need) 1) lower upper rest (λ a ds z u. inr (
      kept,
      p,
      subst (λ (l : Link). IsPoint w l.cert p) u at,
      inl (refl, subst (λ (l : Link). ¬ (IsBelow w l.cert p lower.uri lower.cert)) u none),
    ));
    bounded = omega arith;
    all = λ t. let h : false ≡ true = t in absurd cc;
  }

  -- At the chain's end.
  pub on_some : (a : Link) (cs : List Link) (uri : List ℕ) (p : Point) (o : Object) (x : Payload) (need : Resources) → IsPoint w (last_of a cs).cert p → IsSigned w (last_of a cs).cert p uri o x → KeepsNeed o.cert (Needs x) → IsNeed (NeedAt o.cert p (Needs x)) need → (says : Bool) → IsTrue says ↔ Climbs w name a cs (InSet need) → IsTrue says ↔ ClimbedOn w name a cs uri
  on_some a cs uri p o x need ip signed kept sets says h =
      let ca = (last_of a cs).cert in (
        λ t. record {
          payload = x;
          point = p;
          is_point = ip;
          object = o;
          is_signed = signed;
          kept = kept;
          climbs = climbs_less w name a cs (InSet need) (NeedAt o.cert p (Needs x)) (λ k n i. ((sets k).same n).1 i) (h.0 t);
        },
        λ k.
            let pe = one_point w ca k.point p k.is_point ip in
            let s = subst (λ (q : Point). IsSigned w ca q uri k.object k.payload) pe k.is_signed in
            let e = one_signed w ca p uri k.object o k.payload x s signed in
            h.1 (climbs_less w name a cs (NeedAt o.cert p (Needs x)) (InSet need) (λ k n i. ((sets k).same n).0 i)
            (subst (λ (q : Point). Climbs w name a cs (NeedAt o.cert q (Needs x))) pe
            (subst (λ (y : Payload). Climbs w name a cs (NeedAt o.cert k.point (Needs y))) e.1
            (subst (λ (q : Object). Climbs w name a cs (NeedAt q.cert k.point (Needs k.payload))) e.0 k.climbs)))),
      )

  pub at_some : (last : Link) (rest : List Link) (uri : List ℕ) (p : Point) (o : Object) (x : Payload) (need : Resources) → IsPoint w last.cert p → IsSigned w last.cert p uri o x → KeepsNeed o.cert (Needs x) → IsNeed (NeedAt o.cert p (Needs x)) need → (j : Judgement) → IsJudgedUp w name (last ∷ rest) need j → IsJudgedAt w name (last ∷ rest) uri (record { yes = j.yes; points = j.points + 1 })
  at_some last rest uri p o x need ip signed kept sets j h = record {
    right = λ a cs e.
        let u : last ≡ last_of a cs = first_is a last cs rest e in
        on_some a cs uri p o x need (subst (λ (l : Link). IsPoint w l.cert p) u ip) (subst (λ (l : Link). IsSigned w l.cert p uri o x) u signed) kept sets j.yes (h.right a cs e);
    reads = λ a cs e.
        let u : last ≡ last_of a cs = first_is a last cs rest e in
        inr (
          p,
          subst (λ (l : Link). IsPoint w l.cert p) u ip,
          inr (
            o,
            x,
            subst (λ (l : Link). IsSigned w l.cert p uri o x) u signed,
            kept,
            j.points,
            refl,
            reads_same w a cs (InSet need) (NeedAt o.cert p (Needs x)) j.points (λ k n. (((sets k).same n).0, ((sets k).same n).1)) (h.reads a cs e),
          ),
        );
    some = λ t. omega arith;
    bounded = let b = h.bounded in omega arith;
    all = λ t. h.all t;
  }

  -- Nothing is judged good where no object climbs.
  at_none : (last : Link) (rest : List Link) (uri : List ℕ) (points : ℕ) → points ≤ 1 → ((a : Link) (cs : List Link) → last ≡ last_of a cs → ClimbedOn w name a cs uri → ⊥) → ((a : Link) (cs : List Link) → last ≡ last_of a cs → ReadsFrom w a cs uri points) → IsJudgedAt w name (last ∷ rest) uri (record { yes = false; points = points })
  at_none last rest uri points b n r = record {
    right = λ a cs e. (λ t. let h : false ≡ true = t in absurd cc, λ k. absurd (n a cs (first_is a last cs rest e) k));
    reads = λ a cs e. r a cs (first_is a last cs rest e);
    some = λ t. let h : false ≡ true = t in absurd cc;
    bounded = omega arith;
    all = λ t. let h : false ≡ true = t in absurd cc;
  }

  pub no_point : (last : Link) (rest : List Link) (uri : List ℕ) → HasNoPoint w last.cert → IsJudgedAt w name (last ∷ rest) uri (record { yes = false; points = 0 })
  no_point last rest uri none =
      at_none last rest uri 0 (omega arith) (λ a cs u k. none k.point (subst (λ (l : Link). IsPoint w l.cert k.point) (sym u) k.is_point))
      (λ a cs u. inl (refl, subst (λ (l : Link). HasNoPoint w l.cert) u none))

  pub no_need : (last : Link) (rest : List Link) (uri : List ℕ) (p : Point) → IsPoint w last.cert p → NoneIsKept w last.cert p uri → IsJudgedAt w name (last ∷ rest) uri (record { yes = false; points = 1 })
  no_need last rest uri p ip none =
      at_none last rest uri 1 (omega arith) (λ a cs u k.
      let pe = one_point w last.cert k.point p (subst (λ (l : Link). IsPoint w l.cert k.point) (sym u) k.is_point) ip in
      none k.object k.payload (subst (λ (q : Point). IsSigned w last.cert q uri k.object k.payload) pe (subst (λ (l : Link). IsSigned w l.cert k.point uri k.object k.payload) (sym u) k.is_signed)) k.kept)
      (λ a cs u. inr (p, subst (λ (l : Link). IsPoint w l.cert p) u ip, inl (refl, subst (λ (l : Link). NoneIsKept w l.cert p uri) u none)))
