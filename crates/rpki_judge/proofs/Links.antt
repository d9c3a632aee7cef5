-- Chains as lists of links, the last first.
use Rattle.std.proofs.Common.{◌≡◌, ℕ, ◌≤◌, ◌<◌, true, false, List, [], ◌∷◌, ◌++◌, map, length, inl, inr, refl, sym, ap, subst, ◌∙◌, arith}
use Rattle.std.proofs.lemmas.List.{length-append}
use Rattle.std.specs.Prelude.{IsTrue}
use Rattle.rpki_rules.specs.Words.{Mem, NoRepeat}
use Rattle.rpki_rules.specs.Kinds.{Kind}
use Rattle.rpki_rules.specs.World.{World}
use Rattle.rpki_rules.specs.Points.{Link}
use Rattle.rpki_rules.specs.Chains.{places, keys, CertAt}
use Rattle.rpki_rules.specs.Attests.{WitnessValue, Payload, IsWitness}
use Rattle.rpki_rules.specs.Judge.{NeedAt, Needs, Climbs, Climbed, IsJudged}
use Rattle.rpki_rules.specs.Certs.{Cert}
use Rattle.rpki_rules.specs.Locators.{https_first}
use Rattle.rpki_rules.proofs.Orders.{mem_append}
use Rattle.rpki_rules.proofs.Readings.{first_held, one_cert_at}
use Rattle.rpki_rules.proofs.Judging.{judging_is_exact}
use Rattle.rpki_judge.specs.declared.judging.Judgement.{Judgement}
use Rattle.rpki_judge.specs.Counted.{HasChain, ReadsPoints}
use Rattle.rpki_judge.specs.Climbing.{identifier_of, AreAt, places_of, IsJudgedAt}

-- Lists with one more at their ends that are one.
pub record SameEnds {X : Type 0} (xs ys : List X) (x y : X) : Type 0 where
  pub front : xs ≡ ys
  pub last : x ≡ y

pub same_ends : {X : Type 0} (xs ys : List X) (x y : X) → xs ++ x ∷ [] ≡ ys ++ y ∷ [] → SameEnds xs ys x y
same_ends [] [] x y e = record { front = refl; last = cc }
same_ends [] (z ∷ ys) x y e = let n : length (x ∷ []) ≡ length ((z ∷ ys) ++ y ∷ []) = ap length e in absurd (omega (arith, n, length-append ys (y ∷ [])))
same_ends (z ∷ xs) [] x y e = let n : length ((z ∷ xs) ++ x ∷ []) ≡ length (y ∷ []) = ap length e in absurd (omega (arith, n, length-append xs (x ∷ [])))
same_ends (z ∷ xs) (v ∷ ys) x y e =
    let q : xs ++ x ∷ [] ≡ ys ++ y ∷ [] = cc in let p : z ≡ v = cc in
    let h = same_ends xs ys x y q in
    record { front = λ i. p i ∷ h.front i; last = h.last }

places_none : (ls : List Link) (u : List ℕ) → places_of ls ++ u ∷ [] ≡ [] → ⊥
places_none ls u e = let n : length (places_of ls ++ u ∷ []) ≡ 0 = ap length e in absurd (omega (arith, n, length-append (places_of ls) (u ∷ [])))

-- Links of the same keys are the same, where each is what stands at its key.
pub one_way : (w : World) (ls ms : List Link) → places_of ls ≡ places_of ms → AreAt w ls → AreAt w ms → ls ≡ ms
one_way w [] [] e h k = refl
one_way w [] (m ∷ ms) e h k = absurd (places_none ms m.uri (sym e))
one_way w (l ∷ ls) [] e h k = absurd (places_none ls l.uri e)
one_way w (l ∷ ls) (m ∷ ms) e h k =
    let s = same_ends (places_of ls) (places_of ms) l.uri m.uri e in
    let r : ls ≡ ms = one_way w ls ms s.front h.1 k.1 in
    let c : l.cert ≡ m.cert = one_cert_at w m.uri l.cert m.cert (subst (λ (u : List ℕ). CertAt w u l.cert) s.last h.0) k.0 in
    λ i. record { uri = s.last i; cert = c i } ∷ r i

pub places_are : (a : Link) (cs : List Link) → places_of (cs ++ a ∷ []) ≡ places a cs
places_are a [] = refl
places_are a (c ∷ cs) = ap (λ (us : List (List ℕ)). us ++ c.uri ∷ []) (places_are a cs)

pub identifiers_are : (a : Link) (cs : List Link) → map identifier_of (cs ++ a ∷ []) ≡ keys a cs
identifiers_are a [] = refl
identifiers_are a (c ∷ cs) = ap (λ (ks : List (List ℕ)). c.cert.tbs.subject_key_identifier ∷ ks) (identifiers_are a cs)

pub length_places : (ls : List Link) → length (places_of ls) ≡ length ls
length_places [] = refl
length_places (l ∷ ls) = let h = length_places ls in let n = length-append (places_of ls) (l.uri ∷ []) in omega (arith, h, n)

-- Links that aren't empty have a first certificate and those below it.
pub record Split (ls : List Link) : Type 0 where
  pub anchor : Link
  pub below : List Link
  pub whole : ls ≡ below ++ anchor ∷ []

pub split_links : (l : Link) (ls : List Link) → Split (l ∷ ls)
split_links l [] = record { anchor = l; below = []; whole = refl }
split_links l (m ∷ ls) = let h = split_links m ls in record { anchor = h.anchor; below = l ∷ h.below; whole = ap (λ (xs : List Link). l ∷ xs) h.whole }

-- The links of a chain that climbs are what stands at their keys.
pub climbs_at : (w : World) (name : List ℕ) (a : Link) (cs : List Link) (need : Kind → ℕ → Type 0) → Climbs w name a cs need → AreAt w (cs ++ a ∷ [])
climbs_at w name a [] need h = let k = h.0 in (record { octets = k.octets; held = first_held w (https_first k.uris) a.uri k.octets k.held; reads = k.cert }, tt)
climbs_at w name a (c ∷ cs) need h = (h.3.reads, climbs_at w name a cs (NeedAt c.cert h.1 need) h.5)

-- A place of a chain is one of its links.
at_place : (w : World) (ls : List Link) → AreAt w ls → (uri : List ℕ) → Mem (places_of ls) uri → (c : Cert) × CertAt w uri c
at_place w [] h uri m = absurd m
at_place w (l ∷ ls) h uri m = elim ((mem_append (places_of ls) (l.uri ∷ []) uri).0 m) [
  | inl k ↦ at_place w ls h.1 uri k
  | inr k ↦ (l.cert, at_one k)
]
  where
    at_one : Mem (l.uri ∷ []) uri → CertAt w uri l.cert
    at_one (inl e) = subst (λ (u : List ℕ). CertAt w u l.cert) e h.0
    at_one (inr k) = absurd k

module _ (w : World) (t : WitnessValue) where
  -- No, where a witness can't be so.
  pub judged_no : (points : ℕ) → points ≡ 0 → ((x : Payload) → Climbed w t x → ⊥) → IsJudged w t false points
  judged_no points z none = record {
    right = (λ y. let h : false ≡ true = y in absurd cc, λ i. absurd (none i.0 ((judging_is_exact w t i.0).1 i.1)));
    bounded = omega arith;
    all = λ y. let h : false ≡ true = y in absurd cc;
  }

  long : (x : Payload) (h : Climbed w t x) → length t.chain ≤ w.depth
  long x h =
      let e : length t.chain ≡ length (h.below ++ h.anchor ∷ []) = ap length (h.places_are ∙ sym (places_are h.anchor h.below)) ∙ length_places (h.below ++ h.anchor ∷ []) in
      omega (arith, e, h.short, length-append h.below (h.anchor ∷ []))

  pub too_long : w.depth < length t.chain → (x : Payload) → Climbed w t x → ⊥
  too_long l x h = absurd (omega (arith, l, long x h))

  pub no_cert : (uri : List ℕ) → Mem t.chain uri → ((c : Cert) → ¬ (CertAt w uri c)) → (x : Payload) → Climbed w t x → ⊥
  no_cert uri m none x h =
      let at = climbs_at w t.locator h.anchor h.below (NeedAt h.object.cert h.point (Needs x)) h.climbs in
      let k = at_place w (h.below ++ h.anchor ∷ []) at uri (subst (λ (us : List (List ℕ)). Mem us uri) (h.places_are ∙ sym (places_are h.anchor h.below)) m) in
      none k.0 k.1

  -- The links that were read are those of a chain that climbs.
  same_links : (ls : List Link) → places_of ls ≡ t.chain → AreAt w ls → (x : Payload) (h : Climbed w t x) → ls ≡ h.below ++ h.anchor ∷ []
  same_links ls e at x h = one_way w ls (h.below ++ h.anchor ∷ []) (e ∙ (h.places_are ∙ sym (places_are h.anchor h.below))) at (climbs_at w t.locator h.anchor h.below (NeedAt h.object.cert h.point (Needs x)) h.climbs)

  pub no_repeat : (ls : List Link) → places_of ls ≡ t.chain → AreAt w ls → ¬ (NoRepeat (map identifier_of ls)) → (x : Payload) → Climbed w t x → ⊥
  no_repeat ls e at n x h =
      let q = same_links ls e at x h in
      n (subst (λ (ks : List (List ℕ)). NoRepeat ks) (sym (ap (map identifier_of) q ∙ identifiers_are h.anchor h.below)) h.once)

  pub judged_all : (ls : List Link) → places_of ls ≡ t.chain → AreAt w ls → NoRepeat (map identifier_of ls) → length t.chain ≤ w.depth → (j : Judgement) → IsJudgedAt w t.locator ls t.object j → IsJudged w t j.yes j.points
  judged_all ls e at once short j h = record {
    right = (yes ls e once h, λ i. no i.0 ((judging_is_exact w t i.0).1 i.1));
    bounded = let b = h.bounded in let l = size in omega (arith, b, l);
    all = λ y. let b = h.all y in let l = size in omega (arith, b, l);
  }
    where
      size : length t.chain ≡ length ls
      size = ap length (sym e) ∙ length_places ls

      yes : (ms : List Link) → places_of ms ≡ t.chain → NoRepeat (map identifier_of ms) → IsJudgedAt w t.locator ms t.object j → IsTrue j.yes → IsWitness w t
      yes [] f o k y = let s : 1 ≤ 0 = k.some y in absurd (omega (arith, s))
      yes (m ∷ ms) f o k y =
          let s = split_links m ms in let a = s.anchor in let cs = s.below in
          let c = (k.right a cs s.whole).0 y in
          let p : t.chain ≡ places a cs = sym f ∙ (ap places_of s.whole ∙ places_are a cs) in
          let l : length t.chain ≡ length (cs ++ a ∷ []) = ap length (sym f ∙ ap places_of s.whole) ∙ length_places (cs ++ a ∷ []) in
          let g : Climbed w t c.payload = record {
            anchor = a;
            below = cs;
            places_are = p;
            once = subst (λ (ks : List (List ℕ)). NoRepeat ks) (ap (map identifier_of) s.whole ∙ identifiers_are a cs) o;
            short = omega (arith, l, short, length-append cs (a ∷ []));
            point = c.point;
            is_point = c.is_point;
            object = c.object;
            is_signed = c.is_signed;
            kept = c.kept;
            climbs = c.climbs;
          } in
          (c.payload, (judging_is_exact w t c.payload).0 g)

      no : (x : Payload) → Climbed w t x → IsTrue j.yes
      no x g =
          (h.right g.anchor g.below (same_links ls e at x g)).1
          (record { payload = x; point = g.point; is_point = g.is_point; object = g.object; is_signed = g.is_signed; kept = g.kept; climbs = g.climbs })

-- Chains of which certificates are read.
module _ (w : World) (chain : List (List ℕ)) where
  pub long_chain : (a : Link) (cs : List Link) → w.depth < length chain → HasChain w chain a cs → ⊥
  long_chain a cs l h =
      let e : length chain ≡ length (cs ++ a ∷ []) = ap length (h.places_are ∙ sym (places_are a cs)) ∙ length_places (cs ++ a ∷ []) in
      let s = h.short in
      absurd (omega (arith, l, e, s, length-append cs (a ∷ [])))

  pub lacking_chain : (a : Link) (cs : List Link) (uri : List ℕ) → Mem chain uri → ((c : Cert) → ¬ (CertAt w uri c)) → HasChain w chain a cs → ⊥
  lacking_chain a cs uri m none h =
      let k = at_place w (cs ++ a ∷ []) h.at uri (subst (λ (us : List (List ℕ)). Mem us uri) (h.places_are ∙ sym (places_are a cs)) m) in
      none k.0 k.1

  pub repeating_chain : (ls : List Link) (a : Link) (cs : List Link) → places_of ls ≡ chain → AreAt w ls → ¬ (NoRepeat (map identifier_of ls)) → HasChain w chain a cs → ⊥
  repeating_chain ls a cs e at n h =
      let q : ls ≡ cs ++ a ∷ [] = one_way w ls (cs ++ a ∷ []) (e ∙ (h.places_are ∙ sym (places_are a cs))) at h.at in
      n (subst (λ (ks : List (List ℕ)). NoRepeat ks) (sym (ap (map identifier_of) q ∙ identifiers_are a cs)) h.once)

  no_places : (a : Link) (cs : List Link) → [] ≡ places a cs → ⊥
  no_places a cs e = let n : 0 ≡ length (cs ++ a ∷ []) = ap length (e ∙ sym (places_are a cs)) ∙ length_places (cs ++ a ∷ []) in absurd (omega (arith, n, length-append cs (a ∷ [])))

  pub has_chain : (a : Link) (cs ls : List Link) → ls ≡ cs ++ a ∷ [] → places_of ls ≡ chain → AreAt w ls → NoRepeat (map identifier_of ls) → length chain ≤ w.depth → HasChain w chain a cs
  has_chain a cs ls whole e at once short =
      let l : length chain ≡ length (cs ++ a ∷ []) = ap length (sym e ∙ ap places_of whole) ∙ length_places (cs ++ a ∷ []) in
      record {
        places_are = sym e ∙ (ap places_of whole ∙ places_are a cs);
        at = subst (λ (xs : List Link). AreAt w xs) whole at;
        once = subst (λ (ks : List (List ℕ)). NoRepeat ks) (ap (map identifier_of) whole ∙ identifiers_are a cs) once;
        short = omega (arith, l, short, length-append cs (a ∷ []));
      }

pub reads_all : (w : World) (t : WitnessValue) (ls : List Link) → places_of ls ≡ t.chain → AreAt w ls → NoRepeat (map identifier_of ls) → length t.chain ≤ w.depth → (j : Judgement) → IsJudgedAt w t.locator ls t.object j → ReadsPoints w t j.points
reads_all w t [] e at once short j h =
    let b : j.points ≤ 0 = h.bounded in
    let z : j.points ≡ 0 = omega (arith, b) in
    inl (z, λ a cs g. no_places w t.chain a cs (e ∙ g.places_are))
reads_all w t (l ∷ ls) e at once short j h =
    let s = split_links l ls in
    inr (s.anchor, s.below, has_chain w t.chain s.anchor s.below (l ∷ ls) s.whole e at once short, h.reads s.anchor s.below s.whole)
