-- What is met at the files of a point and below them, and what a walk for lines gains there.
use Rattle.std.proofs.Common.{◌≡◌, ◌↔◌, ◌⊎◌, ◌+◌, ◌<◌, ◌≤◌, ℕ, suc, List, [], ◌∷◌, Vec, Global, length, min, take, drop, get_or, refl, sym, ap, subst, ◌∙◌, inl, inr, arith}
use Rattle.rpki_walk.specs.resources.Resources.{Resources}
use Rattle.rpki_rules.specs.Certs.{Cert}
use Rattle.rpki_rules.specs.Kinds.{Kind, InSet}
use Rattle.rpki_rules.specs.Words.{Mem}
use Rattle.rpki_rules.specs.World.{World}
use Rattle.rpki_rules.specs.Points.{Link, Point, files}
use Rattle.rpki_rules.specs.Chains.{last_of, places, keys, Holds, StandsIn, Stands, Accepted}
use Rattle.rpki_rules.specs.declared.cause.Cause.{Cause}
use Rattle.rpki_rules.specs.declared.cause.Cause.TheVariants as cause
use Rattle.rpki_rules.specs.Refused.{IsIssued, IsFileRefused}
use Rattle.rpki_rules.specs.Attests.{Payload}
use Rattle.rpki_rules.proofs.Readings.{one_cert_at, one_point}
use Rattle.rpki_rules.proofs.Fronts.{front_cases, accepted_front, keys_count}
use Rattle.rpki_rules.specs.Views.{PathValue}
use Rattle.rpki_walk.specs.Facts.{Finding, Refuses, Stand, Found, FromFile, Gains, Classified}
use Rattle.rpki_walk.specs.declared.chains.Outcome.{Outcome}
use Rattle.rpki_walk.specs.declared.chains.Outcome.TheVariants as Does
use Rattle.rpki_walk.specs.Alike.{IsPrinted, IsMetAt, Meets}
use Rattle.rpki_walk.specs.Remembered.{Remembers}
use Rattle.rpki_walk.specs.Walked.{has_lines, Continues, MeetsFile, AreWalked, TellsBelow, WalksLines}
use Rattle.rpki_walk.specs.declared.lines.walk.LinesWalk.{LinesWalk}
use Rattle.rpki_walk.proofs.Mems.{mem_take_more, gains_next}
use Rattle.rpki_walk.proofs.Findings.{stands_to, issued_to, from_child, accepted_on, none_here, all_here}
use Rattle.rpki_walk.proofs.Walked.{mem_since, continues_itself, continues_on, continues_long, ignored_issued, bad_issued, good_issued, not_reached, gains_printed, gained_more, meets_more, walked_more, walked_push}

-- The key of a certificate that is issued at the file is met, and if the chain goes on with it those below.
abbrev pub Below : World → List ℕ → Link → List Link → Point → List ℕ → List (List ℕ) → Type 0
Below w name a cs p u met = (c : Cert) → IsIssued w (Holds a cs) (last_of a cs).cert p u c → Mem met c.tbs.subject_key_identifier × (Accepted w name a (record { uri = u; cert = c } ∷ cs) → Meets w name a (record { uri = u; cert = c } ∷ cs) met)

pub below_more : (w : World) (name : List ℕ) (a : Link) (cs : List Link) (p : Point) (u : List ℕ) (met new : List (List ℕ)) → ((key : List ℕ) → Mem met key → Mem new key) → Below w name a cs p u met → Below w name a cs p u new
below_more w name a cs p u met new sub b c i = let h = b c i in (sub c.tbs.subject_key_identifier h.0, λ acc. meets_more w name a (record { uri = u; cert = c } ∷ cs) met new sub (h.1 acc))

-- The next of a list of files.
pub below_next : (w : World) (name : List ℕ) (a : Link) (cs : List Link) (p : Point) (fs : List (List ℕ)) (i : ℕ) (d : List ℕ) (met new : List (List ℕ)) → i < length fs → ((key : List ℕ) → Mem met key → Mem new key) → ((u : List ℕ) → Mem (take i fs) u → Below w name a cs p u met) → Below w name a cs p (get_or fs i d) new → (u : List ℕ) → Mem (take (i + 1) fs) u → Below w name a cs p u new
below_next w name a cs p fs i d met new l sub old one u m = elim ((mem_take_more fs i d u l).0 m) [
  | inl q ↦ below_more w name a cs p u met new sub (old u q)
  | inr e ↦ subst (λ (v : List ℕ). Below w name a cs p v new) e one
]

-- Where the point stands, what is met below the chain is met at its files or below them.
pub meets_at_point : (w : World) (name : List ℕ) (a : Link) (cs : List Link) (p : Point) (met : List (List ℕ)) → Stands w a cs p → ((u : List ℕ) → Mem (files (last_of a cs).cert p.manifest) u → Below w name a cs p u met) → Meets w name a cs met
meets_at_point w name a cs p met s below ds f acc c m = elim (front_cases cs ds f) [
  | inl e ↦ at_end (subst (λ (xs : List Link). IsMetAt w a xs c) e m)
  | inr g ↦
      let h = accepted_front w name a (g.0 ∷ cs) ds g.1 acc in
      let d = h.descends in
      let o = one_point w (last_of a cs).cert d.1 p d.2.point s.point in
      let i = d.3 in
      (below g.0.uri (subst (λ (r : Point). Mem (files (last_of a cs).cert r.manifest) g.0.uri) o i.file.listed) g.0.cert
      (subst (λ (r : Point). IsIssued w (Holds a cs) (last_of a cs).cert r g.0.uri g.0.cert) o (record { extension = i.file.extension; reads = i.file.reads; child = i.child }))).1 h ds g.1 acc c m
]
  where
    at_end : IsMetAt w a cs c → Mem met c.tbs.subject_key_identifier
    at_end k =
        let o = one_point w (last_of a cs).cert k.point p k.stands.point s.point in
        (below k.uri (subst (λ (r : Point). Mem (files (last_of a cs).cert r.manifest) k.uri) o k.listed) c
        (subst (λ (r : Point). IsIssued w (Holds a cs) (last_of a cs).cert r k.uri c) o k.issued)).0

pub meets_at_none : (w : World) (name : List ℕ) (a : Link) (cs : List Link) (met : List (List ℕ)) → ((p : Point) → ¬ (Stands w a cs p)) → Meets w name a cs met
meets_at_none w name a cs met n ds f acc c m = elim (front_cases cs ds f) [
  | inl e ↦ let k = subst (λ (xs : List Link). IsMetAt w a xs c) e m in absurd (n k.point k.stands)
  | inr g ↦ let h = accepted_front w name a (g.0 ∷ cs) ds g.1 acc in absurd (n h.descends.1 h.descends.2)
]

-- A certificate with which no chain goes on is on the chain already, or the chain is as long as may be.
pub refused_ends : (w : World) (held : Kind → ℕ → Type 0) (on : List (List ℕ)) (ca : Cert) (p : Point) (uri : List ℕ) (why : Cause) → IsFileRefused w held on (length on) ca p uri why → (c : Cert) → IsIssued w held ca p uri c → Mem on c.tbs.subject_key_identifier ⊎ (w.depth ≤ length on)
refused_ends w held on ca p uri cause.Tal r c i = absurd r
refused_ends w held on ca p uri cause.Anchor r c i = absurd r
refused_ends w held on ca p uri cause.Point r c i = absurd r
refused_ends w held on ca p uri cause.Object r c i = absurd (bad_issued w held ca p uri r c i)
refused_ends w held on ca p uri cause.Loop r c i = inl (subst (λ (d : Cert). Mem on d.tbs.subject_key_identifier) (one_cert_at w uri r.0 c r.1.reads i.reads) r.2)
refused_ends w held on ca p uri cause.Depth r c i = inr r.3

-- What the walk has told of the files of a point so far: which keys are met there or below them, and since when.
pub record TellsUpTo (w : World) (old new : LinesWalk) (name : List ℕ) (a : Link) (cs : List Link) (p : Point) (fs : List (List ℕ)) (from : ℕ) : Type 0 where
  pub gained : Gains IsPrinted (has_lines old.lines) (λ x. ⊥ ⊎ ((u : List ℕ) × Mem fs u × FromFile [] w name a cs p u x)) (has_lines new.lines)
  pub grown : Continues old.met.items new.met.items
  pub within : from ≤ length new.met.items
  pub met : (u : List ℕ) → Mem fs u → Below w name a cs p u (drop from new.met.items)
  pub walked : AreWalked w new

-- Before the first file.
pub up_start : (w : World) (walk : LinesWalk) (name : List ℕ) (a : Link) (cs : List Link) (p : Point) (from : ℕ) → from ≡ length walk.met.items → AreWalked w walk → TellsUpTo w walk walk name a cs p [] from
up_start w walk name a cs p from e all = record {
  gained = λ x i. (λ m. inl m, λ m. elim m [ inl o ↦ o | inr q ↦ elim q [ inl n ↦ absurd n | inr h ↦ absurd h.1 ] ]);
  grown = continues_itself walk.met.items;
  within = omega (arith, e);
  met = λ u m. absurd m;
  walked = all;
}

module _ (w : World) (old mid new : LinesWalk) (name : List ℕ) (a : Link) (cs : List Link) (p : Point) (fs : List (List ℕ)) (i : ℕ) (d : List ℕ) (from : ℕ) (l : i < length fs) (t : TellsUpTo w old mid name a cs p (take i fs) from) (g : Gains IsPrinted (has_lines mid.lines) (FromFile [] w name a cs p (get_or fs i d)) (has_lines new.lines)) (grown : Continues mid.met.items new.met.items) where
  up : (since : ℕ) → since ≤ from → Below w name a cs p (get_or fs i d) (drop since new.met.items) → AreWalked w new → TellsUpTo w old new name a cs p (take (i + 1) fs) since
  up since le b all = record {
    gained = gains_next IsPrinted (has_lines old.lines) (has_lines mid.lines) (has_lines new.lines) (λ x. ⊥) (FromFile [] w name a cs p) fs i d l t.gained g;
    grown = continues_on old.met.items mid.met.items new.met.items t.grown grown;
    within = let h = t.within in let k = continues_long mid.met.items new.met.items grown in omega arith;
    met = below_next w name a cs p fs i d (drop from mid.met.items) (drop since new.met.items) l (mem_since from since mid.met.items new.met.items le grown) t.met b;
    walked = all;
  }

  -- A file below which no chain goes on.
  pub up_ended : new.before.walked.items ≡ mid.before.walked.items → Below w name a cs p (get_or fs i d) (drop (length mid.met.items) new.met.items) → TellsUpTo w old new name a cs p (take (i + 1) fs) from
  up_ended e b = up from (omega arith)
      (below_more w name a cs p (get_or fs i d) (drop (length mid.met.items) new.met.items) (drop from new.met.items) (λ key m. mem_since (length mid.met.items) from new.met.items new.met.items t.within (continues_itself new.met.items) key m) b)
      (walked_more w mid new e grown (gained_more (has_lines mid.lines) (has_lines new.lines) (FromFile [] w name a cs p (get_or fs i d)) g) t.walked)

  -- A certificate with which the chain goes on.
  pub up_child : (since next : ℕ) → next ≡ min from since → Below w name a cs p (get_or fs i d) (drop next new.met.items) → AreWalked w new → TellsUpTo w old new name a cs p (take (i + 1) fs) next
  up_child since next e b all = up next (omega (arith, e)) b all

-- The walk's variables, as the chain that they stand for: what is issued at a file there is issued by what the code read.
module _ {A P : Type 0} (cert : A → Cert) (sets : A → Resources) (payload : P → Payload) (w w' : World) (same : w' ≡ w) (name : List ℕ) (a : Link) (cs : List Link) (on : List (List ℕ)) (uri : List ℕ) (ca : Cert) (csets : Resources) (st : Stand name a cs (record { locator = name; chain = places a cs }) on uri ca csets) (p p0 : Point) (s : StandsIn w (InSet csets) ca p) (s0 : StandsIn w (InSet csets) ca p0) (file : List ℕ) where
  p_is : p0 ≡ p
  p_is = one_point w ca p0 p s0.point s.point

  issued_there : (c : Cert) → IsIssued w (Holds a cs) (last_of a cs).cert p file c → IsIssued w' (InSet csets) ca p0 file c
  issued_there c i =
      let i1 = issued_to (Holds a cs) (InSet csets) (λ k n. (st.holds k n).1) w (last_of a cs).cert p file c i in
      let i2 = subst (λ (l : Cert). IsIssued w (InSet csets) l p file c) (sym st.ca_is) i1 in
      let i3 = subst (λ (q : Point). IsIssued w (InSet csets) ca q file c) (sym p_is) i2 in
      subst (λ (v : World). IsIssued v (InSet csets) ca p0 file c) (sym same) i3

  issued_here : (c : Cert) → IsIssued w' (InSet csets) ca p0 file c → IsIssued w (Holds a cs) (last_of a cs).cert p file c
  issued_here c i =
      let i1 = subst (λ (v : World). IsIssued v (InSet csets) ca p0 file c) same i in
      let i2 = subst (λ (q : Point). IsIssued w (InSet csets) ca q file c) p_is i1 in
      let i3 = subst (λ (l : Cert). IsIssued w (InSet csets) l p file c) st.ca_is i2 in
      issued_to (InSet csets) (Holds a cs) (λ k n. (st.holds k n).0) w (last_of a cs).cert p file c i3

  -- Where no chain goes on.
  pub no_longer : ((c : Cert) → IsIssued w' (InSet csets) ca p0 file c → Mem on c.tbs.subject_key_identifier ⊎ (w'.depth ≤ length on)) → (c : Cert) → IsIssued w (Holds a cs) (last_of a cs).cert p file c → ¬ (Accepted w name a (record { uri = file; cert = c } ∷ cs))
  no_longer ends c i acc = elim (ends c (issued_there c i)) [
    | inl m ↦ acc.once.0 (subst (λ (xs : List (List ℕ)). Mem xs c.tbs.subject_key_identifier) st.on_is m)
    | inr l ↦ deep acc.short l
  ]
    where
      deep : suc (length cs) < w.depth → w'.depth ≤ length on → ⊥
      deep short l =
          let d : w'.depth ≡ w.depth = ap (λ (v : World). v.depth) same in
          let o : length on ≡ length (keys a cs) = ap length st.on_is in
          let k = keys_count a cs in omega arith

  ended : (met : List (List ℕ)) → MeetsFile w' (InSet csets) ca p0 file met → ((c : Cert) → IsIssued w' (InSet csets) ca p0 file c → Mem on c.tbs.subject_key_identifier ⊎ (w'.depth ≤ length on)) → Below w name a cs p file met
  ended met keyed ends c i = (keyed c (issued_there c i), λ acc. absurd (no_longer ends c i acc))

  pub below_nothing : (met : List (List ℕ)) (o : Outcome A P) → o ≡ Does.Nothing → Classified cert sets payload w' (InSet csets) ca p0 on file o → MeetsFile w' (InSet csets) ca p0 file met → Below w name a cs p file met
  below_nothing met o e cl keyed =
      let k = subst (λ (q : Outcome A P). Classified cert sets payload w' (InSet csets) ca p0 on file q) e cl in
      ended met keyed (λ c i. absurd (ignored_issued w' (InSet csets) ca p0 file k c i))

  pub below_refused : (met : List (List ℕ)) (o : Outcome A P) (why : Cause) → o ≡ Does.Refused why → Classified cert sets payload w' (InSet csets) ca p0 on file o → MeetsFile w' (InSet csets) ca p0 file met → Below w name a cs p file met
  below_refused met o why e cl keyed =
      let k = subst (λ (q : Outcome A P). Classified cert sets payload w' (InSet csets) ca p0 on file q) e cl in
      ended met keyed (λ c i. refused_ends w' (InSet csets) on ca p0 file why k c i)

  pub below_attests : (met : List (List ℕ)) (o : Outcome A P) (x : P) → o ≡ Does.Attests x → Classified cert sets payload w' (InSet csets) ca p0 on file o → MeetsFile w' (InSet csets) ca p0 file met → Below w name a cs p file met
  below_attests met o x e cl keyed =
      let k = subst (λ (q : Outcome A P). Classified cert sets payload w' (InSet csets) ca p0 on file q) e cl in
      ended met keyed (λ c i. absurd (good_issued w' (InSet csets) ca p0 file (payload x) k c i))

  -- Where a chain goes on.
  module _ (acc : Accepted w name a cs) (o : Outcome A P) (child : A) (key : List ℕ) (e : o ≡ Does.Child child key) (cl : Classified cert sets payload w' (InSet csets) ca p0 on file o) (listed : Mem (files ca p0.manifest) file) (more : List (List ℕ)) (em : more ≡ key ∷ on) where
    abbrev pub link : Link
    link = record { uri = file; cert = cert child }

    pub is_child : Classified cert sets payload w' (InSet csets) ca p0 on file (Does.Child child key)
    is_child = subst (λ (q : Outcome A P). Classified cert sets payload w' (InSet csets) ca p0 on file q) e cl

    issued : IsIssued w (Holds a cs) (last_of a cs).cert p file (cert child)
    issued = issued_here (cert child) is_child.0

    apart : ¬ (Mem (keys a cs) (cert child).tbs.subject_key_identifier)
    apart = subst (λ (xs : List (List ℕ)). ¬ (Mem xs (cert child).tbs.subject_key_identifier)) st.on_is (subst (λ (k : List ℕ). ¬ (Mem on k)) is_child.1 is_child.2)

    short : length (keys a cs) < w.depth
    short =
        let l : length on < w'.depth = is_child.3 in
        let d : w'.depth ≡ w.depth = ap (λ (u : World). u.depth) same in
        let k : length on ≡ length (keys a cs) = ap length st.on_is in omega arith

    pub goes_on : Accepted w name a (link ∷ cs)
    goes_on =
        let m = subst (λ (l : Cert). Mem (files l p.manifest) file) st.ca_is (subst (λ (q : Point). Mem (files ca q.manifest) file) p_is listed) in
        let h = stands_to (InSet csets) (Holds a cs) (λ k n. (st.holds k n).0) w (last_of a cs).cert p (subst (λ (l : Cert). StandsIn w (InSet csets) l p) st.ca_is s) in
        accepted_on [] w name a cs p file (cert child) acc h m issued apart short

    pub stand : Stand name a (link ∷ cs) (record { locator = name; chain = places a (link ∷ cs) }) more file (cert child) (sets child)
    stand = record {
      name_is = refl;
      path_is = refl;
      on_is = em ∙ (ap (λ (k : List ℕ). k ∷ on) is_child.1 ∙ ap (λ (xs : List (List ℕ)). (cert child).tbs.subject_key_identifier ∷ xs) st.on_is);
      uri_is = refl;
      ca_is = refl;
      holds = λ k n. let q = (is_child.4 k).same n in let h = st.holds k n in (
        λ z. let y = q.0 z in (y.0, h.0 y.1),
        λ z. q.1 (z.0, h.1 z.1),
      );
    }

    -- By what was walked below it.
    module _ (v : World) (ev : v ≡ w) (mid new : LinesWalk) (since : ℕ) (walked : WalksLines v more file (cert child) (sets child) mid new since) (all : AreWalked w mid) where
      tells : TellsBelow w mid new name a (link ∷ cs) since
      tells = let t : WalksLines w more file (cert child) (sets child) mid new since = subst (λ (u : World). WalksLines u more file (cert child) (sets child) mid new since) ev walked in t name a (link ∷ cs) stand goes_on all

      child_gains : Gains IsPrinted (has_lines mid.lines) (FromFile [] w name a cs p file) (has_lines new.lines)
      child_gains = gains_printed (has_lines mid.lines) (has_lines new.lines) (Found [] w name a (link ∷ cs)) (FromFile [] w name a cs p file) tells.gained (λ x i. from_child [] w name a cs p file (cert child) x issued apart short)

      child_below : (met : List (List ℕ)) → MeetsFile w' (InSet csets) ca p0 file met → ((k : List ℕ) → Mem (drop since new.met.items) k → Mem met k) → Below w name a cs p file met
      child_below met keyed sub c i =
          let j = issued_there c i in
          let o : cert child ≡ c = one_cert_at w' file (cert child) c is_child.0.reads j.reads in (
            keyed c j,
            λ h. subst (λ (d : Cert). Meets w name a (record { uri = file; cert = d } ∷ cs) met) o (meets_more w name a (link ∷ cs) (drop since new.met.items) met sub tells.meets),
          )

      -- One file more is told.
      pub child_step : (old first : LinesWalk) (fs : List (List ℕ)) (i : ℕ) (d : List ℕ) (from next : ℕ) → get_or fs i d ≡ file → i < length fs → mid.lines ≡ first.lines → Continues first.met.items mid.met.items → MeetsFile w' (InSet csets) ca p0 file (drop (length first.met.items) mid.met.items) → TellsUpTo w old first name a cs p (take i fs) from → next ≡ min from since → TellsUpTo w old new name a cs p (take (i + 1) fs) next
      child_step old first fs i d from next ef l el gm keyed t e =
          up_child w old first new name a cs p fs i d from l t gained (continues_on first.met.items mid.met.items new.met.items gm tells.grown) since next e below tells.walked
        where
          gained : Gains IsPrinted (has_lines first.lines) (FromFile [] w name a cs p (get_or fs i d)) (has_lines new.lines)
          gained = subst (λ ls. Gains IsPrinted (has_lines ls) (FromFile [] w name a cs p (get_or fs i d)) (has_lines new.lines)) el (subst (λ (u : List ℕ). Gains IsPrinted (has_lines mid.lines) (FromFile [] w name a cs p u) (has_lines new.lines)) (sym ef) child_gains)

          keys_met : MeetsFile w' (InSet csets) ca p0 file (drop next new.met.items)
          keys_met c j = mem_since (length first.met.items) next mid.met.items new.met.items (let h = t.within in omega (arith, e, h)) tells.grown c.tbs.subject_key_identifier (keyed c j)

          below : Below w name a cs p (get_or fs i d) (drop next new.met.items)
          below = subst (λ (u : List ℕ). Below w name a cs p u (drop next new.met.items)) (sym ef) (child_below (drop next new.met.items) keys_met (λ k m. mem_since since next new.met.items new.met.items (omega (arith, e)) (continues_itself new.met.items) k m))

-- The walk's variables, as the chain that they stand for.
module _ (w : World) (old : LinesWalk) (name : List ℕ) (a : Link) (cs : List Link) (on : List (List ℕ)) (uri : List ℕ) (ca : Cert) (sets : Resources) (st : Stand name a cs (record { locator = name; chain = places a cs }) on uri ca sets) (acc : Accepted w name a cs) where
  abbrev here : PathValue
  here = record { locator = name; chain = places a cs }

  stood : (p : Point) → StandsIn w (InSet sets) ca p → Stands w a cs p
  stood p s = stands_to (InSet sets) (Holds a cs) (λ k n. (st.holds k n).0) w (last_of a cs).cert p (subst (λ (c : Cert). StandsIn w (InSet sets) c p) st.ca_is s)

  stands_back : (p : Point) → Stands w a cs p → StandsIn w (InSet sets) ca p
  stands_back p s = subst (λ (c : Cert). StandsIn w (InSet sets) c p) (sym st.ca_is) (stands_to (Holds a cs) (InSet sets) (λ k n. (st.holds k n).1) w (last_of a cs).cert p s)

  -- Where no point stands, the refusal is all.
  pub none_told : (new : LinesWalk) (from : ℕ) → ((p : Point) → ¬ (StandsIn w (InSet sets) ca p)) → Gains IsPrinted (has_lines old.lines) (λ x. Refuses uri cause.Point ≡ x) (has_lines new.lines) → new.met.items ≡ old.met.items → new.before.walked.items ≡ old.before.walked.items → AreWalked w old → TellsBelow w old new name a cs from
  none_told new from n g em eb all = record {
    gained = none_here IsPrinted [] w name a cs here on uri ca sets st acc n (has_lines old.lines) (has_lines old.lines) (has_lines new.lines) (λ x i. (λ m. inl m, λ m. elim m [ inl o ↦ o | inr r ↦ absurd (not_reached w (InSet sets) ca x i [] on here uri r) ])) g;
    grown = grown;
    meets = meets_at_none w name a cs (drop from new.met.items) (λ p s. n p (stands_back p s));
    walked = walked_more w old new eb grown (gained_more (has_lines old.lines) (has_lines new.lines) (λ x. Refuses uri cause.Point ≡ x) g) all;
  }
    where
      grown : Continues old.met.items new.met.items
      grown = subst (λ (xs : List (List ℕ)). Continues old.met.items xs) (sym em) (continues_itself old.met.items)

  -- Where one stands, all is told when its files are.
  pub all_told : (mid new : LinesWalk) (held : Resources) (from : ℕ) (p : Point) (fs : List (List ℕ)) → held ≡ sets → StandsIn w (InSet sets) ca p → fs ≡ files ca p.manifest → Remembers mid.before.walked.items new.before.walked.items uri held on from (length mid.met.items) → new.lines ≡ mid.lines → new.met ≡ mid.met → TellsUpTo w old mid name a cs p fs from → TellsBelow w old new name a cs from
  all_told mid new held from p fs eh s ef r el em t = record {
    gained = subst (λ ls. Gains IsPrinted (has_lines old.lines) (Found [] w name a cs) (has_lines ls)) (sym el) gained;
    grown = subst (λ (xs : List (List ℕ)). Continues old.met.items xs) (sym ei) t.grown;
    meets = subst (λ (xs : List (List ℕ)). Meets w name a cs (drop from xs)) (sym ei) meets;
    walked = walked_push w mid new uri ca sets held on from (length mid.met.items) eh r ei el refl name a cs st acc meets (λ x i f. (gained x i).1 (inr f)) t.walked;
  }
    where
      ei : new.met.items ≡ mid.met.items
      ei = ap (λ (v : Vec (List ℕ) Global). v.items) em

      told : (x : Finding) → IsPrinted x → (⊥ ⊎ ((u : List ℕ) × Mem fs u × FromFile [] w name a cs p u x)) ↔ Found [] w name a cs x
      told x i =
          let f = all_here IsPrinted [] w name a cs here on uri ca sets st p acc s x in (
            λ q. elim q [ inl n ↦ absurd n | inr h ↦ f.0 (inr (h.0, subst (λ (xs : List (List ℕ)). Mem xs h.0) ef h.1, h.2)) ],
            λ q. elim (f.1 q) [
              | inl y ↦ absurd (not_reached w (InSet sets) ca x i [] on here uri y)
              | inr h ↦ inr (h.0, subst (λ (xs : List (List ℕ)). Mem xs h.0) (sym ef) h.1, h.2)
            ],
          )

      gained : Gains IsPrinted (has_lines old.lines) (Found [] w name a cs) (has_lines mid.lines)
      gained = gains_printed (has_lines old.lines) (has_lines mid.lines) (λ x. ⊥ ⊎ ((u : List ℕ) × Mem fs u × FromFile [] w name a cs p u x)) (Found [] w name a cs) t.gained told

      meets : Meets w name a cs (drop from mid.met.items)
      meets = meets_at_point w name a cs p (drop from mid.met.items) (stood p s) (λ u m. t.met u (subst (λ (xs : List (List ℕ)). Mem xs u) (sym ef) (subst (λ (c : Cert). Mem (files c p.manifest) u) (sym st.ca_is) m)))
