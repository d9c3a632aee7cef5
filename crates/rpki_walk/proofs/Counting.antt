-- What a walk counts at a chain, at the files of its point, and at locators.
use Rattle.std.proofs.Common.{◌≡◌, ◌⊎◌, ◌↔◌, ◌<◌, ◌≤◌, ◌+◌, ℕ, zero, suc, Bool, true, false, IsTrue, cond, filter, List, [], ◌∷◌, length, take, get_or, Option, Some, unwrap_or, refl, sym, ap, subst, ◌∙◌, inl, inr, arith}
use Rattle.std.proofs.lemmas.List.Sums.{length-filter, count_by-le-length}
use Rattle.rpki_walk.specs.resources.Resources.{Resources}
use Rattle.rpki_rules.specs.Certs.{Cert}
use Rattle.rpki_rules.specs.Kinds.{Kind, InSet}
use Rattle.rpki_rules.specs.Words.{Mem, NoRepeat}
use Rattle.rpki_rules.specs.World.{World}
use Rattle.rpki_rules.specs.Points.{Link, Point, files}
use Rattle.rpki_rules.specs.Chains.{last_of, places, Holds, StandsIn, Stands, CertAt, Accepted}
use Rattle.rpki_rules.specs.Refused.{IsIssued}
use Rattle.rpki_rules.specs.Attests.{Payload}
use Rattle.rpki_rules.proofs.Readings.{one_cert_at, one_point}
use Rattle.rpki_rules.proofs.Fronts.{accepted_front}
use Rattle.rpki_walk.specs.Facts.{Stand, Classified}
use Rattle.rpki_walk.specs.Cost.{Chain, above, goes_below, how_many}
use Rattle.rpki_walk.specs.Tallied.{Adds, Begins, BeginsAt, CountsFrom, IsTally, Tallies, some_count, told}
use Rattle.rpki_walk.specs.declared.chains.Outcome.{Outcome}
use Rattle.rpki_walk.specs.declared.chains.Outcome.TheVariants as Does
use Rattle.rpki_walk.specs.declared.cost.tally.Tally.{Tally}
use Rattle.rpki_walk.proofs.Walked.{ignored_issued, good_issued}
use Rattle.rpki_walk.proofs.Findings.{stands_to}
use Rattle.rpki_walk.proofs.Below.{refused_ends, no_longer, goes_on, stand}
use Rattle.rpki_walk.proofs.Begins.{above_apart, accepted_so, begins_longer, begins_none, begins_one, begins_point, begins_up, here, here_begins}
use Rattle.rpki_walk.proofs.Tallies.{UpTo, apart_take, fresh, map_same, tallies_next, tallies_none, tallies_same}

how_many_short : (uri : List ℕ) (chains : List Chain) → how_many uri chains ≤ length chains
how_many_short uri chains = omega (arith, length-filter (goes_below uri) chains, count_by-le-length (goes_below uri) chains)

-- A number that is told.
told_number : (n : ℕ) → unwrap_or (some_count n) 0 ≡ n
told_number zero = refl
told_number (suc n) = refl

one_more : (n : ℕ) → Some (n + 1) ≡ some_count (suc n)
one_more n = let e : n + 1 ≡ suc n = omega arith in ap (λ (k : ℕ). Some k) e

-- One chain more.
counted_more : (b : Bool) (n : ℕ) (o : Option ℕ) (x : Chain) (xs : List Chain) → o ≡ some_count n → n ≡ length xs → cond b (Some (unwrap_or o 0 + 1)) o ≡ some_count (length (cond b (x ∷ xs) xs))
counted_more true n o x xs e l = ap (λ (p : Option ℕ). Some (unwrap_or p 0 + 1)) e ∙ (ap (λ (k : ℕ). Some (k + 1)) (told_number n ∙ l) ∙ one_more (length xs))
counted_more false n o x xs e l = e ∙ ap some_count l

module _ (w : World) (name : List ℕ) (a : Link) (cs : List Link) (acc : Accepted w name a cs) where
  abbrev pub this : Chain
  this = here w name a cs

  -- The budget has room for this chain.
  pub tally_more : (old new : Tally) (up : List (List ℕ)) → up ≡ above a cs → old.spent < old.budget → new.spent ≡ old.spent + 1 → new.budget ≡ old.budget → (NoRepeat up → ((u : List ℕ) → unwrap_or (told old.counts u) 0 ≤ old.spent) → Adds old.counts new.counts up) → (seen : List Chain) → IsTally old seen → ¬ (Mem seen this) → IsTally new (this ∷ seen)
  tally_more old new up eu room es eb adds seen t new_chain = record {
    different = (new_chain, t.different);
    counted = λ u. added u ∙ counted_more (goes_below u this) (how_many u seen) (told old.counts u) this (filter (goes_below u) seen) (t.counted u) refl;
    spent = let l : length (this ∷ seen) ≡ suc (length seen) = refl in omega (arith, es, t.spent, l);
    within = omega (arith, es, eb, room);
  }
    where
      short : (u : List ℕ) → unwrap_or (told old.counts u) 0 ≤ old.spent
      short u =
          let e : unwrap_or (told old.counts u) 0 ≡ how_many u seen = ap (λ (o : Option ℕ). unwrap_or o 0) (t.counted u) ∙ told_number (how_many u seen) in
          let h = how_many_short u seen in omega (arith, e, h, t.spent)

      added : Adds old.counts new.counts (above a cs)
      added = subst (λ (us : List (List ℕ)). Adds old.counts new.counts us) eu (adds (subst NoRepeat (sym eu) (above_apart w name a cs acc.descends acc.once)) short)

  -- It has none.
  pub over : (t : Tally) (seen : List Chain) → IsTally t seen → ¬ (t.spent < t.budget) → ((c : Chain) → Begins w name a cs c → ¬ (Mem seen c)) → Tallies (Begins w name a cs) seen t false
  over t seen k full unseen = record {
    chains = seen;
    tally = k;
    kept = λ c m. m;
    added = λ c m. inl m;
    all = λ e. absurd (let f : false ≡ true = e in cc);
    rest = λ _. (spent_all, this, here_begins w name a cs acc this refl, unseen this (here_begins w name a cs acc this refl));
  }
    where
      spent_all : t.spent ≡ t.budget
      spent_all = let h = k.within in omega (arith, h, full)

  -- This chain, before the files of its point.
  pub first : (t : Tally) (seen : List Chain) → IsTally t (this ∷ seen) → Tallies (UpTo (λ c. this ≡ c) (BeginsAt w name a cs) []) seen t true
  first t seen k = record {
    chains = this ∷ seen;
    tally = k;
    kept = λ c m. inr m;
    added = λ c m. elim m [ inl e ↦ inr (inl e) | inr s ↦ inl s ];
    all = λ _ c h. elim h [ inl e ↦ inl e | inr q ↦ absurd q.1 ];
    rest = λ e. absurd (let f : true ≡ false = e in cc);
  }

  -- By what adding the chain to the tally answers.
  pub add_over : (old new : Tally) (b : Bool) → b ≡ false → IsTrue b ↔ (old.spent < old.budget) → IsTrue b ⊎ (new ≡ old) → (seen : List Chain) → IsTally old seen → ((c : Chain) → Begins w name a cs c → ¬ (Mem seen c)) → Tallies (Begins w name a cs) seen new false
  add_over old new b e room none seen k unseen = elim none [
    | inl y ↦ absurd (let f : true ≡ false = sym y ∙ e in cc)
    | inr same ↦ subst (λ (t : Tally). Tallies (Begins w name a cs) seen t false) (sym same)
        (over old seen k (λ l. let f : true ≡ false = sym (room.1 l) ∙ e in cc) unseen)
  ]

  pub add_first : (old new : Tally) (b : Bool) → b ≡ true → IsTrue b ↔ (old.spent < old.budget) → (up : List (List ℕ)) → (IsTrue b → (new.spent ≡ old.spent + 1) × (NoRepeat up → ((u : List ℕ) → unwrap_or (told old.counts u) 0 ≤ old.spent) → Adds old.counts new.counts up)) → new.budget ≡ old.budget → up ≡ above a cs → (seen : List Chain) → IsTally old seen → ((c : Chain) → Begins w name a cs c → ¬ (Mem seen c)) → Tallies (UpTo (λ c. this ≡ c) (BeginsAt w name a cs) []) seen new true
  add_first old new b e room up added eb eu seen k unseen =
      let h = added e in
      first new seen (tally_more old new up eu (room.0 e) h.0 eb h.1 seen k (unseen this (here_begins w name a cs acc this refl)))

  -- No point stands at its end.
  pub alone : ((p : Point) → ¬ (Stands w a cs p)) → (t : Tally) (seen : List Chain) → Tallies (UpTo (λ c. this ≡ c) (BeginsAt w name a cs) []) seen t true → Tallies (Begins w name a cs) seen t true
  alone n t seen k = tallies_same (UpTo (λ c. this ≡ c) (BeginsAt w name a cs) []) (Begins w name a cs) seen t true k
      (λ c h. elim h [ inl e ↦ here_begins w name a cs acc c e | inr q ↦ absurd q.1 ])
      (λ c b. inl (begins_none w name a cs acc n c b))

  -- One stands there, and all of its files are done, or the budget is spent.
  pub all_files : (p : Point) → Stands w a cs p → (fs : List (List ℕ)) → ((u : List ℕ) → Mem fs u → Mem (files (last_of a cs).cert p.manifest) u) → ((u : List ℕ) → Mem (files (last_of a cs).cert p.manifest) u → Mem fs u) → (t : Tally) (seen : List Chain) (whole : Bool) → Tallies (UpTo (λ c. this ≡ c) (BeginsAt w name a cs) fs) seen t whole → Tallies (Begins w name a cs) seen t whole
  all_files p s fs to from t seen whole k = tallies_same (UpTo (λ c. this ≡ c) (BeginsAt w name a cs) fs) (Begins w name a cs) seen t whole k
      (λ c h. (begins_point w name a cs acc p s c).1 (elim h [ inl e ↦ inl e | inr q ↦ inr (q.0, to q.0 q.1, q.2) ]))
      (λ c b. elim ((begins_point w name a cs acc p s c).0 b) [ inl e ↦ inl e | inr q ↦ inr (q.0, from q.0 q.1, q.2) ])

  -- The next file's chains were not counted yet.
  pub file_fresh : (fs : List (List ℕ)) (i : ℕ) (d : List ℕ) → i < length fs → NoRepeat fs → (seen : List Chain) (mid : Tally) (t : Tallies (UpTo (λ c. this ≡ c) (BeginsAt w name a cs) (take i fs)) seen mid true) → ((c : Chain) → Begins w name a cs c → ¬ (Mem seen c)) → (c : Chain) → BeginsAt w name a cs (get_or fs i d) c → ¬ (Mem t.chains c)
  file_fresh fs i d l apart seen mid t unseen = fresh (λ c. this ≡ c) (BeginsAt w name a cs) fs i d l seen mid t
      (λ c b. unseen c (begins_up w name a cs (record { uri = get_or fs i d; cert = b.0 }) c b.1))
      (λ c b. begins_longer w name a cs (record { uri = get_or fs i d; cert = b.0 }) c b.1)
      (λ u m c b f. apart_take (λ v. v) fs i d (subst NoRepeat (sym (map_same fs)) apart) l u m (begins_one w name a cs (record { uri = u; cert = b.0 }) (record { uri = get_or fs i d; cert = f.0 }) c b.1 f.1))

-- What stands for what the code holds stands for the chain, and the other way round.
pub stands_by : (w : World) (name : List ℕ) (a : Link) (cs : List Link) (on : List (List ℕ)) (uri : List ℕ) (ca : Cert) (sets : Resources) → Stand name a cs (record { locator = name; chain = places a cs }) on uri ca sets → (p : Point) → StandsIn w (InSet sets) ca p → Stands w a cs p
stands_by w name a cs on uri ca sets st p s = stands_to (InSet sets) (Holds a cs) (λ k n. (st.holds k n).0) w (last_of a cs).cert p (subst (λ (l : Cert). StandsIn w (InSet sets) l p) st.ca_is s)

pub stands_back : (w : World) (name : List ℕ) (a : Link) (cs : List Link) (on : List (List ℕ)) (uri : List ℕ) (ca : Cert) (sets : Resources) → Stand name a cs (record { locator = name; chain = places a cs }) on uri ca sets → (p : Point) → Stands w a cs p → StandsIn w (InSet sets) ca p
stands_back w name a cs on uri ca sets st p s = subst (λ (l : Cert). StandsIn w (InSet sets) l p) (sym st.ca_is) (stands_to (Holds a cs) (InSet sets) (λ k n. (st.holds k n).1) w (last_of a cs).cert p s)

-- Which certificates go on with a file that is none of an authority below.
ends_of : {A P : Type 0} (cert : A → Cert) (sets : A → Resources) (payload : P → Payload) (w : World) (held : Kind → ℕ → Type 0) (ca : Cert) (p : Point) (on : List (List ℕ)) (file : List ℕ) (o : Outcome A P) → ((x : A) (k : List ℕ) → ¬ (o ≡ Does.Child x k)) → Classified cert sets payload w held ca p on file o → (c : Cert) → IsIssued w held ca p file c → Mem on c.tbs.subject_key_identifier ⊎ (w.depth ≤ length on)
ends_of cert sets payload w held ca p on file Does.Nothing n cl c i = absurd (ignored_issued w held ca p file cl c i)
ends_of cert sets payload w held ca p on file (Does.Refused why) n cl c i = refused_ends w held on ca p file why cl c i
ends_of cert sets payload w held ca p on file (Does.Attests x) n cl c i = absurd (good_issued w held ca p file (payload x) cl c i)
ends_of cert sets payload w held ca p on file (Does.Child x k) n cl c i = absurd (n x k refl)

-- What is done with a file, and which chains go on with it.
module _ {A P : Type 0} (cert : A → Cert) (sets : A → Resources) (payload : P → Payload) (w w' : World) (same : w' ≡ w) (name : List ℕ) (a : Link) (cs : List Link) (on : List (List ℕ)) (uri : List ℕ) (ca : Cert) (csets : Resources) (st : Stand name a cs (record { locator = name; chain = places a cs }) on uri ca csets) (p p0 : Point) (s : StandsIn w (InSet csets) ca p) (s0 : StandsIn w (InSet csets) ca p0) (file : List ℕ) (acc : Accepted w name a cs) (o : Outcome A P) (cl : Classified cert sets payload w' (InSet csets) ca p0 on file o) where
  stands : Stands w a cs p
  stands = stands_by w name a cs on uri ca csets st p s

  goes_with : (c : Chain) (b : BeginsAt w name a cs file c) → Accepted w name a (record { uri = file; cert = b.0 } ∷ cs)
  goes_with c b =
      let l : Link = record { uri = file; cert = b.0 } in
      accepted_front w name a (l ∷ cs) c.below b.1.front (accepted_so w name a (l ∷ cs) c b.1)

  issued_of : (c : Cert) → Accepted w name a (record { uri = file; cert = c } ∷ cs) → IsIssued w (Holds a cs) (last_of a cs).cert p file c
  issued_of c h =
      let d = h.descends in
      let e = one_point w (last_of a cs).cert d.1 p d.2.point stands.point in
      subst (λ (r : Point). IsIssued w (Holds a cs) (last_of a cs).cert r file c) e (record { extension = d.3.file.extension; reads = d.3.file.reads; child = d.3.child })

  -- None, where it is no authority's below.
  pub no_chain : ((x : A) (k : List ℕ) → ¬ (o ≡ Does.Child x k)) → (c : Chain) → ¬ (BeginsAt w name a cs file c)
  no_chain n c b =
      let h = goes_with c b in
      no_longer cert sets payload w w' same name a cs on uri ca csets st p p0 s s0 file (ends_of cert sets payload w' (InSet csets) ca p0 on file o n cl) b.0 (issued_of b.0 h) h

  -- Where it is, those that go on with its certificate.
  module _ (child : A) (key : List ℕ) (e : o ≡ Does.Child child key) where
    abbrev next : Link
    next = record { uri = file; cert = cert child }

    one_child : (c : Chain) → BeginsAt w name a cs file c → Begins w name a (next ∷ cs) c
    one_child c b =
        let k = subst (λ (q : Outcome A P). Classified cert sets payload w' (InSet csets) ca p0 on file q) e cl in
        let reads : CertAt w file (cert child) = subst (λ (v : World). CertAt v file (cert child)) same k.0.reads in
        let one : b.0 ≡ cert child = one_cert_at w file b.0 (cert child) (goes_with c b).descends.3.file.reads reads in
        subst (λ (d : Cert). let l : Link = record { uri = file; cert = d } in Begins w name a (l ∷ cs) c) one b.1

    pub child_counted : Mem (files ca p0.manifest) file → (more : List (List ℕ)) → more ≡ key ∷ on → (v : World) → v ≡ w → (up : List (List ℕ)) → up ≡ above a (next ∷ cs) → (mid new : Tally) (whole : Bool) → CountsFrom v up more file (cert child) (sets child) mid new whole → (seen : List Chain) → IsTally mid seen → ((c : Chain) → BeginsAt w name a cs file c → ¬ (Mem seen c)) → Tallies (BeginsAt w name a cs file) seen new whole
    child_counted listed more em v ev up eu mid new whole counts seen tally unseen =
        let k : CountsFrom w up more file (cert child) (sets child) mid new whole = subst (λ (u : World). CountsFrom u up more file (cert child) (sets child) mid new whole) ev counts in
        let t = k name a (next ∷ cs)
        (stand cert sets payload w w' same name a cs on uri ca csets st p p0 s s0 file acc o child key e cl listed more em) eu
        (goes_on cert sets payload w w' same name a cs on uri ca csets st p p0 s s0 file acc o child key e cl listed more em)
        seen tally (λ c b. unseen c (cert child, b)) in
        tallies_same (Begins w name a (next ∷ cs)) (BeginsAt w name a cs file) seen new whole t (λ c b. (cert child, b)) one_child

-- What is counted of the files of a point so far, whichever accepted chain the variables stand for.
abbrev pub CountsFiles : World → List (List ℕ) → List (List ℕ) → List ℕ → Cert → Resources → Tally → List (List ℕ) → Tally → Type 0
CountsFiles w up on uri ca sets old fs new =
    (name : List ℕ) (a : Link) (cs : List Link) → Stand name a cs (record { locator = name; chain = places a cs }) on uri ca sets → up ≡ above a cs → Accepted w name a cs
    → (seen : List Chain) → IsTally old seen → ((c : Chain) → Begins w name a cs c → ¬ (Mem seen c)) → Tallies (UpTo (λ c. here w name a cs ≡ c) (BeginsAt w name a cs) fs) seen new true

-- A file with which no chain goes on.
pub file_ended : {A P : Type 0} (cert : A → Cert) (sets : A → Resources) (payload : P → Payload) (w w' : World) → w' ≡ w → (up on : List (List ℕ)) (uri : List ℕ) (ca : Cert) (csets : Resources) (p : Point) → StandsIn w (InSet csets) ca p → (fs : List (List ℕ)) (i : ℕ) (d : List ℕ) → i < length fs
    → (o : Outcome A P) → Classified cert sets payload w' (InSet csets) ca p on (get_or fs i d) o → (old mid : Tally) → CountsFiles w up on uri ca csets old (take i fs) mid → (new : Tally) → new ≡ mid → ((x : A) (k : List ℕ) → ¬ (o ≡ Does.Child x k)) → CountsFiles w up on uri ca csets old (take (i + 1) fs) new
file_ended cert sets payload w w' same up on uri ca csets p s fs i d l o cl old mid before new e n name a cs st eu acc seen k unseen =
    let t = before name a cs st eu acc seen k unseen in
    subst (λ (q : Tally). Tallies (UpTo (λ c. here w name a cs ≡ c) (BeginsAt w name a cs) (take (i + 1) fs)) seen q true) (sym e)
    (tallies_next (λ c. here w name a cs ≡ c) (BeginsAt w name a cs) fs i d l seen mid t mid
    (tallies_none (BeginsAt w name a cs (get_or fs i d)) t.chains mid (no_chain cert sets payload w w' same name a cs on uri ca csets st p p s s (get_or fs i d) acc o cl n) t.tally))
