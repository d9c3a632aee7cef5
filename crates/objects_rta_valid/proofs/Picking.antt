-- What tables tell.
use Rattle.std.proofs.Common.{◌≡◌, ◌⊎◌, ℕ, ◌+◌, ◌<◌, Bool, true, false, cond, List, [], length, Option, Some, None, BTreeMap, Bor, bytes_eq, unwrap_or, inl, inr, refl, sym, ap, subst, ◌∙◌, arith}
use Rattle.std.specs.BTreeMap.{UpdatesBy}
use Rattle.std.specs.Cmp.Lexicographic.{slice_cmp}
use Rattle.std.specs.Ordering.{nat_cmp}
use Rattle.std.proofs.lemmas.Bool.{both_ways, cases_eq}
use Rattle.std.proofs.lemmas.Map.Text.{btree_map_updates_str}
use Rattle.std.proofs.lemmas.Slice.Eq.{bytes_eq-Decides}
use Rattle.objects_rta_valid.specs.Nodes.{Node, IsSelfSigned}
use Rattle.objects_rta_valid.specs.Paths.{At}
use Rattle.objects_rta_valid.specs.Tables.{Adds, Goes, IsEntry, IsTableOf, Picks, above_in, one_more, told}
use Rattle.objects_rta_valid.specs.declared.paths.table.Found.{Found}
use Rattle.objects_rta_valid.specs.declared.paths.table.Found.TheVariants.{Nothing, One, Several}
use Rattle.objects_rta_valid.specs.declared.paths.table.Table.{Table}
use Rattle.objects_rta_valid.proofs.Members.{at_inside, at_one, has_not}

pub picks_same : (P Q : ℕ → Type 0) (f : Found) → ((x : ℕ) → P x → Q x) → ((x : ℕ) → Q x → P x) → Picks P f → Picks Q f
picks_same P Q Nothing to back h = λ x q. h x (back x q)
picks_same P Q (One a) to back h = (to a h.0, λ x q. h.1 x (back x q))
picks_same P Q Several to back h = (h.0, h.1, h.2, to h.0 h.3, to h.1 h.4)

picks_more : (P Q : ℕ → Type 0) (f : Found) (i : ℕ) → (P i → ⊥) → ((x : ℕ) → P x → Q x) → Q i → ((x : ℕ) → Q x → P x ⊎ (x ≡ i)) → Picks P f → Picks Q (one_more f i)
picks_more P Q Nothing i new to here back h = (here, λ x q. go x (back x q))
  where
    go : (x : ℕ) → P x ⊎ (x ≡ i) → x ≡ i
    go x (inl p) = absurd (h x p)
    go x (inr e) = e
picks_more P Q (One a) i new to here back h = (a, i, λ e. new (subst P e h.0), to a h.0, here)
picks_more P Q Several i new to here back h = (h.0, h.1, h.2, to h.0 h.3, to h.1 h.4)

-- What a map tells after an insertion.
told_cond : (b : Bool) (f : Found) (o : Option Found) → unwrap_or (cond b (Some f) o) Nothing ≡ cond b f (unwrap_or o Nothing)
told_cond true f o = refl
told_cond false f o = refl

pub adds : (m n : BTreeMap (Bor (List ℕ)) Found) (key : List ℕ) (place : ℕ) (f : Found) → f ≡ one_more (told (record { found = m }) key) place → UpdatesBy (λ x y. slice_cmp nat_cmp x.now y.now) (λ k. slice_cmp nat_cmp key k.now) m n (Some f) → Adds (record { found = m }) (record { found = n }) key place
adds m n key place f e u k =
    ap (λ (o : Option Found). unwrap_or o Nothing) (btree_map_updates_str key m n (Some f) u k)
    ∙ (told_cond (bytes_eq key k) f _ ∙ ap (λ (g : Found). cond (bytes_eq key k) g (told (record { found = m }) k)) e)

-- The places of a key before that one.
abbrev pub IsEntryBefore : List Node → Bool → List ℕ → ℕ → ℕ → Type 0
IsEntryBefore nodes issuers key i place = (place < i) × IsEntry nodes issuers key place

abbrev pub TellsBefore : List Node → Bool → ℕ → Table → Type 0
TellsBefore nodes issuers i table = (key : List ℕ) → Picks (IsEntryBefore nodes issuers key i) (told table key)

pub tells_all : (nodes : List Node) (issuers : Bool) (i : ℕ) (table : Table) → i ≡ length nodes → TellsBefore nodes issuers i table → IsTableOf nodes issuers table
tells_all nodes issuers i table e h key =
    picks_same (IsEntryBefore nodes issuers key i) (IsEntry nodes issuers key) (told table key) (λ x p. p.1) (λ x q. (inside x q, q)) (h key)
  where
    inside : (x : ℕ) → IsEntry nodes issuers key x → x < i
    inside x q = let l : x < length nodes = at_inside nodes x q.node q.at in omega arith

module _ (nodes : List Node) (issuers : Bool) (i : ℕ) (c : Node) (at : At nodes i c) where
  -- A place that isn't a key's, behind those before it.
  passes : (key : List ℕ) (f : Found) → (IsEntry nodes issuers key i → ⊥) → Picks (IsEntryBefore nodes issuers key i) f → Picks (IsEntryBefore nodes issuers key (i + 1)) f
  passes key f isnt h =
      picks_same (IsEntryBefore nodes issuers key i) (IsEntryBefore nodes issuers key (i + 1)) f (λ x p. (let l : x < i = p.0 in omega arith, p.1)) back h
    where
      back : (x : ℕ) → IsEntryBefore nodes issuers key (i + 1) x → IsEntryBefore nodes issuers key i x
      back x q = go (cases_eq x i)
        where
          go : (x ≡ i) ⊎ (x ≡ i → ⊥) → IsEntryBefore nodes issuers key i x
          go (inl e) = absurd (isnt (subst (λ (y : ℕ). IsEntry nodes issuers key y) e q.1))
          go (inr ne) = (let l : x < i + 1 = q.0 in omega arith, q.1)

  pub tells_skipped : (table : Table) → issuers ≡ true → c.issues ≡ false → TellsBefore nodes issuers i table → TellsBefore nodes issuers (i + 1) table
  tells_skipped table only isnt h key = passes key (told table key) none (h key)
    where
      none : IsEntry nodes issuers key i → ⊥
      none q = both_ways c.issues isnt (ap (λ (n : Node). n.issues) (at_one nodes i c q.node at q.at) ∙ q.issues only)

  pub tells_added : (old new : Table) → (issuers ≡ true → c.issues ≡ true) → Adds old new c.subject i → TellsBefore nodes issuers i old → TellsBefore nodes issuers (i + 1) new
  tells_added old new may a h key = subst (λ (f : Found). Picks (IsEntryBefore nodes issuers key (i + 1)) f) (sym (a key)) (go (bytes_eq c.subject key) refl)
    where
      go : (b : Bool) → bytes_eq c.subject key ≡ b → Picks (IsEntryBefore nodes issuers key (i + 1)) (cond b (one_more (told old c.subject) i) (told old key))
      go true e =
          let same : c.subject ≡ key = (bytes_eq-Decides c.subject key).0 e in
          let here : IsEntry nodes issuers key i = record { node = c; at = at; subject = same; issues = may } in
          let before : Picks (IsEntryBefore nodes issuers key i) (told old c.subject) = subst (λ (k : List ℕ). Picks (IsEntryBefore nodes issuers key i) (told old k)) (sym same) (h key) in
          picks_more (IsEntryBefore nodes issuers key i) (IsEntryBefore nodes issuers key (i + 1)) (told old c.subject) i (λ p. let l : i < i = p.0 in absurd (omega arith)) (λ x p. (let l : x < i = p.0 in omega arith, p.1)) (omega arith, here) back before
        where
          back : (x : ℕ) → IsEntryBefore nodes issuers key (i + 1) x → IsEntryBefore nodes issuers key i x ⊎ (x ≡ i)
          back x q = by_case (cases_eq x i)
            where
              by_case : (x ≡ i) ⊎ (x ≡ i → ⊥) → IsEntryBefore nodes issuers key i x ⊎ (x ≡ i)
              by_case (inl e) = inr e
              by_case (inr ne) = inl (let l : x < i + 1 = q.0 in omega arith, q.1)
      go false e = passes key (told old key) none (h key)
        where
          none : IsEntry nodes issuers key i → ⊥
          none q =
              let same : c.subject ≡ key = ap (λ (n : Node). n.subject) (at_one nodes i c q.node at q.at) ∙ q.subject in
              both_ways (bytes_eq c.subject key) e ((bytes_eq-Decides c.subject key).1 same)

-- The table of authorities' certificates tells where a path goes on.
pub above_picks : (nodes : List Node) (table : Table) (c : Node) → IsTableOf nodes true table → Picks (Goes nodes c) (above_in table c.subject c.authority)
above_picks nodes table c is = go c.authority refl
  where
    go : (o : Option (List ℕ)) → c.authority ≡ o → Picks (Goes nodes c) (above_in table c.subject o)
    go None e = λ x g. g.0 (inl e)
    go (Some key) e = named (bytes_eq key c.subject) refl
      where
        named : (b : Bool) → bytes_eq key c.subject ≡ b → Picks (Goes nodes c) (cond b Nothing (told table key))
        named true t =
            let self : IsSelfSigned c = inr (e ∙ ap (λ (k : List ℕ). let o : Option (List ℕ) = Some k in o) ((bytes_eq-Decides key c.subject).0 t)) in
            λ x g. g.0 self
        named false t = picks_same (IsEntry nodes true key) (Goes nodes c) (told table key) to back (is key)
          where
            no_self : IsSelfSigned c → ⊥
            no_self (inl n) = let both : Some key ≡ None = sym e ∙ n in cc
            no_self (inr b) =
                let both : Some key ≡ Some c.subject = sym e ∙ b in
                let same : key ≡ c.subject = cc in
                both_ways (bytes_eq key c.subject) t ((bytes_eq-Decides key c.subject).1 same)

            to : (x : ℕ) → IsEntry nodes true key x → Goes nodes c x
            to x q =
                (no_self, record { parent = q.node; at = q.at; issues = q.issues refl; below = e ∙ ap (λ (k : List ℕ). let o : Option (List ℕ) = Some k in o) (sym q.subject); unseen = λ h. has_not [] x refl h })

            back : (x : ℕ) → Goes nodes c x → IsEntry nodes true key x
            back x g =
                let both : Some key ≡ Some g.1.parent.subject = sym e ∙ g.1.below in
                let same : g.1.parent.subject ≡ key = cc in
                record { node = g.1.parent; at = g.1.at; subject = same; issues = λ t. g.1.issues }
