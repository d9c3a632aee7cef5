-- Fronts of paths: what is had of a path while it is followed.
use Rattle.std.proofs.Common.{◌≡◌, ◌≢◌, ◌⊎◌, ℕ, ◌||◌, Bool, true, false, nat_eq, List, [], ◌∷◌, ◌++◌, Option, Some, Contains, append_assoc, append-nil, inl, inr, refl, sym, ap, subst, ◌∙◌}
use Rattle.std.proofs.lemmas.Bool.{both_ways, eqb-true}
use Rattle.std.proofs.lemmas.List.{append_cancel_left}
use Rattle.std.proofs.lemmas.List.Folds.{list_any-append}
use Rattle.objects_rta_valid.specs.Nodes.{Node, IsBelow, IsSelfSigned}
use Rattle.objects_rta_valid.specs.Paths.{At, Continues, Follows, HasNoOnlyPath, IsOnlyPath, IsPath}
use Rattle.objects_rta_valid.specs.OnPaths.{has}
use Rattle.objects_rta_valid.specs.Tables.{Goes, IsEntry, IsFirst, Picks}
use Rattle.objects_rta_valid.specs.declared.paths.table.Found.TheVariants.{Nothing, One, Several}
use Rattle.objects_rta_valid.proofs.Completing.{goes_on}
use Rattle.objects_rta_valid.proofs.Deciding.{self_told}
use Rattle.objects_rta_valid.proofs.Members.{at_one, has_from, has_not, has_to}

-- No other authority has the key of one of these places.
abbrev pub AreAlone : List Node → List ℕ → Type 0
AreAlone nodes seen =
    (x y : ℕ) (p q : Node) → Contains seen x → At nodes x p → At nodes y q → q.issues ≡ true → q.subject ≡ p.subject → y ≡ x

-- All paths of the signer begin with these places, the last of which is c's, and whatever follows c makes one of them.
pub record Front (nodes : List Node) (sid : List ℕ) (path : List ℕ) (c : Node) : Type 0 where
  pub seen : List ℕ
  pub same : (x : ℕ) → has seen x ≡ has path x
  pub onto : (rest : List ℕ) → Follows nodes seen c rest → IsPath nodes sid (path ++ rest)
  pub from : (others : List ℕ) → IsPath nodes sid others → (rest : List ℕ) × (others ≡ path ++ rest) × Follows nodes seen c rest
  pub alone : AreAlone nodes seen

in_one : (x y : ℕ) → Contains (y ∷ []) x → x ≡ y
in_one x y h = go (has_from (y ∷ []) x h)
  where
    go : has (y ∷ []) x ≡ true → x ≡ y
    go e = by_case (nat_eq x y) refl
      where
        by_case : (t : Bool) → nat_eq x y ≡ t → x ≡ y
        by_case true t = eqb-true x y t
        by_case false t = absurd (both_ways (nat_eq x y || false) (ap (λ (b : Bool). b || false) t) e)

pub front_first : (nodes : List Node) (sid : List ℕ) (first : ℕ) (f : IsFirst nodes sid first) → Front nodes sid (first ∷ []) f.0.node
front_first nodes sid first f = record { seen = first ∷ []; same = λ x. refl; onto = λ rest h. (c, f.0.at, f.0.subject, h); from = from; alone = alone }
  where
    c : Node
    c = f.0.node

    from : (others : List ℕ) → IsPath nodes sid others → (rest : List ℕ) × (others ≡ (first ∷ []) ++ rest) × Follows nodes (first ∷ []) c rest
    from [] h = absurd h
    from (place ∷ places) h =
        let same : place ≡ first = f.1 place (record { node = h.0; at = h.1; subject = h.2; issues = λ e. absurd cc }) in
        let node : h.0 ≡ c = at_one nodes first h.0 c (subst (λ (x : ℕ). At nodes x h.0) same h.1) f.0.at in
        let one : Follows nodes (place ∷ []) c places = subst (λ (n : Node). Follows nodes (place ∷ []) n places) node h.3 in
        (places, ap (λ (x : ℕ). x ∷ places) same, subst (λ (x : ℕ). Follows nodes (x ∷ []) c places) same one)

    alone : AreAlone nodes (first ∷ [])
    alone x y p q h at_x at_y issues same =
        let e : x ≡ first = in_one x first h in
        let node : p ≡ c = at_one nodes first p c (subst (λ (z : ℕ). At nodes z p) e at_x) f.0.at in
        let subject : q.subject ≡ sid = same ∙ (ap (λ (n : Node). n.subject) node ∙ f.0.subject) in
        f.1 y (record { node = q; at = at_y; subject = subject; issues = λ t. issues }) ∙ sym e

-- A path goes on where it may, but for what was seen.
abbrev pub goes_of : (nodes : List Node) (seen : List ℕ) (c : Node) (place : ℕ) → (IsSelfSigned c → ⊥) → Continues nodes seen c place → Goes nodes c place
goes_of nodes seen c place isnt h = (isnt, record { parent = h.parent; at = h.at; issues = h.issues; below = h.below; unseen = λ e. has_not [] place refl e })

abbrev pub of_goes : (nodes : List Node) (seen : List ℕ) (c : Node) (place : ℕ) → Goes nodes c place → (Contains seen place → ⊥) → Continues nodes seen c place
of_goes nodes seen c place g unseen = record { parent = g.1.parent; at = g.1.at; issues = g.1.issues; below = g.1.below; unseen = unseen }

same_subject : (c p q : Node) → IsBelow c p → IsBelow c q → q.subject ≡ p.subject
same_subject c p q a b = let e : Some q.subject ≡ Some p.subject = sym b ∙ a in cc

or_swap : (a b : Bool) → (a || b) ≡ (b || (a || false))
or_swap true true = refl
or_swap true false = refl
or_swap false true = refl
or_swap false false = refl

module _ (nodes : List Node) (sid : List ℕ) (path : List ℕ) (c : Node) (front : Front nodes sid path c) where
  -- One place that it may go on at, not seen yet.
  pub front_next : (next : ℕ) (p : Node) → Picks (Goes nodes c) (One next) → has path next ≡ false → At nodes next p → Front nodes sid (path ++ next ∷ []) p
  front_next next p only new at =
      record { seen = next ∷ front.seen; same = same; onto = onto; from = from; alone = alone }
    where
      unseen : Contains front.seen next → ⊥
      unseen h = has_not front.seen next (front.same next ∙ new) h

      continues : Continues nodes front.seen c next
      continues = of_goes nodes front.seen c next only.0 unseen

      parent : only.0.1.parent ≡ p
      parent = at_one nodes next only.0.1.parent p only.0.1.at at

      same : (x : ℕ) → has (next ∷ front.seen) x ≡ has (path ++ next ∷ []) x
      same x =
          ap (λ (t : Bool). nat_eq x next || t) (front.same x)
          ∙ (or_swap (nat_eq x next) (has path x) ∙ sym (list_any-append (nat_eq x) path (next ∷ [])))

      onto : (rest : List ℕ) → Follows nodes (next ∷ front.seen) p rest → IsPath nodes sid ((path ++ next ∷ []) ++ rest)
      onto rest h =
          let behind : Follows nodes (next ∷ front.seen) only.0.1.parent rest = subst (λ (n : Node). Follows nodes (next ∷ front.seen) n rest) (sym parent) h in
          let whole : IsPath nodes sid (path ++ (next ∷ rest)) = front.onto (next ∷ rest) (only.0.0, continues, behind) in
          subst (λ (ps : List ℕ). IsPath nodes sid ps) (sym (append_assoc path (next ∷ []) rest)) whole

      from : (others : List ℕ) → IsPath nodes sid others → (rest : List ℕ) × (others ≡ (path ++ next ∷ []) ++ rest) × Follows nodes (next ∷ front.seen) p rest
      from others h = go (front.from others h).0 (front.from others h).1 (front.from others h).2
        where
          go : (rest : List ℕ) → others ≡ path ++ rest → Follows nodes front.seen c rest → (rest : List ℕ) × (others ≡ (path ++ next ∷ []) ++ rest) × Follows nodes (next ∷ front.seen) p rest
          go [] e (inl self) = absurd (only.0.0 self)
          go [] e (inr none) = absurd (none next continues)
          go (q ∷ rest) e f =
              let is : q ≡ next = only.1 q (goes_of nodes front.seen c q f.0 f.1) in
              let node : f.1.parent ≡ p = at_one nodes next f.1.parent p (subst (λ (x : ℕ). At nodes x f.1.parent) is f.1.at) at in
              let one : Follows nodes (q ∷ front.seen) p rest = subst (λ (n : Node). Follows nodes (q ∷ front.seen) n rest) node f.2 in
              let two : Follows nodes (next ∷ front.seen) p rest = subst (λ (x : ℕ). Follows nodes (x ∷ front.seen) p rest) is one in
              (rest, e ∙ (ap (λ (x : ℕ). path ++ (x ∷ rest)) is ∙ sym (append_assoc path (next ∷ []) rest)), two)

      alone : AreAlone nodes (next ∷ front.seen)
      alone x y a b h at_x at_y issues e = go (nat_eq x next) refl
        where
          go : (t : Bool) → nat_eq x next ≡ t → y ≡ x
          go true t =
              let is : x ≡ next = eqb-true x next t in
              let node : a ≡ only.0.1.parent = at_one nodes next a only.0.1.parent (subst (λ (z : ℕ). At nodes z a) is at_x) only.0.1.at in
              let below : IsBelow c b = only.0.1.below ∙ ap (λ (s : List ℕ). let o : Option (List ℕ) = Some s in o) (ap (λ (n : Node). n.subject) (sym node) ∙ sym e) in
              only.1 y (only.0.0, record { parent = b; at = at_y; issues = issues; below = below; unseen = λ i. has_not [] y refl i }) ∙ sym is
          go false t =
              let in_rest : has front.seen x ≡ true = ap (λ (u : Bool). u || has front.seen x) (sym t) ∙ has_from (next ∷ front.seen) x h in
              front.alone x y a b (has_to front.seen x in_rest) at_x at_y issues e

  end : Follows nodes front.seen c [] → ((rest : List ℕ) → Follows nodes front.seen c rest → rest ≡ []) → IsOnlyPath nodes sid path
  end ends none =
      record { is = subst (λ (ps : List ℕ). IsPath nodes sid ps) (append-nil path) (front.onto [] ends); only = only }
    where
      only : (others : List ℕ) → IsPath nodes sid others → others ≡ path
      only others h =
          let f = front.from others h in
          f.1 ∙ (ap (λ (rest : List ℕ). path ++ rest) (none f.0 f.2) ∙ append-nil path)

  -- No place that it may go on at.
  pub front_end : Picks (Goes nodes c) Nothing → IsOnlyPath nodes sid path
  front_end none = end (ends (self_told c)) stops
    where
      ends : IsSelfSigned c ⊎ (IsSelfSigned c → ⊥) → Follows nodes front.seen c []
      ends (inl is) = inl is
      ends (inr isnt) = inr (λ place h. none place (goes_of nodes front.seen c place isnt h))

      stops : (rest : List ℕ) → Follows nodes front.seen c rest → rest ≡ []
      stops [] h = refl
      stops (place ∷ rest) h = absurd (none place (goes_of nodes front.seen c place h.0 h.1))

  -- One, which is on the path already.
  pub front_closed : (next : ℕ) → Picks (Goes nodes c) (One next) → has path next ≡ true → IsOnlyPath nodes sid path
  front_closed next only old = end (inr (λ place h. none place only.0.0 h)) stops
    where
      none : (place : ℕ) → (IsSelfSigned c → ⊥) → Continues nodes front.seen c place → ⊥
      none place isnt h =
          let is : place ≡ next = only.1 place (goes_of nodes front.seen c place isnt h) in
          h.unseen (has_to front.seen place (ap (λ (x : ℕ). has front.seen x) is ∙ (front.same next ∙ old)))

      stops : (rest : List ℕ) → Follows nodes front.seen c rest → rest ≡ []
      stops [] h = refl
      stops (place ∷ rest) h = absurd (none place h.0 h.1)

  -- More than one: none of them was seen, so each makes a path of its own.
  pub front_forks : Picks (Goes nodes c) Several → HasNoOnlyPath nodes sid
  front_forks forks places only = forks.2 same
    where
      a : ℕ
      a = forks.0

      b : ℕ
      b = forks.1

      unseen : (x y : ℕ) → x ≢ y → Goes nodes c x → Goes nodes c y → Contains front.seen x → ⊥
      unseen x y apart gx gy h =
          apart (sym (front.alone x y gx.1.parent gy.1.parent h gx.1.at gy.1.at gy.1.issues (same_subject c gx.1.parent gy.1.parent gx.1.below gy.1.below)))

      path_by : (x : ℕ) (g : Goes nodes c x) → (Contains front.seen x → ⊥) → (rest : List ℕ) × IsPath nodes sid (path ++ (x ∷ rest))
      path_by x g new =
          let behind = goes_on nodes (x ∷ front.seen) g.1.parent in
          (behind.0, front.onto (x ∷ behind.0) (g.0, of_goes nodes front.seen c x g new, behind.1))

      same : a ≡ b
      same =
          let one = path_by a forks.3 (unseen a b forks.2 forks.3 forks.4) in
          let two = path_by b forks.4 (unseen b a (λ e. forks.2 (sym e)) forks.4 forks.3) in
          let e : path ++ (a ∷ one.0) ≡ path ++ (b ∷ two.0) = only.only _ one.1 ∙ sym (only.only _ two.1) in
          let f : (a ∷ one.0) ≡ (b ∷ two.0) = append_cancel_left path (a ∷ one.0) (b ∷ two.0) e in
          cc

-- A signer without a certificate has no path, and one with more than one has more than one.
pub none_first : (nodes : List Node) (sid : List ℕ) → Picks (IsEntry nodes false sid) Nothing → HasNoOnlyPath nodes sid
none_first nodes sid none places only = go places only.is
  where
    go : (ps : List ℕ) → IsPath nodes sid ps → ⊥
    go [] h = h
    go (place ∷ ps) h = none place (record { node = h.0; at = h.1; subject = h.2; issues = λ e. absurd cc })

pub several_first : (nodes : List Node) (sid : List ℕ) → Picks (IsEntry nodes false sid) Several → HasNoOnlyPath nodes sid
several_first nodes sid forks places only = forks.2 same
  where
    path_by : (x : ℕ) → IsEntry nodes false sid x → (rest : List ℕ) × IsPath nodes sid (x ∷ rest)
    path_by x h = let behind = goes_on nodes (x ∷ []) h.node in (behind.0, (h.node, h.at, h.subject, behind.1))

    same : forks.0 ≡ forks.1
    same =
        let one = path_by forks.0 forks.3 in
        let two = path_by forks.1 forks.4 in
        let f : (forks.0 ∷ one.0) ≡ (forks.1 ∷ two.0) = only.only _ one.1 ∙ sym (only.only _ two.1) in
        cc
