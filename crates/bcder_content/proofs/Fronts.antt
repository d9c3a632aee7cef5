-- Octets have one text of a grammar in front at most, and it is read in one way, whatever the mode.
use Rattle.std.proofs.Common.{◌≡◌, ℕ, true, List, [], ◌∷◌, ◌++◌, length, refl, sym, ap, ◌∙◌, subst, append_assoc, length-append, arith}
use Rattle.bcder_content.specs.bcder_tree.declared.mode.Mode.{Mode}
use Rattle.bcder_content.specs.bcder_tree.declared.mode.Mode.TheVariants.{Der}
use Rattle.bcder_content.specs.bcder_tree.Tags.{TagValue, IsTag}
use Rattle.bcder_content.specs.bcder_tree.Octets.{IsIdentifier}
use Rattle.bcder_content.specs.bcder_tree.Tree.{Tree, Trees, Spells, IsHeader, IsConstructed, definite, indefinite}
use Rattle.bcder_content.specs.bcder_tree.Front.{Front, Fields, Splits}
use Rattle.bcder_content.proofs.of_bcder_tree.Unique.{by_length}
use Rattle.bcder_content.proofs.of_bcder_tree.Parts.{Opens, Ends, one_split, not_mixed, one_open}
use Rattle.bcder_content.proofs.of_bcder_tree.Trees.{one_tree, one_trees}
use Rattle.bcder_content.specs.Grammar.{One, OneAll}
use Rattle.bcder_content.specs.Texts.{SpellsOf, InOrder, WithOctets, Wraps, Joins, NoOctets, InFront, ReadsFront}

-- Two texts of P in front of the same octets are one, whatever comes after them.
pub record OneFront {A : Type 0} (P : List ℕ → A → Type 0) : Type 0 where
  pub one : (a b u v : List ℕ) (x y : A) → P a x → P b y → a ++ u ≡ b ++ v → (a ≡ b) × (x ≡ y)

-- Two texts of P in front of the same octets are one, where no value begins after them.
pub record OneBefore {A : Type 0} (P : List ℕ → A → Type 0) : Type 0 where
  pub one : (a b u v : List ℕ) (x y : A) → Ends u → Ends v → P a x → P b y → a ++ u ≡ b ++ v → (a ≡ b) × (x ≡ y)

-- What stands in front of the same.
pub same_front : (a b u v : List ℕ) → u ≡ v → a ++ u ≡ b ++ v → a ≡ b
same_front a b u v e w = (by_length a b u v (omega (arith, ap length e, ap length w, length-append a u, length-append b v)) w).front

pub front_before : {A : Type 0} {P : List ℕ → A → Type 0} → OneFront P → OneBefore P
front_before o = record { one = λ a b u v x y p q r s e. o.one a b u v x y r s e }

pub spells_one : {A : Type 0} {m : Mode} {Q : Tree → A → Type 0} → One Q → OneFront (SpellsOf m Q)
spells_one {A} {m} {Q} o = record { one = at }
  where
    front : {m : Mode} {t : Tree} (a u s : List ℕ) → Spells m t a → s ≡ a ++ u → Front m s t u
    front a u s p e = record { text = a; spelled = p; whole = e }

    at : (a b u v : List ℕ) (x y : A) → SpellsOf m Q a x → SpellsOf m Q b y → a ++ u ≡ b ++ v → (a ≡ b) × (x ≡ y)
    at a b u v x y p q e =
        let t = one_tree p.tree q.tree (front a u (a ++ u) p.spelled refl) (front b v (a ++ u) q.spelled e) in
        (same_front a b u v t.1 e, o.one q.tree x y (subst (λ (z : Tree). Q z x) t.0 p.is) q.is)

pub order_one : {A : Type 0} {m : Mode} {P : Trees → A → Type 0} → OneAll P → OneBefore (InOrder m P)
order_one {A} {m} {P} o = record { one = at }
  where
    at : (a b u v : List ℕ) (x y : A) → Ends u → Ends v → InOrder m P a x → InOrder m P b y → a ++ u ≡ b ++ v → (a ≡ b) × (x ≡ y)
    at a b u v x y f g p q e =
        let left : Fields m a p.trees = record { spelled = p.spelled } in
        let right : Fields m b q.trees = record { spelled = q.spelled } in
        let t = one_trees p.trees q.trees u v left right f g e in
        (same_front a b u v t.1 e, o.one q.trees x y (subst (λ (z : Trees). P z x) t.0 p.is) q.is)

pub none_one : OneBefore NoOctets
none_one = record { one = λ a b u v x y f g p q e. (p.none ∙ sym q.none, refl) }

pub octets_too : {A : Type 0} {P : List ℕ → A → Type 0} → OneFront P → OneFront (WithOctets P)
octets_too {A} {P} o = record { one = at }
  where
    at : (a b u v : List ℕ) (x y : List ℕ × A) → WithOctets P a x → WithOctets P b y → a ++ u ≡ b ++ v → (a ≡ b) × (x ≡ y)
    at a b u v x y p q e =
        let r = o.one a b u v x.1 y.1 p.is q.is e in
        (r.0, ap (λ (z : List ℕ). (z, x.1)) (p.same ∙ r.0 ∙ sym q.same) ∙ ap (λ (z : A). (y.0, z)) r.1)

pub octets_too_before : {A : Type 0} {P : List ℕ → A → Type 0} → OneBefore P → OneBefore (WithOctets P)
octets_too_before {A} {P} o = record { one = at }
  where
    at : (a b u v : List ℕ) (x y : List ℕ × A) → Ends u → Ends v → WithOctets P a x → WithOctets P b y → a ++ u ≡ b ++ v → (a ≡ b) × (x ≡ y)
    at a b u v x y f g p q e =
        let r = o.one a b u v x.1 y.1 f g p.is q.is e in
        (r.0, ap (λ (z : List ℕ). (z, x.1)) (p.same ∙ r.0 ∙ sym q.same) ∙ ap (λ (z : A). (y.0, z)) r.1)

pub joins_one : {A B : Type 0} {P : List ℕ → A → Type 0} {R : List ℕ → B → Type 0} → OneFront P → OneBefore R → OneBefore (Joins P R)
joins_one {A} {B} {P} {R} o r = record { one = at }
  where
    at : (a b u v : List ℕ) (x y : A × B) → Ends u → Ends v → Joins P R a x → Joins P R b y → a ++ u ≡ b ++ v → (a ≡ b) × (x ≡ y)
    at a b u v x y f g p q e =
        let w : p.first ++ (p.others ++ u) ≡ q.first ++ (q.others ++ v) = sym (append_assoc p.first p.others u) ∙ ap (λ (z : List ℕ). z ++ u) (sym p.whole) ∙ e ∙ ap (λ (z : List ℕ). z ++ v) q.whole ∙ append_assoc q.first q.others v in
        let s = o.one p.first q.first (p.others ++ u) (q.others ++ v) x.0 y.0 p.is q.is w in
        let w1 : p.others ++ u ≡ q.others ++ v = (by_length p.first q.first (p.others ++ u) (q.others ++ v) (ap length s.0) w).rest in
        let t = r.one p.others q.others u v x.1 y.1 f g p.rest q.rest w1 in (
          p.whole ∙ ap (λ (z : List ℕ). z ++ p.others) s.0 ∙ ap (λ (z : List ℕ). q.first ++ z) t.0 ∙ sym q.whole,
          ap (λ (z : A). (z, x.1)) s.1 ∙ ap (λ (z : B). (y.0, z)) t.1,
        )

pub wraps_one : {A : Type 0} {m : Mode} {tag : TagValue} {P : List ℕ → A → Type 0} → OneBefore P → OneFront (Wraps m tag P)
wraps_one {A} {m} {tag} {P} o = record { one = λ a b u v x y p q e. let r = at a b u v x y p.content q.content p.around q.around p.is q.is e in (same_front a b u v r.0 e, r.1) }
  where
    splits : {t : TagValue} (s a h c u : List ℕ) → IsHeader m h true t (length c) → a ≡ h ++ c → s ≡ a ++ u → Splits m s true t c u
    splits s a h c u i e w = record { header = h; header_is = i; whole = w ∙ ap (λ (z : List ℕ). z ++ u) e ∙ append_assoc h c u }

    opens : {t : TagValue} (s a i c u : List ℕ) → IsTag t → IsIdentifier i true t → a ≡ i ++ (128 ∷ c ++ (0 ∷ 0 ∷ [])) → s ≡ a ++ u → Opens s t c u
    opens s a i c u g h e w = record { identifier = i; tag = g; identifier_is = h; whole = w ∙ ap (λ (z : List ℕ). z ++ u) e ∙ append_assoc i (128 ∷ c ++ (0 ∷ 0 ∷ [])) u ∙ ap (λ (z : List ℕ). i ++ (128 ∷ z)) (append_assoc c (0 ∷ 0 ∷ []) u) }

    at : (a b u v : List ℕ) (x y : A) (c d : List ℕ) → IsConstructed m a tag c → IsConstructed m b tag d → P c x → P d y → a ++ u ≡ b ++ v → (u ≡ v) × (x ≡ y)
    at a b u v x y c d (definite f h i j) (definite g k l n) p q e =
        let s = one_split (splits (a ++ u) a h c u i j refl) (splits (a ++ u) b k d v l n e) in
        let w : c ++ [] ≡ d ++ [] = ap (λ (z : List ℕ). z ++ []) s.content in
        (s.behind, (o.one c d [] [] x y tt tt p q w).1)
    at a b u v x y c d (indefinite f h i j r) (indefinite g k l n s) p q e =
        let t = one_open (opens (a ++ u) a h c u i j r refl) (opens (a ++ u) b k d v l n s e) in
        let z = o.one c d (0 ∷ 0 ∷ u) (0 ∷ 0 ∷ v) x y refl refl p q t.1 in
        let w : 0 ∷ 0 ∷ u ≡ 0 ∷ 0 ∷ v = (by_length c d (0 ∷ 0 ∷ u) (0 ∷ 0 ∷ v) (ap length z.0) t.1).rest in
        (cc, z.1)
    at a b u v x y c d (definite f h i j) (indefinite g k l n s) p q e = absurd (not_mixed (splits (a ++ u) a h c u i j refl) (opens (a ++ u) b k d v l n s e))
    at a b u v x y c d (indefinite f h i j r) (definite g k l n) p q e = absurd (not_mixed (splits (a ++ u) b k d v l n e) (opens (a ++ u) a h c u i j r refl))

-- So octets read in one way.
pub in_front_one : {A : Type 0} {P : List ℕ → A → Type 0} → OneFront P → (octets : List ℕ) (x y : A) → InFront P octets x → InFront P octets y → x ≡ y
in_front_one o octets x y p q = (o.one p.text q.text p.rest q.rest x y p.is q.is (sym p.whole ∙ q.whole)).1

-- What was decoded in DER stands in front of the octets, and where nothing was decoded nothing stands there.
pub front_reads : {A : Type 0} {Q : Tree → A → Type 0} {o : List ℕ} {x : A} → (t : Tree) × (rest : List ℕ) × Front Der o t rest × Q t x → ReadsFront Q o x
front_reads d = record { text = d.2.text; rest = d.1; whole = d.2.whole; is = record { tree = d.0; is = d.3; spelled = d.2.spelled } }

pub front_lacks : {A : Type 0} {Q : Tree → A → Type 0} {o : List ℕ} → ((t : Tree) (x : A) (rest : List ℕ) → Q t x → Front Der o t rest → ⊥) → (x : A) → ReadsFront Q o x → ⊥
front_lacks refuses x p = refuses p.is.tree x p.rest p.is.is (record { text = p.text; spelled = p.is.spelled; whole = p.whole })
