-- The first of the entries that octets spell.
use Rattle.std.proofs.Common.{◌≡◌, ◌≢◌, ℕ, ◌<◌, List, [], ◌∷◌, ◌++◌, length, drop, Ok, Err, Option, Some, None, refl, sym, ap, ◌∙◌, subst, arith}
use Rattle.std.specs.Prelude.{IfNone, IfSome}
use Rattle.std.specs.Iterator.{YieldsFirst}
use denote.Ref.{MutBor}
use Rattle.std.proofs.Math.Logic.{∥∥₁_elim}
use Rattle.std.proofs.Math.Seq.{drop-append_seam}
use Rattle.std.specs.Coded.{Coded-set, coded_list}
use Rattle.std.specs.declared.convert.Infallible.{Infallible}
use Rattle.certs_x509.specs.bcder_tree.declared.mode.Mode.{Mode}
use Rattle.certs_x509.specs.bcder_tree.Front.{Front}
use Rattle.certs_x509.specs.bcder_tree.Tags.{sequence_tag}
use Rattle.certs_x509.specs.bcder_tree.Tree.{SpellsAll, Tree, Trees, none, more}
use Rattle.certs_x509.specs.bcder_source.Errors.{OnContent}
use Rattle.certs_x509.specs.bcder_source.Views.{Reading, left}
use Rattle.certs_x509.specs.bcder_source.declared.error.DecodeError.{DecodeError}
use Rattle.certs_x509.specs.bcder_source.declared.error.DecodeError.TheVariants.{Memory}
use Rattle.certs_x509.specs.bcder_content.declared.constructed.Constructed.{Constructed}
use Rattle.certs_x509.specs.bcder_content.Captures.{rest_of, ReadsFront, RefusesFront}
use Rattle.certs_x509.specs.bcder_content.Contents.{TookAll, ValuesLeft, octets}
use Rattle.certs_x509.specs.bcder_content.Exact.{Gives, LacksTagged}
use Rattle.certs_x509.specs.bcder_content.Here.{here}
use Rattle.certs_x509.specs.bcder_content.Kept.{CapturedValue}
use Rattle.certs_x509.specs.bcder_content.ClosureReads.{Reader, fresh}
use Rattle.certs_x509.proofs.of_bcder_content.Forests.{Perhaps, absent, there}
use Rattle.certs_x509.proofs.of_bcder_content.Kept.{same_text}
use Rattle.certs_x509.proofs.of_bcder_content.Took.{ended_none, took_front, took_none, took_one}
use Rattle.certs_x509.proofs.of_bcder_source.Moves.{left_moved}
use Rattle.certs_x509.proofs.of_bcder_tree.Trees.{one_tree}
use Rattle.certs_extension.specs.CrlText.{IsRevoked, RevokedValue}
use Rattle.certs_x509.specs.Listed.{SpellsEntries, captured}
use Rattle.certs_x509.specs.Listing.{Listing, entry_one, one_listing, revoked_code}
use Rattle.certs_x509.proofs.Lists.{left_none, spelled_is}
use Rattle.certs_x509.proofs.Searches.{fresh_left, no_refusal, ran_met}

-- What was read, if anything, are values.
pub entry_taken : (v w : ValuesLeft) (o : Option RevokedValue) → Perhaps (λ e. e) sequence_tag IsRevoked v o w → (ts : Trees) × TookAll v ts w
entry_taken v w None h = (none, subst (λ (z : ValuesLeft). TookAll v none z) (sym h.0) (took_none h.1.sound))
entry_taken v w (Some e) g = (more g.tree none, took_one g.took)

-- The octets spell a first entry, and others after it.
record Firsts (m : Mode) (o : List ℕ) (e : RevokedValue) (others : List RevokedValue) : Type 0 where
  tree : Tree
  rest : List ℕ
  is : IsRevoked tree e
  front : Front m o tree rest
  spelled : SpellsEntries (captured m rest) others

firsts : (m : Mode) (o : List ℕ) (e : RevokedValue) (others : List RevokedValue) → SpellsEntries (captured m o) (e ∷ others) → Firsts m o e others
firsts m o e others s =
    let p = s.is.cases in
    let all = subst (λ (ts : Trees). SpellsAll m ts o) p.2 s.spelled in
    record {
      tree = p.0;
      rest = all.1;
      is = p.3;
      front = record { text = all.0; spelled = all.2; whole = all.4 };
      spelled = record { trees = p.1; is = record { cases = p.4 }; spelled = all.3 };
    }

none_octets : (m : Mode) (o : List ℕ) → SpellsEntries (captured m o) [] → o ≡ []
none_octets m o s = subst (λ (ts : Trees). SpellsAll m ts o) s.is.cases s.spelled

-- One was read of the octets: it is the first.
read_first : (m : Mode) (o : List ℕ) (e : RevokedValue) (end : ValuesLeft) (es : List RevokedValue) → Gives IsRevoked (fresh m o) e end → SpellsEntries (captured m o) es
    → (others : List RevokedValue) × SpellsEntries (captured m (left (octets end))) others × (es ≡ e ∷ others)
read_first m o e end [] g s = absurd (ended_none (record { sound = refl; ends = none_octets m o s }) g.took)
read_first m o e end (k ∷ others) g s =
    let f = firsts m o k others s in
    let t = one_tree f.tree g.tree f.front (took_front g.took) in
    let same : k ≡ e = entry_one.one g.tree k e (subst (λ (u : Tree). IsRevoked u k) t.0 f.is) g.is in
    (others, subst (λ (r : List ℕ). SpellsEntries (captured m r) others) t.1 f.spelled, ap (λ (z : RevokedValue). z ∷ others) same)

-- What octets spell after the first entry.
abbrev pub Splits : CapturedValue → RevokedValue → CapturedValue → Type 0
Splits c e d = (es : List RevokedValue) → SpellsEntries c es → (others : List RevokedValue) × SpellsEntries d others × (es ≡ e ∷ others)

module _ {F : Type 0} {g : Reader F (Constructed Reading) (Option RevokedValue) Infallible} {op : F} {m : Mode} {o : List ℕ} where
  -- An entry was read: it is the first, and the octets after it spell the others.
  pub split_some : (x : Option RevokedValue) (e : RevokedValue) (count : ℕ) → x ≡ Some e → ReadsFront g op m o x count
      → ((p q : MutBor (Constructed Reading)) → g.post op (p, tt) (Ok x, (q, tt)) → Perhaps (λ e. e) sequence_tag IsRevoked (here rest_of p.now) x (here rest_of q.now))
      → Splits (captured m o) e (captured m (drop count o))
  split_some x e count is h each es s =
      let gives : Gives IsRevoked (fresh m o) e h.end = there _ _ x is (ran_met (λ v w. Perhaps (λ e. e) sequence_tag IsRevoked v x w) each h.ran) in
      let long : length gives.took.text ≡ count = ap length (same_text gives.took.goes h.took.goes) ∙ h.long in
      let whole : o ≡ gives.took.text ++ left (octets h.end) = left_moved gives.took.goes.moved in
      let rest : left (octets h.end) ≡ drop count o = sym (drop-append_seam gives.took.text (left (octets h.end))) ∙ ap (λ (n : ℕ). drop n (gives.took.text ++ left (octets h.end))) long ∙ ap (drop count) (sym whole) in
      let f = read_first m o e h.end es gives s in
      (f.0, subst (λ (r : List ℕ). SpellsEntries (captured m r) f.0) rest f.1, f.2)

  -- None was there: the octets spell none.
  pub split_none : (x : Option RevokedValue) (count : ℕ) → x ≡ None → ReadsFront g op m o x count
      → ((p q : MutBor (Constructed Reading)) → g.post op (p, tt) (Ok x, (q, tt)) → Perhaps (λ e. e) sequence_tag IsRevoked (here rest_of p.now) x (here rest_of q.now))
      → (es : List RevokedValue) → SpellsEntries (captured m o) es → es ≡ []
  split_none x count is h each es s =
      left_none (fresh_left s) (absent _ _ x is (ran_met (λ v w. Perhaps (λ e. e) sequence_tag IsRevoked v x w) each h.ran)).1

  -- Octets that spell entries aren't refused.
  pub split_refused : (e : DecodeError Infallible) → RefusesFront g op m o e
      → ((p q : MutBor (Constructed Reading)) → g.post op (p, tt) (Err e, (q, tt)) → OnContent e (LacksTagged sequence_tag IsRevoked (here rest_of p.now)) × (e ≢ Memory))
      → (es : List RevokedValue) → SpellsEntries (captured m o) es → es ≡ []
  split_refused e h each es s =
      let told = ran_met (λ v w. OnContent e (LacksTagged sequence_tag IsRevoked v) × (e ≢ Memory)) each h.ran in
      absurd (no_refusal e (fresh_left s) told.0 told.1)

-- Answers that are there, or aren't.

pub none_of_none : {A : Type 0} (P : Type 0) {r : Option A} → r ≡ None → P → IfNone r P
none_of_none {A} P e p = subst (λ (o : Option A). IfNone o P) (sym e) p

pub none_of_some : {A : Type 0} (P : Type 0) {r : Option A} {x : A} → r ≡ Some x → IfNone r P
none_of_some {A} P e = subst (λ (o : Option A). IfNone o P) (sym e) tt

pub some_of_none : {A : Type 0} (P : A → Type 0) {r : Option A} → r ≡ None → IfSome r P
some_of_none {A} P e = subst (λ (o : Option A). IfSome o P) (sym e) tt

pub some_of_some : {A : Type 0} (P : A → Type 0) {r : Option A} {x : A} → r ≡ Some x → P x → IfSome r P
some_of_some {A} P e p = subst (λ (o : Option A). IfSome o P) (sym e) p

-- The entries that are left after the first.

pub splits_at : (c : CapturedValue) (m : Mode) (o behind : List ℕ) (e : RevokedValue) → behind ≡ o → Splits c e (captured m o) → Splits c e (captured m behind)
splits_at c m o behind e same splits = subst (λ (r : List ℕ). Splits c e (captured m r)) (sym same) splits

pub rest_listing : (c d : CapturedValue) (e : RevokedValue) → Listing c → Splits c e d → Listing d
rest_listing c d e x splits = ∥∥₁_elim x.1 (one_listing d) (λ s. let r = splits x.0 s in (r.0, ∣ r.1 ∣₁))

pub rest_is : (c d : CapturedValue) (e : RevokedValue) (all es others : List RevokedValue) → es ≡ all → ∥ SpellsEntries c es ∥₁ → Splits c e d → ∥ SpellsEntries d others ∥₁ → all ≡ e ∷ others
rest_is c d e all es others view h splits rest =
    sym view ∙ ∥∥₁_elim h (Coded-set (coded_list revoked_code) _ _) (λ s. let r = splits es s in r.2 ∙ ap (λ (z : List RevokedValue). e ∷ z) (sym (spelled_is d others r.0 rest r.1)))

pub shorter : (s others : List RevokedValue) (e : RevokedValue) → s ≡ e ∷ others → length others < length s
shorter s others e h = let l = ap length h in omega arith

pub none_is : (c : CapturedValue) (es : List RevokedValue) → ∥ SpellsEntries c es ∥₁ → ((xs : List RevokedValue) → SpellsEntries c xs → xs ≡ []) → es ≡ []
none_is c es h empty = ∥∥₁_elim h (Coded-set (coded_list revoked_code) _ _) (λ s. empty es s)

pub steps_none : (s : List RevokedValue) (r : Option RevokedValue) → r ≡ None → s ≡ [] → YieldsFirst (λ (l : List RevokedValue). l) s r s
steps_none s r e empty = subst (λ (o : Option RevokedValue). YieldsFirst (λ (l : List RevokedValue). l) s o s) (sym e) (empty, empty)

-- Octets that were lent, in their mode, are those that were kept.
pub same_captured : (c : CapturedValue) (m : Mode) (o : List ℕ) → m ≡ c.mode → o ≡ c.octets → captured m o ≡ c
same_captured c m o mode octets = λ i. record { mode = mode i; octets = octets i }

pub same_listing : (c d : CapturedValue) (l xs : List RevokedValue) → c ≡ d → ∥ SpellsEntries c l ∥₁ → ∥ SpellsEntries d xs ∥₁ → l ≡ xs
same_listing c d l xs e h k =
    ∥∥₁_elim k (Coded-set (coded_list revoked_code) _ _) (λ q. spelled_is d l xs (subst (λ (z : CapturedValue). ∥ SpellsEntries z l ∥₁) e h) q)
