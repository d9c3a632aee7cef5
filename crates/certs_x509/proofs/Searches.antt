-- Entries are searched for a serial number.
use Rattle.std.proofs.Common.{◌≡◌, ◌≢◌, ◌↔◌, ◌⊎◌, ◌||◌, ℕ, Bool, false, true, nat_eq, IsTrue, List, [], ◌∷◌, Result, Ok, Err, IsOk, IfOk, IfErr, inl, inr, refl, sym, ap, ◌∙◌, subst, append-nil, length, arith}
use denote.Ref.{MutBor}
use Rattle.std.proofs.Math.Logic.{∥∥₁_elim}
use Rattle.std.specs.Cmp.{unsigned_Decides}
use Rattle.std.specs.Coded.{Coded-set, coded_bool}
use Rattle.std.specs.declared.convert.Infallible.{Infallible}
use Rattle.certs_x509.specs.bcder_tree.declared.mode.Mode.{Mode}
use Rattle.certs_x509.specs.bcder_tree.Tags.{sequence_tag}
use Rattle.certs_x509.specs.bcder_tree.Tree.{SpellsAll, Trees}
use Rattle.certs_x509.specs.bcder_source.Errors.{OnContent}
use Rattle.certs_x509.specs.bcder_source.Views.{Reading}
use Rattle.certs_x509.specs.bcder_source.declared.error.DecodeError.{DecodeError}
use Rattle.certs_x509.specs.bcder_source.declared.error.DecodeError.TheVariants.{Content, Source, Memory}
use Rattle.certs_x509.specs.bcder_content.declared.constructed.Constructed.{Constructed}
use Rattle.certs_x509.specs.bcder_content.Captures.{rest_of}
use Rattle.certs_x509.specs.bcder_content.Contents.{ValuesLeft, Unlike}
use Rattle.certs_x509.specs.bcder_content.Exact.{Gives, LacksTagged}
use Rattle.certs_x509.specs.bcder_content.Grammar.{Many}
use Rattle.certs_x509.specs.bcder_content.Here.{here}
use Rattle.certs_x509.specs.bcder_content.Kept.{CapturedValue}
use Rattle.certs_x509.specs.bcder_content.Memory.{InErr, OnMemory}
use Rattle.certs_x509.specs.bcder_content.ClosureReads.{Decoded, DecodedCases, ClosureReadsIn, Reader, failed_in, fresh, refused_in}
use Rattle.certs_x509.specs.certs_basics.Lists.{Mem}
use Rattle.certs_extension.specs.CrlText.{IsRevoked, RevokedValue}
use Rattle.certs_x509.specs.Listed.{EntriesLeft, IsListed, SpellsEntries, has_serial}
use Rattle.certs_x509.specs.Listing.{Listing}
use Rattle.certs_x509.proofs.Lists.{left_first, left_lacks, left_none, listing_is, no_entries}

-- None of the entries that were passed over has the serial number.
pub record Passed (serial : ℕ) (start now : ValuesLeft) : Type 0 where
  pub behind : (xs : List RevokedValue) → EntriesLeft start xs → (ys : List RevokedValue) × EntriesLeft now ys × (has_serial serial xs ≡ has_serial serial ys)

pub passed_none : {serial : ℕ} {v : ValuesLeft} → Passed serial v v
passed_none = record { behind = λ xs l. (xs, l, refl) }

-- One entry more was read, which hasn't the serial number.
pub passed_more : {serial : ℕ} {start now new : ValuesLeft} {x : RevokedValue} → Passed serial start now → Gives IsRevoked now x new → nat_eq x.serial serial ≡ false → Passed serial start new
passed_more {serial} p g other = record {
  behind = λ xs l.
      let b = p.behind xs l in
      let n = left_first b.1 g in
      (n.others, n.left, b.2 ∙ ap (has_serial serial) n.whole ∙ ap (λ (z : Bool). z || has_serial serial n.others) other);
}

-- One was read that has it.
pub passed_found : {serial : ℕ} {start now new : ValuesLeft} {x : RevokedValue} → Passed serial start now → Gives IsRevoked now x new → nat_eq x.serial serial ≡ true
    → (xs : List RevokedValue) → EntriesLeft start xs → has_serial serial xs ≡ true
passed_found {serial} p g same xs l =
    let b = p.behind xs l in
    let n = left_first b.1 g in
    b.2 ∙ ap (has_serial serial) n.whole ∙ ap (λ (z : Bool). z || has_serial serial n.others) same

-- All were read.
pub passed_all : {serial : ℕ} {start now new : ValuesLeft} → Passed serial start now → (new ≡ now) × Unlike now sequence_tag
    → (xs : List RevokedValue) → EntriesLeft start xs → has_serial serial xs ≡ false
passed_all {serial} p u xs l =
    let b = p.behind xs l in
    b.2 ∙ ap (has_serial serial) (left_none b.1 u.1)

never : Infallible → ⊥
never x = elim x [ ]

-- Where entries are left, reading the next takes no memory and is not refused.
pub no_refusal : {now : ValuesLeft} {xs : List RevokedValue} (e : DecodeError Infallible) → EntriesLeft now xs → OnContent e (LacksTagged sequence_tag IsRevoked now) → (e ≢ Memory) → ⊥
no_refusal (Content x pos) l h some = left_lacks l h
no_refusal (Source x) l h some = never x
no_refusal Memory l h some = some refl

-- What each call of a closure says is said of the call that ran.
pub ran_met : {F T D : Type 0} {g : Reader F (Constructed Reading) T D} {op : F} {r : Result T (DecodeError D)} {v end : ValuesLeft} (Q : ValuesLeft → ValuesLeft → Type 0)
    → ((p q : MutBor (Constructed Reading)) → g.post op (p, tt) (r, (q, tt)) → Q (here rest_of p.now) (here rest_of q.now)) → ClosureReadsIn rest_of g op v r end → Q v end
ran_met {v = v} {end} Q each on =
    let at = each on.met.shown on.met.left on.met.met in
    let given = subst (λ (w : Constructed Reading). Q (here rest_of w) (here rest_of on.met.left.now)) on.met.shows at in
    let stop = subst (λ (w : Constructed Reading). Q (here rest_of on.given) (here rest_of w)) on.met.leaves given in
    subst (λ (w : ValuesLeft). Q w end) on.starts (subst (λ (w : ValuesLeft). Q (here rest_of on.given) w) on.ends stop)

-- Of octets that spell entries these are left, at the beginning.
pub fresh_left : {m : Mode} {o : List ℕ} {xs : List RevokedValue} → SpellsEntries (record { mode = m; octets = o }) xs → EntriesLeft (fresh m o) xs
fresh_left {m} {o} s = record {
  trees = s.trees;
  whole = record {
    behind = fresh m [];
    took = record { text = o; spelled = s.spelled; goes = record { moved = record { rest = sym (append-nil o); limit = refl }; mode = refl; end = refl; before = refl; behind = refl } };
    ended = record { sound = refl; ends = refl };
  };
  are = s.is;
}

-- Each call of the closure reads entries that are left, whatever they are, and answers what they say.
pub record Tells {F T : Type 0} (g : Reader F (Constructed Reading) T Infallible) (op : F) (says : List RevokedValue → T → Type 0) : Type 0 where
  pub ok : (p q : MutBor (Constructed Reading)) (r : Result T (DecodeError Infallible)) → g.post op (p, tt) (r, (q, tt))
      → (xs : List RevokedValue) → EntriesLeft (here rest_of p.now) xs → IsOk r
  pub tells : (p q : MutBor (Constructed Reading)) (r : Result T (DecodeError Infallible)) → g.post op (p, tt) (r, (q, tt))
      → (xs : List RevokedValue) → EntriesLeft (here rest_of p.now) xs → IfOk r (says xs)
  pub sound : (p q : MutBor (Constructed Reading)) (r : Result T (DecodeError Infallible)) → g.post op (p, tt) (r, (q, tt))
      → (xs : List RevokedValue) → EntriesLeft (here rest_of p.now) xs → (here rest_of q.now).failed ≡ false

module _ {F T : Type 0} {g : Reader F (Constructed Reading) T Infallible} {op : F} {says : List RevokedValue → T → Type 0} where
  refused : {v end : ValuesLeft} {e : DecodeError Infallible} {xs : List RevokedValue} → Tells g op says → EntriesLeft v xs → ClosureReadsIn rest_of g op v (Err e) end → ⊥
  refused {e = e} {xs} t l on = let wrong : IsOk {T = T} (Err e) = ran_met (λ v w. (ys : List RevokedValue) → EntriesLeft v ys → IsOk {T = T} (Err e)) (λ p q h. t.ok p q (Err e) h) on xs l in absurd cc

  failed : {v end : ValuesLeft} {x : T} {xs : List RevokedValue} → Tells g op says → EntriesLeft v xs → ClosureReadsIn rest_of g op v (Ok x) end → end.failed ≡ true → ⊥
  failed {end = end} {x} {xs} t l on bad =
      let good = ran_met (λ v w. (ys : List RevokedValue) → EntriesLeft v ys → w.failed ≡ false) (λ p q h. t.sound p q (Ok x) h) on xs l in
      let wrong : true ≡ false = sym bad ∙ good in
      absurd cc

  pub tells_cases : (m : Mode) (o : List ℕ) (xs : List RevokedValue) (r : Result T (DecodeError Infallible)) → Tells g op says → SpellsEntries (record { mode = m; octets = o }) xs
      → DecodedCases rest_of g op (fresh m o) r → IfErr r (λ e. OnMemory e (InErr rest_of g op (fresh m o) e)) → IsOk r × IfOk r (says xs)
  tells_cases m o xs (Ok x) t s d h = (refl, ran_met (λ v w. (ys : List RevokedValue) → EntriesLeft v ys → says ys x) (λ p q k. t.tells p q (Ok x) k) d.1 xs (fresh_left s))
  tells_cases m o xs (Err (Content x pos)) t s d h =
      elim d [
        | refused_in end on ↦ absurd (refused t (fresh_left s) on)
        | failed_in end y on bad ↦ absurd (failed t (fresh_left s) on bad)
      ]
  tells_cases m o xs (Err (Source x)) t s d h = absurd (never x)
  tells_cases m o xs (Err Memory) t s d h = absurd (refused t (fresh_left s) h.ran)

-- The closure read octets that spell entries, and so it answered what they say.
pub tells : {F T : Type 0} {g : Reader F (Constructed Reading) T Infallible} {op : F} {says : List RevokedValue → T → Type 0} {m : Mode} {o : List ℕ} {xs : List RevokedValue}
    (r : Result T (DecodeError Infallible)) → Tells g op says → SpellsEntries (record { mode = m; octets = o }) xs
    → Decoded rest_of g op (fresh m o) r → IfErr r (λ e. OnMemory e (InErr rest_of g op (fresh m o) e)) → IsOk r × IfOk r (says xs)
tells {m = m} {o} {xs} r t s d h = tells_cases m o xs r t s d.cases h

-- An answer is what was found.
pub found_is : {x y : Bool} (r : Result Bool (DecodeError Infallible)) → r ≡ Ok x → IfOk r (λ b. b ≡ y) → x ≡ y
found_is {x} {y} r e h = subst (λ (z : Result Bool (DecodeError Infallible)). IfOk z (λ b. b ≡ y)) e h

pub no_error : {T : Type 0} {P : Type 0} {e : DecodeError Infallible} (r : Result T (DecodeError Infallible)) → r ≡ Err e → IsOk r → P
no_error {T = T} {e = e} r f h = let wrong : IsOk {T = T} (Err e) = subst IsOk f h in absurd cc

either_true : (a b : Bool) → IsTrue (a || b) → IsTrue a ⊎ IsTrue b
either_true true b h = inl h
either_true false b h = inr h

second_true : (a b : Bool) → IsTrue b → IsTrue (a || b)
second_true true b h = refl
second_true false b h = h

first_true : (a b : Bool) → IsTrue a → IsTrue (a || b)
first_true true b h = h
first_true false b h = absurd cc

listed : (serial : ℕ) (xs : List RevokedValue) → IsTrue (has_serial serial xs) → IsListed xs serial
listed serial [] h = absurd cc
listed serial (x ∷ xs) h = elim (either_true (nat_eq x.serial serial) (has_serial serial xs) h) [
  | inl same ↦ record { entry = x; listed = inl refl; same = (unsigned_Decides x.serial serial).0 same }
  | inr other ↦ let l = listed serial xs other in record { entry = l.entry; listed = inr l.listed; same = l.same }
]

found : (serial : ℕ) (xs : List RevokedValue) (entry : RevokedValue) → Mem xs entry → entry.serial ≡ serial → IsTrue (has_serial serial xs)
found serial [] entry m e = absurd m
found serial (x ∷ xs) entry m e = elim m [
  | inl is ↦ first_true (nat_eq x.serial serial) (has_serial serial xs) ((unsigned_Decides x.serial serial).1 (ap (λ (z : RevokedValue). z.serial) is ∙ e))
  | inr other ↦ second_true (nat_eq x.serial serial) (has_serial serial xs) (found serial xs entry other e)
]

-- The test answers whether the serial number is on the list.
pub tells_listed : (serial : ℕ) (xs : List RevokedValue) → IsTrue (has_serial serial xs) ↔ IsListed xs serial
tells_listed serial xs = (listed serial xs, λ l. found serial xs l.entry l.listed l.same)

-- The search over the octets of a list answers for the list.
pub search_is : (c : CapturedValue) (x : Listing c) (xs : List RevokedValue) (serial : ℕ) (m : Mode) (o : List ℕ) (answer : Bool) → x.0 ≡ xs → m ≡ c.mode → o ≡ c.octets
    → ((ys : List RevokedValue) → SpellsEntries (record { mode = m; octets = o }) ys → answer ≡ has_serial serial ys) → answer ≡ has_serial serial xs
search_is c x xs serial m o answer e mode octets h =
    ∥∥₁_elim x.1 (Coded-set coded_bool _ _) (λ s.
    h x.0 (subst (λ (n : Mode). SpellsEntries (record { mode = n; octets = o }) x.0) (sym mode) (subst (λ (p : List ℕ). SpellsEntries (record { mode = c.mode; octets = p }) x.0) (sym octets) s))
    ∙ ap (has_serial serial) e)

-- No octets are no entries, and other octets are some.
pub none_of : (c : CapturedValue) (x : Listing c) (xs : List RevokedValue) → x.0 ≡ xs → c.octets ≡ [] → xs ≡ []
none_of c x xs e none = sym e ∙ listing_is c x [] (no_entries c none)

all_none : (c : CapturedValue) (xs : List RevokedValue) → SpellsEntries c xs → xs ≡ [] → c.octets ≡ []
all_none c xs s e =
    let none_left : Many IsRevoked s.trees [] = subst (Many IsRevoked s.trees) e s.is in
    subst (λ (ts : Trees). SpellsAll c.mode ts c.octets) none_left.cases s.spelled

pub some_of : (c : CapturedValue) (x : Listing c) (xs : List RevokedValue) → x.0 ≡ xs → (c.octets ≡ [] → ⊥) → xs ≡ [] → ⊥
some_of c x xs e some none = ∥∥₁_elim x.1 (λ a b. absurd a) (λ s. some (all_none c x.0 s (e ∙ none)))

pub no_length : (o : List ℕ) → length o ≡ 0 → o ≡ []
no_length [] e = refl
no_length (a ∷ o) e = absurd (omega arith)

-- The octets of a list, lent.
pub lent : (c d : CapturedValue) (x : Listing c) (xs : List RevokedValue) → x.0 ≡ xs → d ≡ c → ∥ SpellsEntries d xs ∥₁
lent c d x xs e same = subst (λ (z : CapturedValue). ∥ SpellsEntries z xs ∥₁) (sym same) (subst (λ (l : List RevokedValue). ∥ SpellsEntries c l ∥₁) e x.1)

-- The closure answered of octets that spell entries, and what it answered says what is said of entries that are left.
pub says_ok : {F T : Type 0} {g : Reader F (Constructed Reading) T Infallible} {op : F} {m : Mode} {o : List ℕ} {xs : List RevokedValue} {x : T} (says : List RevokedValue → Type 0)
    → ((p q : MutBor (Constructed Reading)) → g.post op (p, tt) (Ok x, (q, tt)) → (ys : List RevokedValue) → EntriesLeft (here rest_of p.now) ys → says ys)
    → SpellsEntries (record { mode = m; octets = o }) xs → Decoded rest_of g op (fresh m o) (Ok x) → says xs
says_ok {xs = xs} says each s d = ran_met (λ v w. (ys : List RevokedValue) → EntriesLeft v ys → says ys) each d.cases.1 xs (fresh_left s)
