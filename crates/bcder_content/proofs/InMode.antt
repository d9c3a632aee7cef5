-- How a reader of a content is proved field by field, in the mode of the content: no step speaks of the mode.
use Rattle.std.proofs.Common.{map, ◌≡◌, ℕ, Bool, true, false, List, [], ◌∷◌, ◌++◌, Option, Some, None, Result, Ok, Err, refl, sym, ap, ◌∙◌, subst}
use Rattle.std.specs.Result.{IsErr, IsErrAnd}
use Rattle.std.specs.Option.{option_map, unwrap_or}
use denote.Ref.{MutBor}
use Rattle.bcder_content.specs.bcder_tree.declared.mode.Mode.{Mode}
use Rattle.bcder_content.specs.bcder_tree.Tags.{TagValue}
use Rattle.bcder_content.specs.bcder_tree.Tree.{Tree, Trees}
use Rattle.bcder_content.specs.bcder_source.Errors.{OnContent}
use Rattle.bcder_content.specs.bcder_source.declared.error.DecodeError.{DecodeError}
use Rattle.bcder_content.specs.declared.constructed.Constructed.{Constructed}
use Rattle.bcder_content.specs.Contents.{ValuesLeft, Unlike, Ended}
use Rattle.bcder_content.specs.Exact.{Gives, Lacks, LacksTagged, LacksAll, GivesAll, ReadsAs, ReadsOptAs}
use Rattle.bcder_content.specs.Grammar.{Inside, End, Then, Opt, Default, Many, Where, As, Tagged, One}
use Rattle.bcder_content.specs.Here.{here}
use Rattle.bcder_content.specs.InMode.{ReadsFields}
use Rattle.bcder_content.specs.ClosureReads.{Reader, ClosureReads, ClosureReadsOpt}
use Rattle.bcder_content.specs.Words.{Means}
use Rattle.bcder_content.proofs.Choices.{such_gives, such_lacks, such_refused, as_gives, as_lacks}
use Rattle.bcder_content.proofs.Forests as at
use Rattle.bcder_content.proofs.Forests.{Perhaps}
use Rattle.bcder_content.proofs.Inside.{exact_each, exact_opt}
use Rattle.bcder_content.proofs.Meaning.{means_gives, means_lacks, means_refused}
use Rattle.bcder_content.proofs.Modes.{gives_in, lacks_in, lacks_tagged_in, perhaps_in, all_in}
use Rattle.bcder_content.proofs.Taking.{weaker, on_content}

-- What the grammar R reads from now on completes, by k, what the grammar P reads from the start.
pub record Fields {A B : Type 0} (P : Mode → Trees → A → Type 0) (R : Mode → Trees → B → Type 0) (k : B → A) (start now : ValuesLeft)
    (some : Bool) : Type 0 where
  pub so_far : at.Reading (P start.mode) (R start.mode) k start now some
  pub mode : now.mode ≡ start.mode

-- Nothing was read yet.
pub begin : {A : Type 0} {P : Mode → Trees → A → Type 0} {v : ValuesLeft} → Fields P P (λ b. b) v v false
begin {P = P} {v} = record { so_far = at.begin (P v.mode) v; mode = refl }

-- A field was read.
pub next : {A B C : Type 0} {P : Mode → Trees → A → Type 0} {Q : Mode → Tree → B → Type 0} {R : Mode → Trees → C → Type 0} {k : B × C → A}
    {start now new : ValuesLeft} {some : Bool} {x : B}
    → Fields P (λ m. Then (Q m) (R m)) k start now some → Gives (Q now.mode) now x new → Fields P R (λ b. k (x, b)) start new true
next {Q = Q} s g = record { so_far = at.next s.so_far (gives_in Q s.mode g); mode = g.took.goes.mode ∙ s.mode }

-- A field was refused, and `?` passes that on.
pub stop : {A B C D E : Type 0} {P : Mode → Trees → A → Type 0} {Q : Mode → Tree → B → Type 0} {R : Mode → Trees → C → Type 0} {k : B × C → A}
    {start now : ValuesLeft} {some : Bool} {f : D → A} {new : ValuesLeft} {r : Result D (DecodeError E)} (e : DecodeError E)
    → Fields P (λ m. Then (Q m) (R m)) k start now some → IsErr r × IsErrAnd r (λ x. x ≡ e) → OnContent e (Lacks (Q now.mode) now)
    → ReadsFields f P start r new
stop {Q = Q} {f = f} {new} {r} e s a h = record { reads = at.stop f new r e s.so_far a (weaker e (lacks_in Q s.mode) h) }

-- A field isn't of the grammar, and the reader itself refuses it.
pub unfit : {A B C D E : Type 0} {P : Mode → Trees → A → Type 0} {Q : Mode → Tree → B → Type 0} {R : Mode → Trees → C → Type 0} {k : B × C → A}
    {start now : ValuesLeft} {some : Bool} {f : D → A} {new : ValuesLeft} {e : DecodeError E}
    → Fields P (λ m. Then (Q m) (R m)) k start now some → Lacks (Q now.mode) now → ReadsFields f P start (Err e) new
unfit {Q = Q} {R} {start = start} {e = e} s l = record { reads = on_content e (s.so_far.lacks (at.first_lacks (R start.mode) (lacks_in Q s.mode l))) }

-- All fields were read.
pub done : {A D E : Type 0} {P : Mode → Trees → A → Type 0} {k : Unit {0} → A} {start now : ValuesLeft} {f : D → A} {x : D}
    → Fields P (λ m. End) k start now true → f x ≡ k tt → ReadsFields {E = E} f P start (Ok x) now
done {P = P} {start = start} {now} s e = record { reads = subst (λ y. GivesAll (P start.mode) start y now) (sym e) (at.done s.so_far) }

-- The rest was read by another reader.
pub finish : {A B D E : Type 0} {P : Mode → Trees → A → Type 0} {R : Mode → Trees → B → Type 0} {k : B → A} {start now end : ValuesLeft}
    {some : Bool} {f : D → A} {x : D} {b : B}
    → Fields P R k start now some → GivesAll (R now.mode) now b end → f x ≡ k b → ReadsFields {E = E} f P start (Ok x) end
finish {P = P} {R} {start = start} {now} {end} {b = b} s g e = record {
  reads = subst (λ y. GivesAll (P start.mode) start y end) (sym e) (at.finish s.so_far (subst (λ (m : Mode). GivesAll (R m) now b end) s.mode g));
}

-- The rest was refused by another reader, and `?` passes that on.
pub stop_all : {A B D E : Type 0} {P : Mode → Trees → A → Type 0} {R : Mode → Trees → B → Type 0} {k : B → A} {start now : ValuesLeft}
    {some : Bool} {f : D → A} {new : ValuesLeft} {r : Result D (DecodeError E)} (e : DecodeError E)
    → Fields P R k start now some → IsErr r × IsErrAnd r (λ x. x ≡ e) → OnContent e (LacksAll (R now.mode) now) → ReadsFields f P start r new
stop_all {R = R} {now = now} {f = f} {new} {r} e s a h = record {
  reads = at.stop_all f new r e s.so_far a (weaker e (subst (λ (m : Mode). LacksAll (R m) now) s.mode) h);
}

-- Each call of the closure reads its content.
pub record Each {F S T B E : Type 0} (rest : S → List ℕ) (g : Reader F (Constructed S) T E) (op : F) (f : T → B)
    (P : Mode → Trees → B → Type 0) : Type 0 where
  pub each : (p q : MutBor (Constructed S)) (r : Result T (DecodeError E)) → g.post op (p, tt) (r, (q, tt))
      → ReadsFields f P (here rest p.now) r (here rest q.now)

-- A value by a closure.
pub inside : {F S T B E : Type 0} {rest : S → List ℕ} {g : Reader F (Constructed S) T E} {op : F} {f : T → B} {P : Mode → Trees → B → Type 0}
    {old new : ValuesLeft} {tag : TagValue} {r : Result T (DecodeError E)}
    → Each rest g op f P → ClosureReads rest g op old tag r new → ReadsAs f (Inside tag (P old.mode)) old r new
inside {f = f} {P} exact h = exact_each (record { each = λ p q r m k. all_in f P _ _ r m (exact.each p q r k).reads }) h

-- An optional value by a closure.
pub inside_opt : {F S T B E : Type 0} {rest : S → List ℕ} {g : Reader F (Constructed S) T E} {op : F} {f : T → B} {P : Mode → Trees → B → Type 0}
    {old new : ValuesLeft} {tag : TagValue} {r : Result (Option T) (DecodeError E)}
    → Each rest g op f P → ClosureReadsOpt rest g op old tag r new → ReadsOptAs f tag (Inside tag (P old.mode)) old r new
inside_opt {f = f} {P} exact h = exact_opt (record { each = λ p q r m k. all_in f P _ _ r m (exact.each p q r k).reads }) h

-- A field that is tested, or of which only some values mean something.

pub next_such : {A B C : Type 0} {P : Mode → Trees → A → Type 0} {Q : Mode → Tree → B → Type 0} {passes : B → Type 0}
    {R : Mode → Trees → C → Type 0} {k : B × C → A} {start now new : ValuesLeft} {some : Bool} {x : B}
    → Fields P (λ m. Then (Where (Q m) passes) (R m)) k start now some → Gives (Q now.mode) now x new → passes x
    → Fields P R (λ b. k (x, b)) start new true
next_such {Q = Q} {passes} s g h = next {Q = λ m. Where (Q m) passes} s (such_gives g h)

pub stop_such : {A B C D E : Type 0} {P : Mode → Trees → A → Type 0} {Q : Mode → Tree → B → Type 0} {passes : B → Type 0}
    {R : Mode → Trees → C → Type 0} {k : B × C → A} {start now : ValuesLeft} {some : Bool} {f : D → A} {new : ValuesLeft}
    {r : Result D (DecodeError E)} (e : DecodeError E)
    → Fields P (λ m. Then (Where (Q m) passes) (R m)) k start now some → IsErr r × IsErrAnd r (λ x. x ≡ e)
    → OnContent e (Lacks (Q now.mode) now) → ReadsFields f P start r new
stop_such {Q = Q} {passes} e s a h = stop {Q = λ m. Where (Q m) passes} e s a (weaker e such_lacks h)

pub unfit_such : {A B C D E : Type 0} {P : Mode → Trees → A → Type 0} {Q : Mode → Tree → B → Type 0} {passes : B → Type 0}
    {R : Mode → Trees → C → Type 0} {k : B × C → A} {start now mid : ValuesLeft} {some : Bool} {f : D → A} {new : ValuesLeft}
    {e : DecodeError E} {x : B}
    → Fields P (λ m. Then (Where (Q m) passes) (R m)) k start now some → ((m : Mode) → One (Q m)) → Gives (Q now.mode) now x mid
    → (passes x → ⊥) → ReadsFields f P start (Err e) new
unfit_such {Q = Q} {passes} s one g refuses = unfit {Q = λ m. Where (Q m) passes} s (such_refused (one _) g refuses)

pub next_as : {A B C D : Type 0} {P : Mode → Trees → A → Type 0} {Q : Mode → Tree → B → Type 0} {h : B → C} {R : Mode → Trees → D → Type 0}
    {k : C × D → A} {start now new : ValuesLeft} {some : Bool} {x : B}
    → Fields P (λ m. Then (As (Q m) h) (R m)) k start now some → Gives (Q now.mode) now x new → Fields P R (λ b. k (h x, b)) start new true
next_as {Q = Q} {h} s g = next {Q = λ m. As (Q m) h} s (as_gives h g)

pub stop_as : {A B C D E F : Type 0} {P : Mode → Trees → A → Type 0} {Q : Mode → Tree → B → Type 0} {h : B → C} {R : Mode → Trees → D → Type 0}
    {k : C × D → A} {start now : ValuesLeft} {some : Bool} {f : F → A} {new : ValuesLeft} {r : Result F (DecodeError E)} (e : DecodeError E)
    → Fields P (λ m. Then (As (Q m) h) (R m)) k start now some → IsErr r × IsErrAnd r (λ x. x ≡ e) → OnContent e (Lacks (Q now.mode) now)
    → ReadsFields f P start r new
stop_as {Q = Q} {h} e s a l = stop {Q = λ m. As (Q m) h} e s a (weaker e (as_lacks h) l)

pub next_means : {A B C D : Type 0} {P : Mode → Trees → A → Type 0} {Q : Mode → Tree → B → Type 0} {T : B → C → Type 0}
    {R : Mode → Trees → D → Type 0} {k : C × D → A} {start now new : ValuesLeft} {some : Bool} {x : B} {y : C}
    → Fields P (λ m. Then (Means (Q m) T) (R m)) k start now some → Gives (Q now.mode) now x new → T x y
    → Fields P R (λ b. k (y, b)) start new true
next_means {Q = Q} {T} s g h = next {Q = λ m. Means (Q m) T} s (means_gives g h)

pub stop_means : {A B C D E F : Type 0} {P : Mode → Trees → A → Type 0} {Q : Mode → Tree → B → Type 0} {T : B → C → Type 0}
    {R : Mode → Trees → D → Type 0} {k : C × D → A} {start now : ValuesLeft} {some : Bool} {f : F → A} {new : ValuesLeft}
    {r : Result F (DecodeError E)} (e : DecodeError E)
    → Fields P (λ m. Then (Means (Q m) T) (R m)) k start now some → IsErr r × IsErrAnd r (λ x. x ≡ e)
    → OnContent e (Lacks (Q now.mode) now) → ReadsFields f P start r new
stop_means {Q = Q} {T} e s a h = stop {Q = λ m. Means (Q m) T} e s a (weaker e means_lacks h)

pub unfit_means : {A B C D E F : Type 0} {P : Mode → Trees → A → Type 0} {Q : Mode → Tree → B → Type 0} {T : B → C → Type 0}
    {R : Mode → Trees → D → Type 0} {k : C × D → A} {start now mid : ValuesLeft} {some : Bool} {f : F → A} {new : ValuesLeft}
    {e : DecodeError E} {x : B}
    → Fields P (λ m. Then (Means (Q m) T) (R m)) k start now some → ((m : Mode) → One (Q m)) → Gives (Q now.mode) now x mid
    → ((y : C) → T x y → ⊥) → ReadsFields f P start (Err e) new
unfit_means {Q = Q} {T} s one g refuses = unfit {Q = λ m. Means (Q m) T} s (means_refused (one _) g refuses)

-- OPTIONAL and DEFAULT: the field was read, or wasn't there.

-- The mode after an optional field is the one before it.
pub perhaps_mode : {A B : Type 0} (f : A → B) (tag : TagValue) (Q : Tree → B → Type 0) (now new : ValuesLeft) (o : Option A)
    → Perhaps f tag Q now o new → new.mode ≡ now.mode
perhaps_mode f tag Q now new None h = ap (λ (v : ValuesLeft). v.mode) h.0
perhaps_mode f tag Q now new (Some x) h = h.took.goes.mode

pub next_opt_as : {A B C D : Type 0} {P : Mode → Trees → A → Type 0} {tag : TagValue} {Q : Mode → Tree → B → Type 0}
    {R : Mode → Trees → C → Type 0} {k : Option B × C → A} {start now new : ValuesLeft} {some : Bool} (f : D → B) (o : Option D)
    → Fields P (λ m. Opt tag (Q m) (R m)) k start now some → ((m : Mode) → Tagged tag (Q m)) → Perhaps f tag (Q now.mode) now o new
    → Fields P R (λ b. k (option_map f o, b)) start new true
next_opt_as {tag = tag} {Q} {now = now} {new} f o s t h = record {
  so_far = at.next_opt_as f o s.so_far (t _) (perhaps_in f tag Q now new o s.mode h);
  mode = perhaps_mode f tag (Q now.mode) now new o h ∙ s.mode;
}

pub next_opt : {A B C : Type 0} {P : Mode → Trees → A → Type 0} {tag : TagValue} {Q : Mode → Tree → B → Type 0}
    {R : Mode → Trees → C → Type 0} {k : Option B × C → A} {start now new : ValuesLeft} {some : Bool} (o : Option B)
    → Fields P (λ m. Opt tag (Q m) (R m)) k start now some → ((m : Mode) → Tagged tag (Q m)) → Perhaps (λ x. x) tag (Q now.mode) now o new
    → Fields P R (λ b. k (o, b)) start new true
next_opt {B = B} {tag = tag} {Q} {now = now} {new} o s t h = record {
  so_far = at.next_opt o s.so_far (t _) (perhaps_in (λ (x : B). x) tag Q now new o s.mode h);
  mode = perhaps_mode (λ (x : B). x) tag (Q now.mode) now new o h ∙ s.mode;
}

pub stop_opt : {A B C D E : Type 0} {P : Mode → Trees → A → Type 0} {tag : TagValue} {Q : Mode → Tree → B → Type 0}
    {R : Mode → Trees → C → Type 0} {k : Option B × C → A} {start now : ValuesLeft} {some : Bool} {f : D → A} {new : ValuesLeft}
    {r : Result D (DecodeError E)} (e : DecodeError E)
    → Fields P (λ m. Opt tag (Q m) (R m)) k start now some → IsErr r × IsErrAnd r (λ x. x ≡ e)
    → OnContent e (LacksTagged tag (Q now.mode) now) → ReadsFields f P start r new
stop_opt {Q = Q} {f = f} {new} {r} e s a h = record { reads = at.stop_opt f new r e s.so_far a (weaker e (lacks_tagged_in Q s.mode) h) }

pub next_default_as : {A B C D : Type 0} {P : Mode → Trees → A → Type 0} {tag : TagValue} {Q : Mode → Tree → B → Type 0}
    {R : Mode → Trees → C → Type 0} {k : B × C → A} {start now new : ValuesLeft} {some : Bool} (f : D → B) {d y : D} (o : Option D)
    → Fields P (λ m. Default tag (Q m) (f d) (R m)) k start now some → ((m : Mode) → Tagged tag (Q m))
    → Perhaps f tag (Q now.mode) now o new → y ≡ unwrap_or o d → Fields P R (λ b. k (f y, b)) start new true
next_default_as {tag = tag} {Q} {now = now} {new} f o s t h e = record {
  so_far = at.next_default_as f o s.so_far (t _) (perhaps_in f tag Q now new o s.mode h) e;
  mode = perhaps_mode f tag (Q now.mode) now new o h ∙ s.mode;
}

pub next_default : {A B C : Type 0} {P : Mode → Trees → A → Type 0} {tag : TagValue} {Q : Mode → Tree → B → Type 0} {missing y : B}
    {R : Mode → Trees → C → Type 0} {k : B × C → A} {start now new : ValuesLeft} {some : Bool} (o : Option B)
    → Fields P (λ m. Default tag (Q m) missing (R m)) k start now some → ((m : Mode) → Tagged tag (Q m))
    → Perhaps (λ x. x) tag (Q now.mode) now o new → y ≡ unwrap_or o missing → Fields P R (λ b. k (y, b)) start new true
next_default {B = B} {k = k} {start} o s t h e = next_default_as (λ (x : B). x) o s t h e

pub stop_default : {A B C D E : Type 0} {P : Mode → Trees → A → Type 0} {tag : TagValue} {Q : Mode → Tree → B → Type 0} {missing : B}
    {R : Mode → Trees → C → Type 0} {k : B × C → A} {start now : ValuesLeft} {some : Bool} {f : D → A} {new : ValuesLeft}
    {r : Result D (DecodeError E)} (e : DecodeError E)
    → Fields P (λ m. Default tag (Q m) missing (R m)) k start now some → IsErr r × IsErrAnd r (λ x. x ≡ e)
    → OnContent e (LacksTagged tag (Q now.mode) now) → ReadsFields f P start r new
stop_default {Q = Q} {f = f} {new} {r} e s a h = record { reads = at.stop_default f new r e s.so_far a (weaker e (lacks_tagged_in Q s.mode) h) }

-- SEQUENCE OF, read in a loop: the values so far.
pub record Items {A B : Type 0} (P : Mode → Trees → B → Type 0) (Q : Mode → Tree → A → Type 0) (k : List A → B) (xs : List A)
    (start now : ValuesLeft) : Type 0 where
  pub so_far : at.Listing (P start.mode) (Q start.mode) k xs start now
  pub mode : now.mode ≡ start.mode

pub items_begin : {A B : Type 0} {P : Mode → Trees → B → Type 0} {Q : Mode → Tree → A → Type 0} {k : List A → B} {start now : ValuesLeft}
    {some : Bool} → Fields P (λ m. Many (Q m)) k start now some → Items P Q k [] start now
items_begin s = record { so_far = at.list_begin s.so_far; mode = s.mode }

pub items_next : {A B : Type 0} {P : Mode → Trees → B → Type 0} {Q : Mode → Tree → A → Type 0} {k : List A → B} {xs ys : List A} {x : A}
    {start now new : ValuesLeft} → Items P Q k xs start now → Gives (Q now.mode) now x new → ys ≡ xs ++ (x ∷ []) → Items P Q k ys start new
items_next {Q = Q} s g e = record { so_far = at.list_next s.so_far (gives_in Q s.mode g) e; mode = g.took.goes.mode ∙ s.mode }

-- One more value was read, where the loop's values mean those of the grammar by f.
pub items_next_as : {A B D : Type 0} {P : Mode → Trees → B → Type 0} {Q : Mode → Tree → A → Type 0} {k : List A → B} (f : D → A) (xs : List D)
    {ys : List D} {x : D} {start now new : ValuesLeft}
    → Items P Q k (map f xs) start now → Gives (Q now.mode) now (f x) new → ys ≡ xs ++ (x ∷ []) → Items P Q k (map f ys) start new
items_next_as {Q = Q} f xs s g e = record { so_far = at.list_next_as f xs s.so_far (gives_in Q s.mode g) e; mode = g.took.goes.mode ∙ s.mode }

-- The loop ends where no value of that tag is next.
pub items_end : {A B D E : Type 0} {P : Mode → Trees → B → Type 0} {tag : TagValue} {Q : Mode → Tree → A → Type 0} {k : List A → B} {xs : List A}
    {start now new : ValuesLeft} {f : D → B} {x : D}
    → Items P Q k xs start now → ((m : Mode) → Tagged tag (Q m)) → (new ≡ now) × Unlike now tag → f x ≡ k xs
    → ReadsFields {E = E} f P start (Ok x) new
items_end {P = P} {start = start} {new = new} s t h e = record {
  reads = subst (λ y. GivesAll (P start.mode) start y new) (sym e) (at.list_end s.so_far (t _) h);
}

-- The loop ends where the content has ended.
pub items_over : {A B D E : Type 0} {P : Mode → Trees → B → Type 0} {Q : Mode → Tree → A → Type 0} {k : List A → B} {xs : List A}
    {start now new : ValuesLeft} {f : D → B} {x : D}
    → Items P Q k xs start now → (new ≡ now) × Ended now → f x ≡ k xs → ReadsFields {E = E} f P start (Ok x) new
items_over {P = P} {start = start} {new = new} s h e = record {
  reads = subst (λ y. GivesAll (P start.mode) start y new) (sym e) (at.list_over s.so_far h);
}

pub items_stop : {A B D E : Type 0} (tag : TagValue) {P : Mode → Trees → B → Type 0} {Q : Mode → Tree → A → Type 0} {k : List A → B}
    {xs : List A} {start now : ValuesLeft} {f : D → B} {new : ValuesLeft} {r : Result D (DecodeError E)} (e : DecodeError E)
    → Items P Q k xs start now → IsErr r × IsErrAnd r (λ x. x ≡ e) → OnContent e (LacksTagged tag (Q now.mode) now) → ReadsFields f P start r new
items_stop tag {Q = Q} {f = f} {new} {r} e s a h = record { reads = at.list_stop tag f new r e s.so_far a (weaker e (lacks_tagged_in Q s.mode) h) }

-- From the grammar down: each step is given by the goal and a fact.

-- What is left was refused, and is none of the grammar.
pub record Refused {A E : Type 0} (P : Mode → Trees → A → Type 0) (v : ValuesLeft) (e : DecodeError E) : Type 0 where
  pub lacks : OnContent e (LacksAll (P v.mode) v)

pub refused_first : {A B E : Type 0} {Q : Mode → Tree → A → Type 0} {R : Mode → Trees → B → Type 0} {v : ValuesLeft} (e : DecodeError E)
    → OnContent e (Lacks (Q v.mode) v) → Refused (λ m. Then (Q m) (R m)) v e
refused_first {R = R} {v} e h = record { lacks = weaker e (at.first_lacks (R v.mode)) h }

pub refused_next : {A B E : Type 0} {Q : Mode → Tree → A → Type 0} {R : Mode → Trees → B → Type 0} {v w : ValuesLeft} {x : A} (e : DecodeError E)
    → Gives (Q v.mode) v x w → Refused R w e → Refused (λ m. Then (Q m) (R m)) v e
refused_next {Q = Q} {R} {v} {w} e g h = record {
  lacks = weaker e (λ l. (at.next (at.begin (λ ts y. Then (Q v.mode) (R v.mode) ts y) v) g).lacks (subst (λ (m : Mode). LacksAll (R m) w) g.took.goes.mode l)) h.lacks;
}

pub refused : {A D E : Type 0} {P : Mode → Trees → A → Type 0} {start : ValuesLeft} {f : D → A} {new : ValuesLeft}
    {r : Result D (DecodeError E)} (e : DecodeError E) → IsErr r × IsErrAnd r (λ x. x ≡ e) → Refused P start e → ReadsFields f P start r new
refused {P = P} {start} {f} {new} {r} e a h = record { reads = at.stop_all f new r e (at.begin (P start.mode) start) a h.lacks }

-- What is left was read, where no read had failed before.
pub record Filled {A : Type 0} (P : Mode → Trees → A → Type 0) (v : ValuesLeft) (y : A) (u : ValuesLeft) : Type 0 where
  pub gives : v.failed ≡ false → GivesAll (P v.mode) v y u

pub filled_end : {v : ValuesLeft} → Filled (λ m. End) v tt v
filled_end {v} = record { gives = λ sound. at.done (record { gives = λ b end g. g; lacks = λ l. l; sound = λ e. sound }) }

behind : {A B : Type 0} (Q : Mode → Tree → A → Type 0) (R : Mode → Trees → B → Type 0) {v w u : ValuesLeft} {x : A} {b : B}
    → Gives (Q v.mode) v x w → Filled R w b u → GivesAll (Then (Q v.mode) (R v.mode)) v (x, b) u
behind Q R {v} {w} {u} {b = b} g h =
    (at.next (at.begin (Then (Q v.mode) (R v.mode)) v) g).gives b u (subst (λ (m : Mode). GivesAll (R m) w b u) g.took.goes.mode (h.gives g.took.goes.behind))

pub filled_next : {A B : Type 0} {Q : Mode → Tree → A → Type 0} {R : Mode → Trees → B → Type 0} {v w u : ValuesLeft} {y : A × B}
    → Gives (Q v.mode) v y.0 w → Filled R w y.1 u → Filled (λ m. Then (Q m) (R m)) v y u
filled_next {Q = Q} {R} g h = record { gives = λ e. behind Q R g h }

pub filled : {A B D E : Type 0} {Q : Mode → Tree → A → Type 0} {R : Mode → Trees → B → Type 0} {v w u : ValuesLeft} {f : D → A × B} {x : D}
    → Gives (Q v.mode) v (f x).0 w → Filled R w (f x).1 u → ReadsFields {E = E} f (λ m. Then (Q m) (R m)) v (Ok x) u
filled {Q = Q} {R} g h = record { reads = behind Q R g h }
