-- A loop over the values of a SEQUENCE OF that are tested together.
use Rattle.std.proofs.Common.{◌≡◌, List, [], ◌∷◌, ◌++◌, Result, Ok, refl, sym, ap, ◌∙◌, subst, append_assoc}
use Rattle.std.specs.Result.{IsErr, IsErrAnd}
use Rattle.bcder_content.specs.bcder_tree.declared.mode.Mode.{Mode}
use Rattle.bcder_content.specs.bcder_tree.Tags.{TagValue}
use Rattle.bcder_content.specs.bcder_tree.Tree.{Tree, Trees}
use Rattle.bcder_content.specs.bcder_source.Errors.{OnContent}
use Rattle.bcder_content.specs.bcder_source.declared.error.DecodeError.{DecodeError}
use Rattle.bcder_content.specs.Contents.{ValuesLeft, Whole, Unlike}
use Rattle.bcder_content.specs.Exact.{Gives, LacksTagged, LacksAll, GivesAll}
use Rattle.bcder_content.specs.Grammar.{Many, ManyCases, One, Tagged}
use Rattle.bcder_content.specs.InMode.{ReadsFields}
use Rattle.bcder_content.specs.Words.{Gathers}
use Rattle.bcder_content.proofs.Forests.{Listing, begin, list_begin, list_next, list_end, many_lacks, stop_all}
use Rattle.bcder_content.proofs.Modes.{gives_in, lacks_tagged_in}
use Rattle.bcder_content.proofs.Taking.{weaker}
use Rattle.bcder_content.proofs.Took.{ended_none, whole_none, whole_others}

-- The loop has read xs, which say s; and all that stands there from the start on begins with them.
pub record Gathered {A S : Type 0} (Q : Mode → Tree → A → Type 0) (R : List A → S → Type 0) (start now : ValuesLeft) (s : S)
    : Type 0 where
  pub xs : List A
  pub says : R xs s
  pub mode : now.mode ≡ start.mode
  pub listing : Listing (Many (Q start.mode)) (Q start.mode) (λ ys. ys) xs start now
  pub splits : (ts : Trees) (zs : List A) → ManyCases (Q start.mode) ts zs → Whole start ts
      → (us : Trees) × (ys : List A) × ManyCases (Q start.mode) us ys × Whole now us × (zs ≡ xs ++ ys)

pub gather_begin : {A S : Type 0} {Q : Mode → Tree → A → Type 0} {R : List A → S → Type 0} {v : ValuesLeft} {s : S} → R [] s
    → Gathered Q R v v s
gather_begin {Q = Q} {v = v} r = record {
  xs = [];
  says = r;
  mode = refl;
  listing = list_begin (begin (Many (Q v.mode)) v);
  splits = λ ts zs p w. (ts, zs, p, w, refl);
}

-- What stands there begins with the value that was read, too.
more_splits : {A S : Type 0} {Q : Mode → Tree → A → Type 0} {R : List A → S → Type 0} {start now new : ValuesLeft} {s : S} {x : A}
    → One (Q start.mode) → (h : Gathered Q R start now s) → Gives (Q start.mode) now x new
    → (ts : Trees) (zs : List A) → ManyCases (Q start.mode) ts zs → Whole start ts
    → (us : Trees) × (ys : List A) × ManyCases (Q start.mode) us ys × Whole new us × (zs ≡ (h.xs ++ (x ∷ [])) ++ ys)
more_splits {A} {Q = Q} {start = start} {now} {new} {x = x} one h g ts zs p w =
    let s = h.splits ts zs p w in
    at s.0 s.1 s.2 s.3 s.4
  where
    at : (us : Trees) (ys : List A) → ManyCases (Q start.mode) us ys → Whole now us → zs ≡ h.xs ++ ys
        → (us : Trees) × (ys : List A) × ManyCases (Q start.mode) us ys × Whole new us × (zs ≡ (h.xs ++ (x ∷ [])) ++ ys)
    at us [] q v e = absurd (ended_none (whole_none (subst (Whole now) q v)) g.took)
    at us (y ∷ ys) q v e =
        let o = whole_others g.took (subst (Whole now) q.2 v) in
        let same : y ≡ x = one.one q.0 y x q.3 (subst (λ (u : Tree). Q start.mode u x) o.0 g.is) in
        (q.1, ys, q.4, o.1, e ∙ ap (λ (z : A). h.xs ++ (z ∷ ys)) same ∙ sym (append_assoc h.xs (x ∷ []) ys))

-- One more value was read, and the list with it says t.
pub gather_next : {A S : Type 0} {Q : Mode → Tree → A → Type 0} {R : List A → S → Type 0} {start now new : ValuesLeft} {s t : S} {x : A}
    → ((m : Mode) → One (Q m)) → (h : Gathered Q R start now s) → Gives (Q now.mode) now x new → R (h.xs ++ (x ∷ [])) t → Gathered Q R start new t
gather_next {Q = Q} {x = x} one h g r =
    let moved = gives_in Q h.mode g in
    record {
      xs = h.xs ++ (x ∷ []);
      says = r;
      mode = g.took.goes.mode ∙ h.mode;
      listing = list_next h.listing moved refl;
      splits = more_splits (one _) h moved;
    }

all_lack : {A S : Type 0} {Q : Tree → A → Type 0} {R : List A → S → Type 0} {start : ValuesLeft} → LacksAll (Many Q) start
    → LacksAll (Gathers Q R) start
all_lack l = record { none = λ ts v p w. l.none ts p.xs p.are w }

-- The next value isn't of Q, and `?` passes that on.
pub gather_stop : {A S D E : Type 0} (tag : TagValue) {Q : Mode → Tree → A → Type 0} {R : List A → S → Type 0} {start now : ValuesLeft} {s : S}
    {f : D → S} {new : ValuesLeft} {r : Result D (DecodeError E)} (e : DecodeError E)
    → Gathered Q R start now s → IsErr r × IsErrAnd r (λ x. x ≡ e) → OnContent e (LacksTagged tag (Q now.mode) now)
    → ReadsFields f (λ m. Gathers (Q m) R) start r new
gather_stop tag {Q = Q} {R} {start = start} {f = f} {new} {r} e h a l = record {
  reads = stop_all f new r e (begin (Gathers (Q start.mode) R) start) a (weaker e (λ o. let moved = lacks_tagged_in Q h.mode o in all_lack (h.listing.lacks (many_lacks moved.lacks moved.goes_on))) l);
}

-- The next value is, and no list that goes on with it says anything.
pub gather_refused : {A S : Type 0} {Q : Mode → Tree → A → Type 0} {R : List A → S → Type 0} {start now new : ValuesLeft} {s : S} {x : A}
    → ((m : Mode) → One (Q m)) → (h : Gathered Q R start now s) → Gives (Q now.mode) now x new
    → ((ys : List A) (t : S) → R (h.xs ++ (x ∷ ys)) t → ⊥) → LacksAll (Gathers (Q start.mode) R) start
gather_refused {Q = Q} {R} {x = x} one h g refuses = record {
  none = λ ts t p w.
      let s = more_splits (one _) h (gives_in Q h.mode g) ts p.xs p.are.cases w in
      refuses s.1 t (subst (λ (zs : List _). R zs t) (s.4 ∙ append_assoc h.xs (x ∷ []) s.1) p.says);
}

-- No value of that tag is next.
pub gather_end : {A S D E : Type 0} {tag : TagValue} {Q : Mode → Tree → A → Type 0} {R : List A → S → Type 0} {start now new : ValuesLeft} {s : S}
    {f : D → S} {x : D}
    → Gathered Q R start now s → ((m : Mode) → Tagged tag (Q m)) → (new ≡ now) × Unlike now tag → f x ≡ s
    → ReadsFields {E = E} f (λ m. Gathers (Q m) R) start (Ok x) new
gather_end {Q = Q} {R} {start = start} {new = new} h g u e =
    let all = list_end h.listing (g _) u in
    record {
      reads = subst (λ y. GivesAll (Gathers (Q start.mode) R) start y new) (sym e) (record {
        trees = all.trees;
        took = all.took;
        is = record { xs = h.xs; are = all.is; says = h.says };
        only = λ goes_on. all_lack (all.only goes_on);
      });
    }
