-- A field that says what comes after it.
use Rattle.std.proofs.Common.{◌≡◌, Bool, true, Result, Err, refl, subst, ◌∙◌}
use Rattle.std.specs.Result.{IsErr, IsErrAnd}
use Rattle.bcder_content.specs.bcder_tree.declared.mode.Mode.{Mode}
use Rattle.bcder_content.specs.bcder_tree.Tree.{Tree, Trees, more}
use Rattle.bcder_content.specs.bcder_source.Errors.{OnContent}
use Rattle.bcder_content.specs.bcder_source.declared.error.DecodeError.{DecodeError}
use Rattle.bcder_content.specs.Contents.{ValuesLeft, Whole}
use Rattle.bcder_content.specs.Exact.{Gives, Lacks, LacksAll}
use Rattle.bcder_content.specs.Grammar.{One}
use Rattle.bcder_content.specs.InMode.{ReadsFields}
use Rattle.bcder_content.specs.Words.{ThenBy}
use Rattle.bcder_content.proofs.Forests as at
use Rattle.bcder_content.proofs.InMode.{Fields}
use Rattle.bcder_content.proofs.Modes.{gives_in, lacks_in}
use Rattle.bcder_content.proofs.Taking.{weaker, on_content}
use Rattle.bcder_content.proofs.Took.{took_more, whole_first, whole_others}

behind_lacks : {A B : Type 0} {Q : Tree → A → Type 0} {R : A → Trees → B → Type 0} {now new : ValuesLeft} {x : A}
    → One Q → Gives Q now x new → LacksAll (R x) new → LacksAll (ThenBy Q R) now
behind_lacks {Q = Q} {R} {now} {x = x} one g l = record {
  none = λ ts y p w.
      let o = whole_others g.took (subst (Whole now) p.whole w) in
      let same = one.one p.first y.0 x p.is (subst (λ (u : Tree). Q u x) o.0 g.is) in
      l.none p.others y.1 (subst (λ z. R z p.others y.1) same p.rest) o.1;
}

read_by : {A B C : Type 0} {P : Trees → A → Type 0} {Q : Tree → B → Type 0} {R : B → Trees → C → Type 0} {k : B × C → A}
    {start now new : ValuesLeft} {some : Bool} {x : B}
    → One Q → at.Reading P (ThenBy Q R) k start now some → Gives Q now x new → at.Reading P (R x) (λ b. k (x, b)) start new true
read_by {x = x} one s g = record {
  gives = λ b end h. s.gives (x, b) end (record {
    trees = more g.tree h.trees;
    took = took_more g.took h.took;
    is = record { first = g.tree; others = h.trees; whole = refl; is = g.is; rest = h.is };
    only = λ goes_on. behind_lacks one g (h.only goes_on);
  });
  lacks = λ l. s.lacks (behind_lacks one g l);
  sound = λ e. g.took.goes.behind;
}

-- The field was read.
pub next_by : {A B C : Type 0} {P : Mode → Trees → A → Type 0} {Q : Mode → Tree → B → Type 0} {R : Mode → B → Trees → C → Type 0} {k : B × C → A}
    {start now new : ValuesLeft} {some : Bool} {x : B}
    → ((m : Mode) → One (Q m)) → Fields P (λ m. ThenBy (Q m) (R m)) k start now some → Gives (Q now.mode) now x new
    → Fields P (λ m. R m x) (λ b. k (x, b)) start new true
next_by {Q = Q} one s g = record { so_far = read_by (one _) s.so_far (gives_in Q s.mode g); mode = g.took.goes.mode ∙ s.mode }

-- It was refused, and `?` passes that on.
pub stop_by : {A B C D E : Type 0} {P : Mode → Trees → A → Type 0} {Q : Mode → Tree → B → Type 0} {R : Mode → B → Trees → C → Type 0}
    {k : B × C → A} {start now : ValuesLeft} {some : Bool} {f : D → A} {new : ValuesLeft} {r : Result D (DecodeError E)} (e : DecodeError E)
    → Fields P (λ m. ThenBy (Q m) (R m)) k start now some → IsErr r × IsErrAnd r (λ x. x ≡ e) → OnContent e (Lacks (Q now.mode) now)
    → ReadsFields f P start r new
stop_by {Q = Q} {now = now} {f = f} {new} {r} e s a h = record {
  reads = at.stop_all f new r e s.so_far a (weaker e (λ l. record { none = λ ts y p w. (lacks_in Q s.mode l).none p.first y.0 p.is (whole_first (subst (Whole now) p.whole w)) }) h);
}

-- What is left is of T, as the field said.
pub told_by : {A B C : Type 0} {P : Mode → Trees → A → Type 0} {R : Mode → Trees → B → Type 0} {T : Mode → Trees → C → Type 0} {k : B → A}
    {start now : ValuesLeft} {some : Bool} (j : C → B)
    → Fields P R k start now some → ((m : Mode) (ts : Trees) (c : C) → T m ts c → R m ts (j c))
    → ((m : Mode) (ts : Trees) (b : B) → R m ts b → (c : C) × T m ts c) → Fields P T (λ c. k (j c)) start now some
told_by {R = R} {T} {start = start} {now} j s to from = record {
  so_far = record {
    gives = λ c end h. s.so_far.gives (j c) end (record { trees = h.trees; took = h.took; is = to _ h.trees c h.is; only = λ goes_on. back (h.only goes_on) });
    lacks = λ l. s.so_far.lacks (back l);
    sound = s.so_far.sound;
  };
  mode = s.mode;
}
  where
    back : LacksAll (T start.mode) now → LacksAll (R start.mode) now
    back l = record { none = λ ts b p w. let q = from _ ts b p in l.none ts q.0 q.1 w }

-- Nothing can come after what the field said.
pub none_told : {A B D E : Type 0} {P : Mode → Trees → A → Type 0} {R : Mode → Trees → B → Type 0} {k : B → A} {start now : ValuesLeft}
    {some : Bool} {f : D → A} {new : ValuesLeft} {e : DecodeError E}
    → Fields P R k start now some → ((m : Mode) (ts : Trees) (b : B) → R m ts b → ⊥) → ReadsFields f P start (Err e) new
none_told {e = e} s none = record { reads = on_content e (s.so_far.lacks (record { none = λ ts b p w. none _ ts b p })) }
