-- Octets of values that are kept.
use Rattle.std.proofs.Common.{◌≡◌, ℕ, ◌-◌, ◌≤◌, false, Bool, List, length, take, slice_range, Ok, Err, Option, Some, None, refl, sym, ap, ◌∙◌, subst, length-append, arith}
use Rattle.std.proofs.lemmas.List.{take_at, take_all, take-take, length-take}
use Rattle.std.specs.Fn.{FnOnceReturnsAtMut}
use Rattle.bcder_content.specs.bcder_source.declared.limited.LimitedSource.{LimitedSource}
use Rattle.bcder_content.specs.bcder_source.declared.error.DecodeError.{DecodeError}
use Rattle.bcder_content.specs.bcder_source.declared.error.DecodeError.TheVariants.{Content, Source, Memory}
use Rattle.bcder_content.specs.bcder_source.Errors.{OnContent, OnMemory}
use Rattle.bcder_content.specs.bcder_tree.Tree.{Trees, SpellsAll}
use Rattle.bcder_content.specs.bcder_source.Views.{View, Reading, left, limited, Moved}
use Rattle.bcder_content.specs.declared.constructed.Constructed.{Constructed}
use Rattle.bcder_content.specs.Contents.{ValuesLeft, octets, TookAll}
use Rattle.bcder_content.specs.Here.{here}
use Rattle.bcder_content.specs.Kept.{CapturedValue, SpellsValues}
use Rattle.bcder_content.specs.ClosureReads.{Reader}
use Rattle.bcder_content.proofs.Taking.{on_content}
use Rattle.bcder_content.specs.Captures.{rest_of, cut, ReadsSome, RefusesIn, Keeps, KeepsNone, was_refused, Wants, closure_wants, RefusedAt, refused_behind, CapturesCases, Rebased}

whole : (n : ℕ) (s : List ℕ) → n ≡ length s → take n s ≡ s
whole n s e = take_all n s (omega (arith, e))

pub slice_long : (s : List ℕ) {slice : List ℕ} {n : ℕ} → slice ≡ take n s → n ≡ length s → length slice ≡ length s
slice_long s {slice} {n} d e = ap length (d ∙ whole n s e)

-- A slice of all octets that may be read of a content is the content cut.
pub starts : (v : ValuesLeft) {source : LimitedSource Reading} {mid : LimitedSource Reading} {inner : Reading} {slice : List ℕ} {n : ℕ} → v.failed ≡ false → source ≡ record { source = mid.source; limit = v.limit } → mid ≡ record { source = inner; limit = None } → inner ≡ record { rest = slice; position = 0 } → slice ≡ take n (left (octets v)) → n ≡ length (left (octets v)) → ◌≡◌ {A = ValuesLeft} (record { mode = v.mode; end = v.end; failed = false; rest = source.source.rest; limit = source.limit }) (cut v)
starts v {source} {mid} {inner} {slice} {n} sound a b c d e =
    let rest : source.source.rest ≡ left (octets v) = ap (λ (z : LimitedSource Reading). z.source.rest) a ∙ ap (λ (z : LimitedSource Reading). z.source.rest) b ∙ ap (λ (z : Reading). z.rest) c ∙ d ∙ whole n (left (octets v)) e in
    let limit : source.limit ≡ v.limit = ap (λ (z : LimitedSource Reading). z.limit) a in
    ap (λ (l : Option ℕ). let w : ValuesLeft = record { mode = v.mode; end = v.end; failed = false; rest = source.source.rest; limit = l } in w) limit
    ∙ ap (λ (s : List ℕ). let w : ValuesLeft = record { mode = v.mode; end = v.end; failed = false; rest = s; limit = v.limit } in w) rest
    ∙ ap (λ (f : Bool). let w : ValuesLeft = record { mode = v.mode; end = v.end; failed = f; rest = left (octets v); limit = v.limit } in w) (sym sound)

pub reads_some : {F E : Type 0} {g : Reader F (Constructed Reading) (Unit {0}) E} {op : F} {v : ValuesLeft} (given stop : Constructed Reading) (total behind : ℕ) → here rest_of given ≡ cut v → FnOnceReturnsAtMut g op given (Ok tt) stop → (ts : Trees) → TookAll (here rest_of given) ts (here rest_of stop) → total ≡ length (left (octets v)) → behind ≡ length (here rest_of stop).rest → ReadsSome g op v (total - behind)
reads_some {F} {E} {g} {op} {v} given stop total behind start met ts took all rest =
    let k = subst (λ (w : ValuesLeft). TookAll w ts (here rest_of stop)) start took in
    record {
      end = here rest_of stop;
      ran = record { given = given; left = stop; starts = start; met = met; ends = refl };
      trees = ts;
      took = k;
      long = omega (arith, all, rest, ap length k.goes.moved.rest, length-append k.text (here rest_of stop).rest);
    }

-- What was captured spells values.
pub spells_kept : {F E : Type 0} {g : Reader F (Constructed Reading) (Unit {0}) E} {op : F} {v : ValuesLeft} {count : ℕ} (s : ReadsSome g op v count) (bytes : List ℕ) → bytes ≡ slice_range (left (octets v)) 0 count → s.took.text ≡ bytes
spells_kept {v = v} {count} s bytes e =
    let front : take count (left (octets v)) ≡ s.took.text = ap (λ (z : List ℕ). take count z) s.took.goes.moved.rest ∙ take_at s.took.text s.end.rest count s.long in
    let n : count - 0 ≡ count = omega arith in
    sym (e ∙ ap (λ (k : ℕ). take k (left (octets v))) n ∙ front)

pub captures_refused : {F D E : Type 0} {g : Reader F (Constructed Reading) (Unit {0}) D} {op : F} {v new : ValuesLeft} (start : ℕ) (e : DecodeError D) (r : DecodeError E) → RefusesIn g op v e → Rebased start e r → new ≡ v → CapturesCases g op v (Err r) new
captures_refused {g = g} {op} {v} {new} start (Content x pos) r h same n = (n, subst (λ (z : DecodeError _). OnContent z (KeepsNone g op v)) (sym same) (was_refused x pos h.end h.ran))
captures_refused {g = g} {op} {v} start (Source x) r h same n = absurd same
captures_refused {g = g} {op} {v} start Memory r h same n = (n, subst (λ (z : DecodeError _). OnContent z (KeepsNone g op v)) (sym same) tt)

-- A refusal by the closure is answered at its place.
pub refused_place : {F D E : Type 0} {g : Reader F (Constructed Reading) (Unit {0}) D} {op : F} {v : ValuesLeft} (start : ℕ) (e : DecodeError D) (r : DecodeError E) → RefusesIn g op v e → Rebased start e r → OnContent r (RefusedAt g op v start r)
refused_place start (Content x pos) r h same = on_content r (refused_behind x pos h.end h.ran same)
refused_place start (Source x) r h same = absurd same
refused_place {g = g} {op} {v} start Memory r h same = subst (λ (z : DecodeError _). OnContent z (RefusedAt g op v start z)) (sym same) tt

-- Lack of memory that is passed on is the closure's.
pub wants_rebased : {F D E : Type 0} {g : Reader F (Constructed Reading) (Unit {0}) D} {op : F} {v : ValuesLeft} (start : ℕ) (e : DecodeError D) (r : DecodeError E) → RefusesIn g op v e → Rebased start e r → OnMemory r (Wants g op v)
wants_rebased {g = g} {op} {v} start (Content x pos) r h same = subst (λ (z : DecodeError _). OnMemory z (Wants g op v)) (sym same) tt
wants_rebased start (Source x) r h same = absurd same
wants_rebased {g = g} {op} {v} start Memory r h same = subst (λ (z : DecodeError _). OnMemory z (Wants g op v)) (sym same) (closure_wants h.end h.ran)

-- The content, over a source of which the same is left.
abbrev pub over : ValuesLeft → View → ValuesLeft
over v w = record { mode = v.mode; end = v.end; failed = v.failed; rest = w.rest; limit = w.limit }

step_text : {old new : View} (n : ℕ) → n ≤ length (left old) → Moved old (take n old.rest) new → take n old.rest ≡ take n (left old)
step_text {old} {new} n there m = at old.limit refl
  where
    at : (l : Option ℕ) → old.limit ≡ l → take n old.rest ≡ take n (left old)
    at None e = ap (λ (z : Option ℕ). take n (limited z old.rest)) (sym e)
    at (Some k) e =
        let room : n ≤ k = omega (arith, there, ap (λ (z : Option ℕ). length (limited z old.rest)) e, length-take k old.rest) in
        sym (take-take n k old.rest room) ∙ ap (λ (z : Option ℕ). take n (limited z old.rest)) (sym e)

-- What was read of the slice is read of the content.
pub captured : {F D : Type 0} {g : Reader F (Constructed Reading) (Unit {0}) D} {op : F} {v : ValuesLeft} {mid new : View} {count : ℕ} {c : CapturedValue} (bytes : List ℕ) → mid ≡ octets v → v.failed ≡ false → ReadsSome g op (over v mid) count → bytes ≡ slice_range (left mid) 0 count → count ≤ length (left mid) → Moved mid (take count mid.rest) new → c ≡ record { mode = v.mode; octets = bytes } → Keeps g op v c (over v new)
captured {F} {D} {g} {op} {v} {mid} {new} {count} {c} bytes same sound some kept there moved is =
    let s = subst (λ (w : View). ReadsSome g op (over v w) count) same some in
    let octets_are : bytes ≡ slice_range (left (octets v)) 0 count = kept ∙ ap (λ (w : View). slice_range (left w) 0 count) same in
    let n : count - 0 ≡ count = omega arith in
    let text : take count mid.rest ≡ c.octets = step_text count there moved ∙ ap (λ (k : ℕ). take k (left mid)) (sym n) ∙ sym kept ∙ sym (ap (λ (z : CapturedValue). z.octets) is) in
    record {
      end = s.end;
      ran = s.ran;
      trees = s.trees;
      took = s.took;
      kept = spells_kept s bytes octets_are ∙ sym (ap (λ (z : CapturedValue). z.octets) is);
      mode = ap (λ (z : CapturedValue). z.mode) is;
      goes = record {
        moved = subst (λ (w : View). Moved w c.octets new) same (subst (λ (z : List ℕ). Moved mid z new) text moved);
        mode = refl;
        end = refl;
        before = sound;
        behind = sound;
      };
    }

-- What was captured spells values.
pub spelled_values : {F E : Type 0} {g : Reader F (Constructed Reading) (Unit {0}) E} {op : F} {v : ValuesLeft} {count : ℕ} → ReadsSome g op v count → (bytes : List ℕ) → bytes ≡ slice_range (left (octets v)) 0 count → SpellsValues v.mode bytes
spelled_values {v = v} s bytes e = record { trees = s.trees; spelled = subst (SpellsAll v.mode s.trees) (spells_kept s bytes e) s.took.spelled }
