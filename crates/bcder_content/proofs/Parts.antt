-- Captured octets of which a part was read.
use Rattle.std.proofs.Common.{◌≡◌, ℕ, ◌-◌, List, [], ◌++◌, length, drop, Ok, Option, Some, None, refl, sym, ap, ◌∙◌, subst, append-nil, length-append, arith}
use Rattle.std.proofs.Math.Seq.{drop-append_seam}
use Rattle.std.specs.Fn.{FnOnceReturnsAtMut}
use Rattle.bcder_content.specs.bcder_tree.declared.mode.Mode.{Mode}
use Rattle.bcder_content.specs.bcder_tree.Tree.{Trees, none, more, SpellsAll}
use Rattle.bcder_content.specs.bcder_source.Views.{Reading, left, limited, more_limit}
use Rattle.bcder_content.specs.declared.ending.Ending.{Ending}
use Rattle.bcder_content.specs.declared.ending.Ending.TheVariants.{Unbounded}
use Rattle.bcder_content.specs.declared.constructed.Constructed.{Constructed}
use Rattle.bcder_content.specs.Contents.{ValuesLeft, octets, Took, TookAll, EndsHere, Whole}
use Rattle.bcder_content.specs.Here.{here}
use Rattle.bcder_content.specs.Kept.{SpellsValues}
use Rattle.bcder_content.specs.ClosureReads.{Reader, fresh}
use Rattle.bcder_content.specs.Captures.{rest_of, ReadsFront}
use Rattle.bcder_content.proofs.Took.{more_splits, whole_others, whole_none, ended_none, none_stays}

-- What is left after values of a content is values again.
behind_values : {v w : ValuesLeft} {us : Trees} (ts : Trees) → TookAll v ts w → Whole v us → (ws : Trees) × Whole w ws
behind_values {us = us} none k h = (us, subst (λ (z : ValuesLeft). Whole z us) (none_stays k) h)
behind_values {v} {w} {us} (more t ts) k h = let s = more_splits k in at us h s.behind s.first (λ vs rest. behind_values {v = s.behind} {w = w} {us = vs} ts s.others rest)
  where
    at : (us : Trees) → Whole v us → (b : ValuesLeft) → Took v t b → ((vs : Trees) → Whole b vs → (ws : Trees) × Whole w ws) → (ws : Trees) × Whole w ws
    at none h b first others = absurd (ended_none (whole_none h) first)
    at (more u us) h b first others = others us (whole_others first h).1

-- All of a source are these values.
whole_source : (m : Mode) (o : List ℕ) (ts : Trees) → SpellsAll m ts o → Whole (fresh m o) ts
whole_source m o ts s = record {
  behind = fresh m [];
  took = record { text = o; spelled = s; goes = record { moved = record { rest = sym (append-nil o); limit = refl }; mode = refl; end = refl; before = refl; behind = refl } };
  ended = record { sound = refl; ends = refl };
}

-- What is left of a source whose octets spell values spells values.
pub rest_spelled : {m : Mode} {o : List ℕ} {w : ValuesLeft} {ts : Trees} → SpellsValues m o → TookAll (fresh m o) ts w → SpellsValues m w.rest
rest_spelled {m} {o} {w} {ts} s k =
    let h = behind_values ts k (whole_source m o s.trees s.spelled) in
    let b = h.1 in
    let kind : b.behind.end ≡ Unbounded = b.took.goes.end ∙ k.goes.end in
    let free : w.limit ≡ None = no_limit k.text w.limit k.goes.moved.limit in
    let ends : left (octets b.behind) ≡ [] = subst (λ (e : Ending). EndsHere e (octets b.behind)) kind b.ended.ends in
    let beyond : b.behind.limit ≡ None = no_limit b.took.text b.behind.limit (sym free ∙ b.took.goes.moved.limit) in
    let none : b.behind.rest ≡ [] = sym (ap (λ (l : Option ℕ). limited l b.behind.rest) beyond) ∙ ends in
    let text : b.took.text ≡ w.rest = sym (append-nil b.took.text) ∙ ap (λ (z : List ℕ). b.took.text ++ z) (sym none) ∙ sym b.took.goes.moved.rest in
    record { trees = h.0; spelled = subst (SpellsAll m h.0) text (subst (λ (z : Mode). SpellsAll z h.0 b.took.text) k.goes.mode b.took.spelled) }
  where
    no_limit : (text : List ℕ) (l : Option ℕ) → None ≡ more_limit (length text) l → l ≡ None
    no_limit text None e = refl
    no_limit text (Some n) e = absurd cc

pub front_read : {F T E : Type 0} {g : Reader F (Constructed Reading) T E} {op : F} {m : Mode} {o : List ℕ} {x : T} (given stop : Constructed Reading) (behind : ℕ) → here rest_of given ≡ fresh m o → FnOnceReturnsAtMut g op given (Ok x) stop → (ts : Trees) → TookAll (here rest_of given) ts (here rest_of stop) → behind ≡ length (here rest_of stop).rest → ReadsFront g op m o x (length o - behind)
front_read {m = m} {o} given stop behind start met ts took rest =
    let k = subst (λ (w : ValuesLeft). TookAll w ts (here rest_of stop)) start took in
    record {
      end = here rest_of stop;
      ran = record { given = given; left = stop; starts = start; met = met; ends = refl };
      trees = ts;
      took = k;
      long = omega (arith, rest, ap length k.goes.moved.rest, length-append k.text (here rest_of stop).rest);
    }

-- What comes after the octets that were read.
pub rest_behind : {F T E : Type 0} {g : Reader F (Constructed Reading) T E} {op : F} {m : Mode} {o : List ℕ} {x : T} {count : ℕ} (r : ReadsFront g op m o x count) → drop count o ≡ r.end.rest
rest_behind {o = o} {count = count} r =
    ap (λ (z : List ℕ). drop count z) r.took.goes.moved.rest ∙ ap (λ (n : ℕ). drop n (r.took.text ++ r.end.rest)) (sym r.long) ∙ drop-append_seam r.took.text r.end.rest
