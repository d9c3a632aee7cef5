-- Skipping values of a content.
use Rattle.std.proofs.Common.{◌≡◌, ℕ, Bool, Result, Ok, Err, Option, Some, None, refl, sym, subst}
use Rattle.bcder_content.specs.bcder_source.declared.error.ContentError.{ContentError}
use Rattle.bcder_content.specs.bcder_source.declared.error.DecodeError.{DecodeError}
use Rattle.bcder_content.specs.bcder_source.declared.error.DecodeError.TheVariants.{Content, Source, Memory}
use Rattle.bcder_content.specs.bcder_tree.Tags.{TagValue}
use Rattle.bcder_content.specs.bcder_tree.Tree.{Tree, Trees, none, more}
use Rattle.bcder_content.specs.bcder_source.Views.{left}
use Rattle.bcder_content.specs.Contents.{ValuesLeft, octets, Took, TookAll, Ended, Whole}
use Rattle.bcder_content.specs.Exact.{Lacks, ReadsNextAs}
use Rattle.bcder_content.specs.Grammar.{Any}
use Rattle.bcder_content.specs.Skips.{Visits, Stops, StopsNext, SkipsOpt, SkipsAll, NotWhole}
use Rattle.bcder_content.proofs.Took.{took_front, took_none, took_more, ended_none, whole_none, whole_first, whole_others}

-- What stops the skipping in front stops it at the next value.
pub stops_next : {F : Type 0} (step : Visits F) (p : F) (old mid : ValuesLeft) (error : ContentError) → mid ≡ old → Stops mid.mode 0 step p (octets mid) error → StopsNext step p old error
stops_next {F} step p old mid error e s = subst (λ (v : ValuesLeft). StopsNext step p v error) e (record { refused = λ t a. s.refused t (left (octets a.0)) (took_front a.1) })

-- Where a content has ended no value is next.
pub ended_stops : {F : Type 0} (step : Visits F) (p : F) (old : ValuesLeft) (error : ContentError) → Ended old → StopsNext step p old error
ended_stops step p old error e = record { refused = λ t a. absurd (ended_none e a.1) }

-- What the loop over all values keeps.
pub record AllUnder (start now : ValuesLeft) : Type 0 where
  pub back : (ts : Trees) (end : ValuesLeft) → TookAll now ts end → (us : Trees) × TookAll start us end
  pub on : (us : Trees) → Whole start us → (ts : Trees) × Whole now ts
  pub stays : Ended start → now ≡ start

pub all_first : (start : ValuesLeft) → AllUnder start start
all_first start = record { back = λ ts end t. (ts, t); on = λ us w. (us, w); stays = λ e. refl }

whole_next : (v w : ValuesLeft) (t : Tree) → Took v t w → (ts : Trees) → Whole v ts → (us : Trees) × Whole w us
whole_next v w t k none x = absurd (ended_none (whole_none x) k)
whole_next v w t k (more u us) x = (us, (whole_others k x).1)

pub all_next : (start v w : ValuesLeft) (t : Tree) → AllUnder start v → Took v t w → AllUnder start w
all_next start v w t u k = record {
  back = λ ts end a. u.back (more t ts) end (took_more k a);
  on = λ us x. let y = u.on us x in whole_next v w t k y.0 y.1;
  stays = λ e. absurd (ended_none e (subst (λ (z : ValuesLeft). Took z t w) (u.stays e) k));
}

pub all_done : (start now new : ValuesLeft) → AllUnder start now → new ≡ now → Ended now → SkipsAll start new
all_done start now new u e ended =
    let b = u.back none now (took_none ended.sound) in
    subst (λ (v : ValuesLeft). SkipsAll start v) (sym e) (record { trees = b.0; took = b.1; ended = ended })

not_whole : (v : ValuesLeft) → Lacks Any v → (Ended v → ⊥) → (ts : Trees) → Whole v ts → ⊥
not_whole v l g none x = g (whole_none x)
not_whole v l g (more t ts) x = l.none t tt (record { any = tt }) (whole_first x)

pub all_refused : (start now : ValuesLeft) → AllUnder start now → Lacks Any now × (Ended now → ⊥) → NotWhole start
all_refused start now u l = record { none = λ ts x. let y = u.on ts x in not_whole now l.0 l.1 y.0 y.1 }

-- Where the content goes on now, it had not ended at the start.
pub all_unended : (start now : ValuesLeft) → AllUnder start now → (Ended now → ⊥) → Ended start → ⊥
all_unended start now u g e = g (subst Ended (sym (u.stays e)) e)

-- A visitor that refuses nothing skips any value.
pub skip_any : {F E : Type 0} (step : Visits F) (p : F) (old : ValuesLeft) (r : Result (Option (Unit {0})) (DecodeError E)) (new : ValuesLeft) → ((a : F) (t : TagValue) (k : Bool) (d : ℕ) (error : ContentError) (b : F) → step a t k d (Err error) b → ⊥) → SkipsOpt step p old r new → ReadsNextAs (λ x. x) Any old r new
skip_any step p old (Ok (Some x)) new never s = record { tree = s.tree; is = record { any = tt }; took = s.took }
skip_any step p old (Ok None) new never s = s
skip_any step p old (Err (Content error pos)) new never s = (record { none = λ t x h a. let r = s.0.refused t a in never r.before r.node.tag r.node.form r.node.depth error r.after r.refused }, s.1)
skip_any step p old (Err (Source error)) new never s = tt
skip_any step p old (Err Memory) new never s = tt
