-- What capturing was: values read by a closure, and their octets kept.
use Rattle.std.specs.Prelude.{◌≡◌, ◌+◌, ◌-◌, ◌^◌, ◌≤◌, ℕ, min, true, List, length, Result, Ok, Err}
use denote.Ref.{MutBor}
use Rattle.bcder_content.specs.bcder_tree.declared.mode.Mode.{Mode}
use Rattle.bcder_content.specs.bcder_source.declared.pos.Pos.{Pos}
use Rattle.bcder_content.specs.bcder_source.declared.error.ContentError.{ContentError}
use Rattle.bcder_content.specs.bcder_source.declared.error.DecodeError.{DecodeError}
use Rattle.bcder_content.specs.bcder_source.declared.error.DecodeError.TheVariants.{Content, Source, Memory}
use Rattle.bcder_content.specs.bcder_source.Errors.{OnContent}
use Rattle.bcder_content.specs.bcder_tree.Tree.{Trees}
use Rattle.bcder_content.specs.bcder_source.Views.{Reading, left}
use Rattle.bcder_content.specs.declared.constructed.Constructed.{Constructed}
use Rattle.bcder_content.specs.Contents.{ValuesLeft, octets, Goes, TookAll, Ended}
use Rattle.bcder_content.specs.Here.{here}
use Rattle.bcder_content.specs.Kept.{CapturedValue}
use Rattle.bcder_content.specs.ClosureReads.{Reader, ClosureReadsIn, fresh}

-- What is left of a slice.
abbrev pub rest_of : Reading → List ℕ
rest_of r = r.rest

-- A content, over the octets alone that may be read of it.
abbrev pub cut : ValuesLeft → ValuesLeft
cut v = record {
  mode = v.mode;
  end = v.end;
  failed = v.failed;
  rest = left (octets v);
  limit = v.limit;
}

-- Where the closure answers, it has read values, in the content's mode.
pub record ReadsValues {F S T E : Type 0} (rest : S → List ℕ) (g : Reader F (Constructed S) T E)
    (op : F) : Type 0 where
  pub each : (p q : MutBor (Constructed S)) (x : T) → g.post op (p, tt) (Ok x, (q, tt))
      → (ts : Trees) × TookAll (here rest p.now) ts (here rest q.now)

-- The closure answered, and has read values of so many octets.
pub record ReadsSome {F E : Type 0} (g : Reader F (Constructed Reading) (Unit {0}) E) (op : F)
    (v : ValuesLeft) (count : ℕ) : Type 0 where
  pub end : ValuesLeft
  pub ran : ClosureReadsIn rest_of g op (cut v) (Ok tt) end
  pub trees : Trees
  pub took : TookAll (cut v) trees end
  pub long : length took.text ≡ count

-- The closure refused.
pub record RefusesIn {F D : Type 0} (g : Reader F (Constructed Reading) (Unit {0}) D) (op : F)
    (v : ValuesLeft) (e : DecodeError D) : Type 0 where
  pub end : ValuesLeft
  pub ran : ClosureReadsIn rest_of g op (cut v) (Err e) end

-- Why the octets were refused, and where: a read was refused before, or the closure refused, and its position counts
-- from where capturing began.
pub data RefusedAt {F D E : Type 0} (g : Reader F (Constructed Reading) (Unit {0}) D) (op : F)
    (v : ValuesLeft) (start : ℕ) (e : DecodeError E) : Type 0 where
  refused_before : v.failed ≡ true → RefusedAt g op v start e
  refused_behind : (x : ContentError) (pos : Pos) (end : ValuesLeft)
      → ClosureReadsIn rest_of g op (cut v) (Err (Content x pos)) end
      → e ≡ Content x (min (start + pos) (2 ^ 64 - 1)) → RefusedAt g op v start e

-- Memory is wanted: by the closure, or for the octets of values that it read, which are some.
pub data Wants {F D : Type 0} (g : Reader F (Constructed Reading) (Unit {0}) D) (op : F)
    (v : ValuesLeft) : Type 0 where
  closure_wants : (end : ValuesLeft) → ClosureReadsIn rest_of g op (cut v) (Err Memory) end
      → Wants g op v
  octets_want : (count : ℕ) → 1 ≤ count → ReadsSome g op v count → Wants g op v

-- The closure read values from the content's octets, which are kept, and now are read of the content too.
pub record Keeps {F E : Type 0} (g : Reader F (Constructed Reading) (Unit {0}) E) (op : F)
    (v : ValuesLeft) (c : CapturedValue) (new : ValuesLeft) : Type 0 where
  pub end : ValuesLeft
  pub ran : ClosureReadsIn rest_of g op (cut v) (Ok tt) end
  pub trees : Trees
  pub took : TookAll (cut v) trees end
  pub kept : took.text ≡ c.octets
  pub mode : c.mode ≡ v.mode
  pub goes : Goes v c.octets new

-- Why nothing was captured: a read was refused before, or the closure refused.
pub data KeepsNone {F E : Type 0} (g : Reader F (Constructed Reading) (Unit {0}) E) (op : F)
    (v : ValuesLeft) : Type 0 where
  was_failed : v.failed ≡ true → KeepsNone g op v
  was_refused : (x : ContentError) (pos : Pos) (end : ValuesLeft)
      → ClosureReadsIn rest_of g op (cut v) (Err (Content x pos)) end → KeepsNone g op v

abbrev pub CapturesCases : {F D E : Type 0} → Reader F (Constructed Reading) (Unit {0}) D → F
    → ValuesLeft → Result CapturedValue (DecodeError E) → ValuesLeft → Type 0
CapturesCases g op v (Ok c) new = Keeps g op v c new
CapturesCases g op v (Err e) new = (new ≡ v) × OnContent e (KeepsNone g op v)

-- The octets of the values that the closure reads are captured; where that is refused the content is as it was.
pub record Captures {F D E : Type 0} (g : Reader F (Constructed Reading) (Unit {0}) D) (op : F)
    (v : ValuesLeft) (r : Result CapturedValue (DecodeError E)) (new : ValuesLeft) : Type 0 where
  pub cases : CapturesCases g op v r new

-- A refusal whose position counts from another start.
abbrev pub Rebased : {D E : Type 0} → ℕ → DecodeError D → DecodeError E → Type 0
Rebased start (Content x pos) r = r ≡ Content x (min (start + pos) (2 ^ 64 - 1))
Rebased start (Source x) r = ⊥
Rebased start Memory r = r ≡ Memory

-- All values that are left were read, and their octets are kept.
pub record CapturesAll (v : ValuesLeft) (c : CapturedValue) (new : ValuesLeft) : Type 0 where
  pub trees : Trees
  pub took : TookAll v trees new
  pub ended : Ended new
  pub kept : took.text ≡ c.octets
  pub mode : c.mode ≡ v.mode

-- The closure read values from the beginning of captured octets, which are then taken from them.
pub record ReadsPart {F T E : Type 0} (g : Reader F (Constructed Reading) T E) (op : F)
    (old : CapturedValue) (x : T) (new : CapturedValue) : Type 0 where
  pub end : ValuesLeft
  pub ran : ClosureReadsIn rest_of g op (fresh old.mode old.octets) (Ok x) end
  pub trees : Trees
  pub took : TookAll (fresh old.mode old.octets) trees end
  pub rest : new.octets ≡ end.rest
  pub mode : new.mode ≡ old.mode

-- The closure refused, and the octets are as they were.
pub record RefusesPart {F T E : Type 0} (g : Reader F (Constructed Reading) T E) (op : F)
    (old : CapturedValue) (e : DecodeError E) (new : CapturedValue) : Type 0 where
  pub end : ValuesLeft
  pub ran : ClosureReadsIn rest_of g op (fresh old.mode old.octets) (Err e) end
  pub same : new ≡ old

-- The closure read values of so many octets from the beginning.
pub record ReadsFront {F T E : Type 0} (g : Reader F (Constructed Reading) T E) (op : F) (m : Mode)
    (octets : List ℕ) (x : T) (count : ℕ) : Type 0 where
  pub end : ValuesLeft
  pub ran : ClosureReadsIn rest_of g op (fresh m octets) (Ok x) end
  pub trees : Trees
  pub took : TookAll (fresh m octets) trees end
  pub long : length took.text ≡ count

-- The closure refused what it read from the beginning.
pub record RefusesFront {F T E : Type 0} (g : Reader F (Constructed Reading) T E) (op : F)
    (m : Mode) (octets : List ℕ) (e : DecodeError E) : Type 0 where
  pub end : ValuesLeft
  pub ran : ClosureReadsIn rest_of g op (fresh m octets) (Err e) end
