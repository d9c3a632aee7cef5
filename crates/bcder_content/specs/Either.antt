-- Reading by closures that are given contents of either form, or with any tag.
use Rattle.std.specs.Prelude.{◌≡◌, ℕ, Bool, true, false, List, Result, Ok, Err, Option, Some, None}
use Rattle.std.specs.Fn.{Once, FnOnceReturnsAtMut}
use denote.Ref.{MutBor}
use Rattle.bcder_content.specs.bcder_tree.Tags.{TagValue}
use Rattle.bcder_content.specs.bcder_tree.Tree.{Tree, Trees, primitive, constructed}
use Rattle.bcder_content.specs.bcder_source.Errors.{OnContent, OnlyOctets}
use Rattle.bcder_content.specs.bcder_source.declared.error.DecodeError.{DecodeError}
use Rattle.bcder_content.specs.declared.ending.Span.{Span}
use Rattle.bcder_content.specs.declared.content.Content.{Content}
use Rattle.bcder_content.specs.declared.constructed.Constructed.{Constructed}
use Rattle.bcder_primitive.specs.declared.primitive.Primitive.{Primitive}
use Rattle.bcder_content.specs.Contents.{OctetsLeft, ValuesLeft, octets, Ahead, Ended, Unlike, tag_of, form_of}
use Rattle.bcder_primitive.specs.Plain.{ReadsOctetsAs}
use Rattle.bcder_content.specs.Exact.{ReadsAllAs}
use Rattle.bcder_content.specs.Here.{here, plain}
use Rattle.bcder_content.specs.Stops.{EndsUnread}
use Rattle.bcder_content.specs.ClosureReads.{Enters, Leaves, Comes}

-- The octets that are left, however the content ends.
abbrev pub in_octets : ValuesLeft → OctetsLeft
in_octets v = record { mode = v.mode; failed = v.failed; rest = v.rest; limit = v.limit }

-- Both contents hold one reference, whatever was read through it.
pub record SameContent {S : Type 0} (old new : Content S) : Type 0 where
  pub reference : old.values.ghost_name ≡ new.values.ghost_name

-- What is left of a content of a value, by the rest of its source.
abbrev pub left_of : {S : Type 0} → (S → List ℕ) → Content S → ValuesLeft
left_of rest c = here rest c.values.now

-- Its form: whether the value is constructed.
abbrev pub form_in : {S : Type 0} → Content S → Bool
form_in c = c.values.now.constructed

-- That is left of a content.
pub record Shows {S : Type 0} (rest : S → List ℕ) (c : Content S) (v : ValuesLeft) : Type 0 where
  pub left_is : left_of rest c ≡ v

-- How a closure may meet a content of a value: its form and tag, what is left of it, the answer, and what is left then.
abbrev pub Meeting : Type 0 → Type 0 → Type 1
Meeting T E = Bool → TagValue → ValuesLeft → Result T (DecodeError E) → ValuesLeft → Type 0

-- A closure that is given the tag, and what it reads.
abbrev pub TagReader : Type 0 → Type 0 → Type 0 → Type 0 → Type 1
TagReader F V T E =
    Once F (TagValue × (MutBor V × Unit {0})) (Result T (DecodeError E) × (MutBor V × Unit {0}))

-- By a closure that is given the tag and a content of either form.
abbrev pub ByContent : {F S T E : Type 0} → (S → List ℕ) → TagReader F (Content S) T E → F
    → Meeting T E
ByContent {F} {S} rest g op form tag v r w =
    (p : MutBor (Content S)) × (q : MutBor (Content S)) × Shows rest p.now v × Shows rest q.now w
    × (form_in p.now ≡ form) × g.post op (tag, (p, tt)) (r, (q, tt))

-- By one that is given the content alone.
abbrev pub ByContentAlone : {F S T E : Type 0} → (S → List ℕ)
    → Once F (MutBor (Content S) × Unit {0}) (Result T (DecodeError E)
    × (MutBor (Content S) × Unit {0})) → F → Meeting T E
ByContentAlone {F} {S} rest g op form tag v r w =
    (p : MutBor (Content S)) × (q : MutBor (Content S)) × Shows rest p.now v × Shows rest q.now w
    × (form_in p.now ≡ form) × g.post op (p, tt) (r, (q, tt))

-- By one that is given the tag and the values of a constructed value.
abbrev pub ByValues : {F S T E : Type 0} → (S → List ℕ) → TagReader F (Constructed S) T E → F
    → Meeting T E
ByValues {F} {S} rest g op true tag v r w =
    (p : MutBor (Constructed S)) × (q : MutBor (Constructed S)) × (here rest p.now ≡ v)
    × (here rest q.now ≡ w) × g.post op (tag, (p, tt)) (r, (q, tt))
ByValues {F} {S} rest g op false tag v r w = ⊥

-- By one that is given the tag and the octets of a primitive value.
abbrev pub ByOctets : {F S T E : Type 0} → (S → List ℕ) → TagReader F (Primitive S) T E → F
    → Meeting T E
ByOctets {F} {S} rest g op true tag v r w = ⊥
ByOctets {F} {S} rest g op false tag v r w =
    (p : MutBor (Primitive S)) × (q : MutBor (Primitive S)) × (plain rest p.now ≡ in_octets v)
    × (plain rest q.now ≡ in_octets w) × g.post op (tag, (p, tt)) (r, (q, tt))

-- The closure was given the content of the value in front, and answered.
pub record ClosureReadsAny {T E : Type 0} (meets : Meeting T E) (old : ValuesLeft) (form : Bool)
    (tag : TagValue) (span : Span) (r : Result T (DecodeError E)) (end : ValuesLeft) : Type 0 where
  pub inner : ValuesLeft
  pub enters : Enters old form tag span inner
  pub met : meets form tag inner r end

-- Why the octets were refused: no value of that kind is next, the closure refused, or it left something unread.
pub data AnyRefused {T E : Type 0} (meets : Meeting T E) (wants : TagValue → Bool → Type 0)
    (old : ValuesLeft) (e : DecodeError E) : Type 0 where
  none_wanted : ((t : Tree) → Ahead old t → wants (tag_of t) (form_of t) → ⊥)
      → AnyRefused meets wants old e
  any_refused : (form : Bool) (tag : TagValue) (span : Span) (end : ValuesLeft)
      → ClosureReadsAny meets old form tag span (Err e) end → AnyRefused meets wants old e
  any_goes_on : (form : Bool) (tag : TagValue) (span : Span) (end : ValuesLeft) (x : T)
      → ClosureReadsAny meets old form tag span (Ok x) end → EndsUnread span end.failed (octets end)
      → AnyRefused meets wants old e

abbrev pub TakesCases : {T E : Type 0} → Meeting T E → (TagValue → Bool → Type 0) → ValuesLeft
    → Result T (DecodeError E) → ValuesLeft → Type 0
TakesCases meets wants old (Ok x) new =
    (form : Bool) × (tag : TagValue) × (span : Span) × (end : ValuesLeft) × wants tag form
    × ClosureReadsAny meets old form tag span (Ok x) end × Leaves old span end new
TakesCases meets wants old (Err e) new = OnContent e (AnyRefused meets wants old e)

-- The closure read the content of the next value, which is of that kind, all of it.
pub record Takes {T E : Type 0} (meets : Meeting T E) (wants : TagValue → Bool → Type 0)
    (old : ValuesLeft) (r : Result T (DecodeError E)) (new : ValuesLeft) : Type 0 where
  pub cases : TakesCases meets wants old r new

-- Values of any kind, of one form, or of one tag.
abbrev pub AnyKind : TagValue → Bool → Type 0
AnyKind tag form = Unit {0}

abbrev pub OfForm : Bool → TagValue → Bool → Type 0
OfForm wanted tag form = form ≡ wanted

abbrev pub WithTag : TagValue → TagValue → Bool → Type 0
WithTag wanted tag form = tag ≡ wanted

abbrev pub TakesNextCases : {T E : Type 0} → Meeting T E → (TagValue → Bool → Type 0) → ValuesLeft
    → Result (Option T) (DecodeError E) → ValuesLeft → Type 0
TakesNextCases meets wants old (Ok (Some x)) new = Takes meets wants old (Ok x) new
TakesNextCases meets wants old (Ok None) new = (new ≡ old) × Ended old
TakesNextCases meets wants old (Err e) new =
    OnContent e (Ended old → ⊥) × Takes meets wants old (Err e) new

-- The closure read the content of the next value, which is of that kind, all of it; or the content had ended.
pub record TakesNext {T E : Type 0} (meets : Meeting T E) (wants : TagValue → Bool → Type 0)
    (old : ValuesLeft) (r : Result (Option T) (DecodeError E)) (new : ValuesLeft) : Type 0 where
  pub cases : TakesNextCases meets wants old r new

abbrev pub TakesOptCases : {T E : Type 0} → Meeting T E → TagValue → ValuesLeft
    → Result (Option T) (DecodeError E) → ValuesLeft → Type 0
TakesOptCases meets tag old (Ok (Some x)) new = Takes meets (WithTag tag) old (Ok x) new
TakesOptCases meets tag old (Ok None) new = (new ≡ old) × Unlike old tag
TakesOptCases meets tag old (Err e) new =
    OnContent e (Comes old tag) × Takes meets (WithTag tag) old (Err e) new

-- The closure read the content of the next value, which has that tag, all of it; or no value with that tag is next.
pub record TakesOpt {T E : Type 0} (meets : Meeting T E) (tag : TagValue) (old : ValuesLeft)
    (r : Result (Option T) (DecodeError E)) (new : ValuesLeft) : Type 0 where
  pub cases : TakesOptCases meets tag old r new

-- A reader of the content of a value with that form and tag, of a grammar of values.
abbrev pub ReadsInAs : {A B E : Type 0} → (A → B) → (Tree → B → Type 0) → Bool → TagValue
    → ValuesLeft → Result A (DecodeError E) → ValuesLeft → Type 0
ReadsInAs f P true tag v r w = ReadsAllAs f (λ (ts : Trees) x. P (constructed tag ts) x) v r w
ReadsInAs f P false tag v r w =
    ReadsOctetsAs f (λ (c : List ℕ) x. P (primitive tag c) x) (in_octets v) r (in_octets w)

-- A reader of a content of either form that a closure was given, of a grammar of values.
abbrev pub ReadsContentAs : {A B E S : Type 0} → (S → List ℕ) → (A → B) → (Tree → B → Type 0)
    → TagValue → Content S → Result A (DecodeError E) → Content S → Type 0
ReadsContentAs rest f P tag c r d =
    ReadsInAs f P (form_in c) tag (left_of rest c) r (left_of rest d)

-- Only the octets were refused, and no source was read.
abbrev pub IsRefusal : {T E : Type 0} → Result T (DecodeError E) → Type 0
IsRefusal (Ok x) = ⊥
IsRefusal (Err e) = OnlyOctets e (Unit {0})

abbrev pub OctetsRun : {F S T E : Type 0} → (S → List ℕ)
    → Once F (MutBor (Primitive S) × Unit {0})
    (Result T (DecodeError E) × (MutBor (Primitive S) × Unit {0})) → F → Bool → Constructed S
    → Result T (DecodeError E) → Constructed S → Type 0
OctetsRun rest g op false c r d = (d.end ≡ c.end) × FnOnceReturnsAtMut g op c.octets r d.octets
OctetsRun rest g op true c r d = IsRefusal r × ((here rest d).failed ≡ true)

-- The closure read the octets of a primitive content; another was refused, and is failed.
pub record RunsOctets {F S T E : Type 0} (rest : S → List ℕ)
    (g : Once F (MutBor (Primitive S) × Unit {0})
    (Result T (DecodeError E) × (MutBor (Primitive S) × Unit {0}))) (op : F) (c : Content S)
    (r : Result T (DecodeError E)) (d : Content S) : Type 0 where
  pub runs : OctetsRun rest g op (form_in c) c.values.now r d.values.now

abbrev pub ValuesRun : {F S T E : Type 0} → (S → List ℕ)
    → Once F (MutBor (Constructed S) × Unit {0})
    (Result T (DecodeError E) × (MutBor (Constructed S) × Unit {0})) → F → Bool → Constructed S
    → Result T (DecodeError E) → Constructed S → Type 0
ValuesRun rest g op false c r d = IsRefusal r × ((here rest d).failed ≡ true)
ValuesRun rest g op true c r d = FnOnceReturnsAtMut g op c r d

-- The closure read the values of a constructed content; another was refused, and is failed.
pub record RunsValues {F S T E : Type 0} (rest : S → List ℕ)
    (g : Once F (MutBor (Constructed S) × Unit {0})
    (Result T (DecodeError E) × (MutBor (Constructed S) × Unit {0}))) (op : F) (c : Content S)
    (r : Result T (DecodeError E)) (d : Content S) : Type 0 where
  pub runs : ValuesRun rest g op (form_in c) c.values.now r d.values.now
