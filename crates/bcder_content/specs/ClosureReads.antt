-- What a reading by a closure was.
use Rattle.std.specs.Prelude.{◌≡◌, ℕ, Bool, true, false, List, Result, Ok, Err, Option, Some, None}
use Rattle.std.specs.Fn.{FnOnceReturnsAtMut}
use Rattle.bcder_content.specs.bcder_tree.declared.mode.Mode.{Mode}
use Rattle.bcder_content.specs.bcder_tree.Tags.{TagValue}
use Rattle.bcder_content.specs.bcder_tree.Tree.{Tree}
use Rattle.bcder_content.specs.bcder_source.Errors.{OnContent}
use Rattle.bcder_content.specs.bcder_source.declared.error.DecodeError.{DecodeError}
use Rattle.bcder_content.specs.bcder_source.Views.{left}
use Rattle.bcder_content.specs.declared.ending.Ending.TheVariants.{Unbounded}
use Rattle.bcder_content.specs.declared.ending.Span.{Span}
use Rattle.bcder_content.specs.declared.constructed.Constructed.{Constructed}
use Rattle.bcder_primitive.specs.declared.primitive.Primitive.{Primitive}
use Rattle.bcder_content.specs.Contents.{OctetsLeft, ValuesLeft, octets, Ahead, Ended, Unlike, tag_of, form_of}
use Rattle.bcder_primitive.specs.Plain.{octets_in}
use Rattle.bcder_content.specs.Openings.{Opens, Closes, OfOther, ending_of}
use Rattle.bcder_content.specs.Here.{here, plain}
use Rattle.bcder_content.specs.Stops.{EndsUnread}
pub use Rattle.bcder_primitive.specs.Sliced.{Reader}

-- Reading went from the content's values into the one in front, which has that form and tag.
pub record Enters (old : ValuesLeft) (form : Bool) (tag : TagValue) (span : Span)
    (inner : ValuesLeft) : Type 0 where
  pub opens : Opens old.mode (octets old) form tag span (octets inner)
  pub mode : inner.mode ≡ old.mode
  pub end : inner.end ≡ ending_of span
  pub before : old.failed ≡ false
  pub sound : inner.failed ≡ false

-- Reading went from a value's content back to what comes after the value.
pub record Leaves (old : ValuesLeft) (span : Span) (end new : ValuesLeft) : Type 0 where
  pub closes : Closes span (octets end) (octets new)
  pub mode : new.mode ≡ old.mode
  pub ending : new.end ≡ old.end
  pub sound : end.failed ≡ false
  pub behind : new.failed ≡ false

-- No value of that tag and form is next.
pub record NoneOf (old : ValuesLeft) (tag : TagValue) (form : Bool) : Type 0 where
  pub none : (t : Tree) → Ahead old t → tag_of t ≡ tag → form_of t ≡ form → ⊥

-- A value of that tag is next, as far as its identifier says, or there are octets and no identifier octets of a
-- value; or a read was refused before.
pub record Comes (old : ValuesLeft) (tag : TagValue) : Type 0 where
  pub tagged : (t : Tree) → Ahead old t → tag_of t ≡ tag
  pub goes_on : Ended old → ⊥
  pub other : old.failed ≡ false → OfOther tag (left (octets old)) → ⊥

-- The closure was given the values of the value in front, and answered.
pub record ClosureReadsOn {F S T E : Type 0} (rest : S → List ℕ) (g : Reader F (Constructed S) T E)
    (op : F) (old : ValuesLeft) (tag : TagValue) (span : Span) (r : Result T (DecodeError E))
    (end : ValuesLeft) : Type 0 where
  pub given : Constructed S
  pub left : Constructed S
  pub enters : Enters old true tag span (here rest given)
  pub met : FnOnceReturnsAtMut g op given r left
  pub ends : here rest left ≡ end

-- Why the octets were refused: no such value is next, the closure refused, or it left values unread.
pub data ClosureReadsRefused {F S T E : Type 0} (rest : S → List ℕ)
    (g : Reader F (Constructed S) T E) (op : F) (old : ValuesLeft) (tag : TagValue)
    (e : DecodeError E) : Type 0 where
  no_value : NoneOf old tag true → ClosureReadsRefused rest g op old tag e
  refused : (span : Span) (end : ValuesLeft) → ClosureReadsOn rest g op old tag span (Err e) end
      → ClosureReadsRefused rest g op old tag e
  goes_on : (span : Span) (end : ValuesLeft) (x : T)
      → ClosureReadsOn rest g op old tag span (Ok x) end → EndsUnread span end.failed (octets end)
      → ClosureReadsRefused rest g op old tag e

abbrev pub ClosureReadsCases : {F S T E : Type 0} → (S → List ℕ) → Reader F (Constructed S) T E → F
    → ValuesLeft → TagValue → Result T (DecodeError E) → ValuesLeft → Type 0
ClosureReadsCases {F} {S} {T} {E} rest g op old tag (Ok x) new =
    (span : Span) × (end : ValuesLeft) × ClosureReadsOn rest g op old tag span (Ok x) end
    × Leaves old span end new
ClosureReadsCases {F} {S} {T} {E} rest g op old tag (Err e) new =
    OnContent e (ClosureReadsRefused rest g op old tag e)

-- The closure read the values of a constructed value with that tag, all of them.
pub record ClosureReads {F S T E : Type 0} (rest : S → List ℕ) (g : Reader F (Constructed S) T E)
    (op : F) (old : ValuesLeft) (tag : TagValue) (r : Result T (DecodeError E)) (new : ValuesLeft)
    : Type 0 where
  pub cases : ClosureReadsCases rest g op old tag r new

abbrev pub ClosureReadsOptCases : {F S T E : Type 0} → (S → List ℕ) → Reader F (Constructed S) T E
    → F → ValuesLeft → TagValue → Result (Option T) (DecodeError E) → ValuesLeft → Type 0
ClosureReadsOptCases {F} {S} {T} {E} rest g op old tag (Ok (Some x)) new =
    ClosureReads rest g op old tag (Ok x) new
ClosureReadsOptCases rest g op old tag (Ok None) new = (new ≡ old) × Unlike old tag
ClosureReadsOptCases rest g op old tag (Err e) new =
    OnContent e (Comes old tag) × ClosureReads rest g op old tag (Err e) new

-- Where a value of that tag is next, the closure read the values in it, all of them.
pub record ClosureReadsOpt {F S T E : Type 0} (rest : S → List ℕ) (g : Reader F (Constructed S) T E)
    (op : F) (old : ValuesLeft) (tag : TagValue) (r : Result (Option T) (DecodeError E))
    (new : ValuesLeft) : Type 0 where
  pub cases : ClosureReadsOptCases rest g op old tag r new

-- Reading went from the content's values to the octets of the one in front, which is primitive and has that tag.
pub record EntersOctets (old : ValuesLeft) (tag : TagValue) (span : Span) (inner : OctetsLeft)
    : Type 0 where
  pub opens : Opens old.mode (octets old) false tag span (octets_in inner)
  pub mode : inner.mode ≡ old.mode
  pub before : old.failed ≡ false
  pub sound : inner.failed ≡ false

-- Reading went from a primitive value's octets back to what comes after the value.
pub record LeavesOctets (old : ValuesLeft) (span : Span) (end : OctetsLeft) (new : ValuesLeft)
    : Type 0 where
  pub closes : Closes span (octets_in end) (octets new)
  pub mode : new.mode ≡ old.mode
  pub ending : new.end ≡ old.end
  pub sound : end.failed ≡ false
  pub behind : new.failed ≡ false

-- The closure was given the octets of the value in front, and answered.
pub record PlainClosureReadsOn {F S T E : Type 0} (rest : S → List ℕ)
    (g : Reader F (Primitive S) T E) (op : F) (old : ValuesLeft) (tag : TagValue) (span : Span)
    (r : Result T (DecodeError E)) (end : OctetsLeft) : Type 0 where
  pub given : Primitive S
  pub left : Primitive S
  pub enters : EntersOctets old tag span (plain rest given)
  pub met : FnOnceReturnsAtMut g op given r left
  pub ends : plain rest left ≡ end

-- Why the octets were refused: no such value is next, the closure refused, or it left octets unread.
pub data PlainRefused {F S T E : Type 0} (rest : S → List ℕ) (g : Reader F (Primitive S) T E)
    (op : F) (old : ValuesLeft) (tag : TagValue) (e : DecodeError E) : Type 0 where
  no_octets : NoneOf old tag false → PlainRefused rest g op old tag e
  refused_octets : (span : Span) (end : OctetsLeft)
      → PlainClosureReadsOn rest g op old tag span (Err e) end → PlainRefused rest g op old tag e
  octets_go_on : (span : Span) (end : OctetsLeft) (x : T)
      → PlainClosureReadsOn rest g op old tag span (Ok x) end
      → EndsUnread span end.failed (octets_in end) → PlainRefused rest g op old tag e

abbrev pub PlainClosureReadsCases : {F S T E : Type 0} → (S → List ℕ) → Reader F (Primitive S) T E
    → F → ValuesLeft → TagValue → Result T (DecodeError E) → ValuesLeft → Type 0
PlainClosureReadsCases {F} {S} {T} {E} rest g op old tag (Ok x) new =
    (span : Span) × (end : OctetsLeft) × PlainClosureReadsOn rest g op old tag span (Ok x) end
    × LeavesOctets old span end new
PlainClosureReadsCases {F} {S} {T} {E} rest g op old tag (Err e) new =
    OnContent e (PlainRefused rest g op old tag e)

-- The closure read the octets of a primitive value with that tag, all of them.
pub record PlainClosureReads {F S T E : Type 0} (rest : S → List ℕ) (g : Reader F (Primitive S) T E)
    (op : F) (old : ValuesLeft) (tag : TagValue) (r : Result T (DecodeError E)) (new : ValuesLeft)
    : Type 0 where
  pub cases : PlainClosureReadsCases rest g op old tag r new

abbrev pub PlainClosureReadsOptCases : {F S T E : Type 0} → (S → List ℕ)
    → Reader F (Primitive S) T E → F → ValuesLeft → TagValue → Result (Option T) (DecodeError E)
    → ValuesLeft → Type 0
PlainClosureReadsOptCases {F} {S} {T} {E} rest g op old tag (Ok (Some x)) new =
    PlainClosureReads rest g op old tag (Ok x) new
PlainClosureReadsOptCases rest g op old tag (Ok None) new = (new ≡ old) × Unlike old tag
PlainClosureReadsOptCases rest g op old tag (Err e) new =
    OnContent e (Comes old tag) × PlainClosureReads rest g op old tag (Err e) new

-- Where a value of that tag is next, the closure read its octets, all of them.
pub record PlainClosureReadsOpt {F S T E : Type 0} (rest : S → List ℕ)
    (g : Reader F (Primitive S) T E) (op : F) (old : ValuesLeft) (tag : TagValue)
    (r : Result (Option T) (DecodeError E)) (new : ValuesLeft) : Type 0 where
  pub cases : PlainClosureReadsOptCases rest g op old tag r new

-- A source that is read from its beginning.
abbrev pub fresh : Mode → List ℕ → ValuesLeft
fresh m rest = record { mode = m; end = Unbounded; failed = false; rest = rest; limit = None }

-- The closure was given a content, and answered.
pub record ClosureReadsIn {F S T E : Type 0} (rest : S → List ℕ) (g : Reader F (Constructed S) T E)
    (op : F) (v : ValuesLeft) (r : Result T (DecodeError E)) (end : ValuesLeft) : Type 0 where
  pub given : Constructed S
  pub left : Constructed S
  pub starts : here rest given ≡ v
  pub met : FnOnceReturnsAtMut g op given r left
  pub ends : here rest left ≡ end

-- Why the octets of a source were refused: the closure refused, or a read of its was refused before.
pub data ClosureReadsInRefused {F S T E : Type 0} (rest : S → List ℕ)
    (g : Reader F (Constructed S) T E) (op : F) (v : ValuesLeft) (e : DecodeError E) : Type 0 where
  refused_in : (end : ValuesLeft) → ClosureReadsIn rest g op v (Err e) end
      → ClosureReadsInRefused rest g op v e
  failed_in : (end : ValuesLeft) (x : T) → ClosureReadsIn rest g op v (Ok x) end → end.failed ≡ true
      → ClosureReadsInRefused rest g op v e

abbrev pub DecodedCases : {F S T E : Type 0} → (S → List ℕ) → Reader F (Constructed S) T E → F
    → ValuesLeft → Result T (DecodeError E) → Type 0
DecodedCases {F} {S} {T} {E} rest g op v (Ok x) =
    (end : ValuesLeft) × ClosureReadsIn rest g op v (Ok x) end × (end.failed ≡ false)
DecodedCases {F} {S} {T} {E} rest g op v (Err e) = OnContent e (ClosureReadsInRefused rest g op v e)

-- The closure read a source from its beginning; what it left unread doesn't matter.
pub record Decoded {F S T E : Type 0} (rest : S → List ℕ) (g : Reader F (Constructed S) T E)
    (op : F) (v : ValuesLeft) (r : Result T (DecodeError E)) : Type 0 where
  pub cases : DecodedCases rest g op v r
