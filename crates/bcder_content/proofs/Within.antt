-- Readers of contents by another grammar, each value of which is one of theirs: what is tested of what they read, and
-- what they make of it.
use Rattle.std.proofs.Common.{◌≡◌, Bool, true, false, List, ℕ, Result, Ok, Err, sym, subst}
use Rattle.std.specs.Result.{IsErr, IsErrAnd}
use Rattle.bcder_content.specs.bcder_tree.Tags.{TagValue}
use Rattle.bcder_content.specs.bcder_tree.Tree.{Tree, Trees, primitive, constructed}
use Rattle.bcder_content.specs.bcder_source.Errors.{OnContent}
use Rattle.bcder_content.specs.bcder_source.declared.error.DecodeError.{DecodeError}
use Rattle.bcder_primitive.specs.Plain.{WholeOctets}
use Rattle.bcder_primitive.proofs.Primitives.{same_octets}
use Rattle.bcder_content.specs.Contents.{ValuesLeft, Whole}
use Rattle.bcder_content.specs.Either.{in_octets, ReadsInAs}
use Rattle.bcder_content.specs.Exact.{LacksAll, GivesAll, ReadsAllAs}
use Rattle.bcder_content.proofs.Taking.{on_content, weaker}
use Rattle.bcder_content.proofs.Took.{one_whole}

-- Whole contents.

-- Each content of the grammar is one of the other, too.
abbrev pub AllWithin : {A B : Type 0} → (Trees → A → Type 0) → (Trees → B → Type 0) → Type 0
AllWithin {A} {B} P Q = (ts : Trees) (z : A) → P ts z → (x : B) × Q ts x

all_lack : {A B : Type 0} (P : Trees → A → Type 0) (Q : Trees → B → Type 0) {v : ValuesLeft} → AllWithin P Q → LacksAll Q v → LacksAll P v
all_lack P Q within l = record { none = λ ts z p whole. let q = within ts z p in l.none ts q.0 q.1 whole }

-- What was read means something of another grammar.
pub all_gives : {A B : Type 0} (P : Trees → A → Type 0) (Q : Trees → B → Type 0) {v w : ValuesLeft} {x : B} {y : A} → ((ts : Trees) → Q ts x → P ts y) → AllWithin P Q → GivesAll Q v x w → GivesAll P v y w
all_gives P Q means within g = record { trees = g.trees; took = g.took; is = means g.trees g.is; only = λ on. all_lack P Q within (g.only on) }

-- What was refused isn't of the other grammar, and `?` passes that on.
pub all_stop : {A B C E : Type 0} (f : C → A) (P : Trees → A → Type 0) (Q : Trees → B → Type 0) (v w : ValuesLeft) (r : Result C (DecodeError E)) (e : DecodeError E) → IsErr r × IsErrAnd r (λ x. x ≡ e) → AllWithin P Q → OnContent e (LacksAll Q v) → ReadsAllAs f P v r w
all_stop f P Q v w (Ok y) e a within l = absurd a.1
all_stop {E = E} f P Q v w (Err x) e a within l = subst (λ (z : DecodeError E). OnContent z (LacksAll P v)) (sym a.1) (weaker e (λ lacks. all_lack P Q within lacks) l)

-- What was read is no content of the other grammar.
pub all_unfit : {A B : Type 0} (P : Trees → A → Type 0) (Q : Trees → B → Type 0) {v w : ValuesLeft} {x : B} → ((ts : Trees) (z : A) → P ts z → Q ts x → ⊥) → AllWithin P Q → GivesAll Q v x w → LacksAll P v
all_unfit P Q {v} {w} {x} unfit within g = record {
  none = λ ts z p whole.
      let q = within ts z p in
      (g.only (λ ended.
      let all : Whole v g.trees = record { behind = w; took = g.took; ended = ended } in
      unfit ts z p (subst (λ (us : Trees). Q us x) (one_whole g.trees ts all whole) g.is))).none ts q.0 q.1 whole;
}

-- Contents of either form, by the values that they are of.

-- Each value of the grammar is one of the other, too.
abbrev pub Within : {A B : Type 0} → (Tree → A → Type 0) → (Tree → B → Type 0) → Type 0
Within {A} {B} P Q = (t : Tree) (z : A) → P t z → (x : B) × Q t x

-- What was read means something of another grammar.
pub content_gives : {A B C D : Type 0} (E : Type 0) (f : A → B) (h : C → D) (Q : Tree → B → Type 0) (P : Tree → D → Type 0) (form : Bool) (tag : TagValue) (v w : ValuesLeft) {x : A} {y : C}
    → ((t : Tree) → Q t (f x) → P t (h y)) → Within P Q → ReadsInAs {A = A} {B = B} {E = E} f Q form tag v (Ok x) w → ReadsInAs {A = C} {B = D} {E = E} h P form tag v (Ok y) w
content_gives E f h Q P true tag v w means within g =
    all_gives (λ (ts : Trees). P (constructed tag ts)) (λ (ts : Trees). Q (constructed tag ts)) (λ ts. means (constructed tag ts)) (λ ts. within (constructed tag ts)) g
content_gives E f h Q P false tag v w means within g = record {
  text = g.text;
  is = means (primitive tag g.text) g.is;
  goes = g.goes;
  only = λ on. record { none = λ s z p whole. let q = within (primitive tag s) z p in (g.only on).none s q.0 q.1 whole };
}

-- What was refused isn't of the other grammar.
pub content_refused : {A B C D E : Type 0} (f : A → B) (h : C → D) (Q : Tree → B → Type 0) (P : Tree → D → Type 0) (form : Bool) (tag : TagValue) (v w : ValuesLeft) (e : DecodeError E)
    → Within P Q → ReadsInAs {A = A} {B = B} {E = E} f Q form tag v (Err e) w → ReadsInAs {A = C} {B = D} {E = E} h P form tag v (Err e) w
content_refused f h Q P true tag v w e within l = weaker e (λ lacks. all_lack (λ (ts : Trees). P (constructed tag ts)) (λ (ts : Trees). Q (constructed tag ts)) (λ ts. within (constructed tag ts)) lacks) l
content_refused f h Q P false tag v w e within l = weaker e (λ lacks. record { none = λ s z p whole. let q = within (primitive tag s) z p in lacks.none s q.0 q.1 whole }) l

-- What was refused isn't of the other grammar, where `?` passes the refusal on.
pub content_stop : {A B C D E : Type 0} (f : A → B) (h : C → D) (Q : Tree → B → Type 0) (P : Tree → D → Type 0) (form : Bool) (tag : TagValue) (v w : ValuesLeft) (r : Result C (DecodeError E)) (e : DecodeError E) → IsErr r × IsErrAnd r (λ x. x ≡ e)
    → Within P Q → ReadsInAs {A = A} {B = B} {E = E} f Q form tag v (Err e) w → ReadsInAs {A = C} {B = D} {E = E} h P form tag v r w
content_stop f h Q P form tag v w (Ok y) e a within l = absurd a.1
content_stop {E = E} f h Q P form tag v w (Err x) e a within l = subst (λ (z : DecodeError E). ReadsInAs h P form tag v (Err z) w) (sym a.1) (content_refused f h Q P form tag v w e within l)

-- What was read is of no value of the other grammar.
pub content_unfit : {A B C D E : Type 0} (f : A → B) (h : C → D) (Q : Tree → B → Type 0) (P : Tree → D → Type 0) (form : Bool) (tag : TagValue) (v w u : ValuesLeft) {x : A} (e : DecodeError E)
    → ((t : Tree) (z : D) → P t z → Q t (f x) → ⊥) → Within P Q → ReadsInAs {A = A} {B = B} {E = E} f Q form tag v (Ok x) w → ReadsInAs {A = C} {B = D} {E = E} h P form tag v (Err e) u
content_unfit f h Q P true tag v w u e unfit within g =
    on_content e (all_unfit (λ (ts : Trees). P (constructed tag ts)) (λ (ts : Trees). Q (constructed tag ts)) (λ ts. unfit (constructed tag ts)) (λ ts. within (constructed tag ts)) g)
content_unfit f h Q P false tag v w u {x} e unfit within g = on_content e (record {
  none = λ s z p whole.
      let q = within (primitive tag s) z p in
      (g.only (λ drained.
      let all : WholeOctets (in_octets v) g.text = record { behind = in_octets w; goes = g.goes; drained = drained } in
      unfit (primitive tag s) z p (subst (λ (r : List ℕ). Q (primitive tag r) (f x)) (same_octets all whole) g.is))).none s q.0 q.1 whole;
})
