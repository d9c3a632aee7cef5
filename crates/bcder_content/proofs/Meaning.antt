-- Values of which only some mean something, and readers of what values mean.
use Rattle.std.proofs.Common.{◌≡◌, Option, Some, None, Result, Ok, Err, subst}
use Rattle.bcder_content.specs.bcder_tree.Tags.{TagValue}
use Rattle.bcder_content.specs.bcder_tree.Tree.{Tree}
use Rattle.bcder_content.specs.bcder_source.declared.error.DecodeError.{DecodeError}
use Rattle.bcder_content.specs.Contents.{ValuesLeft}
use Rattle.bcder_content.specs.Exact.{Gives, Lacks, LacksTagged, ReadsOptAs}
use Rattle.bcder_content.specs.Grammar.{As, One, Tagged}
use Rattle.bcder_content.specs.Words.{Means}
use Rattle.bcder_content.proofs.Choices.{as_gives, as_lacks_tagged}
use Rattle.bcder_content.proofs.Taking.{weaker}
use Rattle.bcder_content.proofs.Took.{one_took}

-- A reader of an optional value is one of what the value means.
pub opt_meaning : {A B C E : Type 0} (f : A → B) (h : B → C) (tag : TagValue) (Q : Tree → B → Type 0) (old new : ValuesLeft)
    (r : Result (Option A) (DecodeError E)) → ReadsOptAs f tag Q old r new → ReadsOptAs (λ x. h (f x)) tag (As Q h) old r new
opt_meaning f h tag Q old new (Ok (Some x)) reads = as_gives h reads
opt_meaning f h tag Q old new (Ok None) reads = reads
opt_meaning f h tag Q old new (Err e) reads = weaker e (as_lacks_tagged h) reads

-- A value was read that means y.
pub means_gives : {A B : Type 0} {Q : Tree → A → Type 0} {R : A → B → Type 0} {now new : ValuesLeft} {x : A} {y : B}
    → Gives Q now x new → R x y → Gives (Means Q R) now y new
means_gives {x = x} g r = record { tree = g.tree; is = record { x = x; is = g.is; means = r }; took = g.took }

pub means_lacks : {A B : Type 0} {Q : Tree → A → Type 0} {R : A → B → Type 0} {now : ValuesLeft}
    → Lacks Q now → Lacks (Means Q R) now
means_lacks l = record { none = λ t y p a. l.none t p.x p.is a }

pub means_lacks_tagged : {A B : Type 0} {tag : TagValue} {Q : Tree → A → Type 0} {R : A → B → Type 0} {now : ValuesLeft}
    → LacksTagged tag Q now → LacksTagged tag (Means Q R) now
means_lacks_tagged l = record { tagged = l.tagged; lacks = means_lacks l.lacks; goes_on = l.goes_on; other = l.other }

-- A value was read that means nothing.
pub means_refused : {A B : Type 0} {Q : Tree → A → Type 0} {R : A → B → Type 0} {now new : ValuesLeft} {x : A}
    → One Q → Gives Q now x new → ((y : B) → R x y → ⊥) → Lacks (Means Q R) now
means_refused {Q = Q} {R} {x = x} one g refuses = record {
  none = λ t y p a.
      let same = (one_took g.took a.1).0 in
      refuses y (subst (λ z. R z y) (one.one t p.x x p.is (subst (λ (u : Tree). Q u x) same g.is)) p.means);
}

pub means_one : {A B : Type 0} {Q : Tree → A → Type 0} {R : A → B → Type 0}
    → One Q → ((x : A) (y z : B) → R x y → R x z → y ≡ z) → One (Means Q R)
means_one {R = R} one each = record {
  one = λ t y z p q. each q.x y z (subst (λ x. R x y) (one.one t p.x q.x p.is q.is) p.means) q.means;
}

pub means_tagged : {A B : Type 0} {tag : TagValue} {Q : Tree → A → Type 0} {R : A → B → Type 0}
    → Tagged tag Q → Tagged tag (Means Q R)
means_tagged g = record { tagged = λ t y p. g.tagged t p.x p.is }
