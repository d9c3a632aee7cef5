-- What reading ranges of AS numbers rests on: of two numbers it is tested that the first isn't above the second.
use Rattle.std.proofs.Common.{◌≡◌, ◌≤◌, ℕ, Result, Ok, Err, subst, sym}
use Rattle.std.specs.Result.{IsErr, IsErrAnd}
use Rattle.resources_asn.specs.bcder_tree.Tree.{Trees}
use Rattle.resources_asn.specs.bcder_source.Errors.{OnContent}
use Rattle.resources_asn.specs.bcder_source.declared.error.DecodeError.{DecodeError}
use Rattle.resources_asn.specs.bcder_content.Contents.{ValuesLeft, Whole}
use Rattle.resources_asn.specs.bcder_content.Exact.{GivesAll, LacksAll, ReadsAllAs}
use Rattle.resources_asn.proofs.of_bcder_content.Taking.{on_content, weaker}
use Rattle.resources_asn.proofs.of_bcder_content.Took.{one_whole}
use Rattle.resources_asn.specs.BlockEncodings.{AreEnds, AreOrdered, Ends}
use Rattle.resources_asn.specs.Meanings.{ends_one}

pub ordered_stop : {C E : Type 0} (f : C → Ends) (v w : ValuesLeft) (r : Result C (DecodeError E)) (e : DecodeError E) → IsErr r × IsErrAnd r (λ x. x ≡ e) → OnContent e (LacksAll AreEnds v) → ReadsAllAs f AreOrdered v r w
ordered_stop f v w (Ok y) e a l = absurd a.1
ordered_stop {E = E} f v w (Err x) e a l = subst (λ (z : DecodeError E). OnContent z (LacksAll AreOrdered v)) (sym a.1) (weaker e (λ lacks. record { none = λ ts y p whole. lacks.none ts y p.are whole }) l)

pub ordered_given : {v w : ValuesLeft} (x y : Ends) → x ≡ y → GivesAll AreEnds v x w → x.0 ≤ x.1.0 → GivesAll AreOrdered v y w
ordered_given {v} {w} x y same g order = subst (λ (z : Ends). GivesAll AreOrdered v z w) same (record {
  trees = g.trees;
  took = g.took;
  is = record { are = g.is; ordered = order };
  only = λ on. record { none = λ ts z p whole. (g.only on).none ts z p.are whole };
})

pub ordered_unfit : {E : Type 0} (e : DecodeError E) {v w : ValuesLeft} (x : Ends) → GivesAll AreEnds v x w → (x.0 ≤ x.1.0 → ⊥) → OnContent e (LacksAll AreOrdered v)
ordered_unfit e {v} {w} x g turned = on_content e (record {
  none = λ ts z p whole. (g.only (λ ended.
      let all : Whole v g.trees = record { behind = w; took = g.took; ended = ended } in
      let same : z ≡ x = ends_one.one ts z x p.are (subst (λ (us : Trees). AreEnds us x) (one_whole g.trees ts all whole) g.is) in
      turned (subst (λ (u : Ends). u.0 ≤ u.1.0) same p.ordered))).none ts z p.are whole;
})

pub same_ends : {a b c d : ℕ} → c ≡ a → d ≡ b → ◌≡◌ {A = Ends} (a, (b, tt)) (c, (d, tt))
same_ends e f = cc
