use Rattle.std.proofs.Common.{◌≡◌, ℕ, List, take_all, refl, sym, subst, ◌∙◌, inl, inr}
use Rattle.rpki_rules.specs.Words.{Mem}
use Rattle.rpki_walk.proofs.Mems.{mem_take_more}
use Rattle.rpki_walk.proofs.lines.remembered.are_on_if_met.Goals as goal

pub loop-key-preserved : goal.loop-key-preserved
loop-key-preserved c k m n =
    let keys = c.args.keys.now in let i = c.loop-key.key-index in let d = c.key-item.result in
    elim ((mem_take_more keys i d k c.loop-key-test.true).0 m) [
      | inl a ↦ c.loop-key.invariant k a n
      | inr e ↦ let s : c.as_slice.result.now ≡ k = c.as_slice.ensures ∙ (c.key-item.is ∙ e) in
          subst (λ (z : List ℕ). Mem c.args.other.now z) s (c.if-not-is_on_if_met.ensures refl (subst (λ (z : List ℕ). Mem c.args.met.now z) (sym s) n))
    ]

pub returns : goal.returns
returns c t k m = c.loop-key.invariant k (subst (λ (xs : List (List ℕ)). Mem xs k) (sym (take_all c.loop-key.key-index c.args.keys.now c.loop-key-test.false)) m)
