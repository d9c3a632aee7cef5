use Rattle.std.proofs.Common.{◌≡◌, ℕ, ◌≤◌, List, ◌++◌, length, ap, ◌∙◌, arith}
use Rattle.std.proofs.lemmas.Bool.Decides.{nat_tests}
use Rattle.std.specs.Fmt.Cut.{cut_to}
use Rattle.bcder_source.proofs.error.FixedText.new.Goals as goal

-- A text that has room isn't cut.
fits : (text : List ℕ) → length text ≤ 64 → cut_to 64 text ≡ text
unfolding cut_to
fits text h = grind (arith, nat_tests)

pub returns : goal.returns
returns c = λ short. c.and_str.ensures.to_end (omega arith) ∙ ap (λ (t : List ℕ). cut_to 64 (t ++ c.args.text.now)) c.new.ensures.text ∙ fits c.args.text.now short
