-- Contents that were lent to a closure.
use Rattle.std.proofs.Common.{◌≡◌, ℕ, List, sym, ap, ◌∙◌}
use Rattle.bcder_content.specs.declared.constructed.Constructed.{Constructed}
use Rattle.bcder_content.specs.declared.content.Content.{Content}
use Rattle.bcder_content.specs.Either.{Shows}
use Rattle.bcder_content.specs.Here.{here, SameFrame}

pub shows_back : {S : Type 0} (rest : S → List ℕ) (c : Content S) (b : Constructed S) → b ≡ c.values.now → Shows rest c (here rest b)
shows_back rest c b e = record { left_is = ap (here rest) (sym e) }

-- Two steps that each keep a content's form and start keep them together.
pub same_on : {S : Type 0} {a b c : Constructed S} → SameFrame a b → SameFrame b c → SameFrame a c
same_on f g = record { form = g.form ∙ f.form; start = g.start ∙ f.start }
