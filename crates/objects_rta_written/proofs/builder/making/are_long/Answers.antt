use Rattle.std.proofs.Common.{List, subst, sym, ℕ}
use Rattle.std.specs.Prelude.{All}
use Rattle.std.proofs.lemmas.List.Elements.{All-cons}
use Rattle.objects_written.specs.certs_basics.Basics.{IsTwentyLong}
use Rattle.objects_rta_written.proofs.builder.making.are_long.Goals as goal

pub loop-key-preserved : goal.loop-key-preserved
loop-key-preserved c = λ h.
    c.loop-key.invariant (subst (λ (ks : List (List ℕ)). All IsTwentyLong ks) (sym c.in-Some.ensures.cases.0) (All-cons IsTwentyLong _ _ c.as_slice-octets.ensures.lawful h))
