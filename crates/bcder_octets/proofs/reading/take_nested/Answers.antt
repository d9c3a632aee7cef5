use Rattle.std.proofs.Common.{sym, ◌∙◌, subst}
use Rattle.bcder_octets.specs.bcder_tree.declared.mode.Mode.TheVariants.{Ber}
use Rattle.bcder_octets.specs.bcder_tree.Tree.{SpellsAll}
use Rattle.bcder_octets.proofs.of_bcder_content.Forests.{begin, stop_all}
use Rattle.bcder_octets.proofs.of_bcder_content.Taking.{weaker}
use Rattle.bcder_octets.proofs.Gathering.{segments_lack, segments_given}
use Rattle.bcder_octets.proofs.reading.take_nested.Goals as goal

pub returns-in_err-captured : goal.returns-in_err-captured
returns-in_err-captured g c = stop_all _ _ _ _ (begin _ _) c.from_residual.ensures (weaker _ (λ l. segments_lack l) c.in_err-captured.ensures)

pub returns : goal.returns
returns g c = segments_given c.in_ok-captured.ensures (λ ts w s b. c.new.ensures ∙ c.in_ok-octets-2.ensures.ok ∙ c.in_ok-octets.ensures ts w (subst (SpellsAll Ber ts) (sym c.as_slice.ensures.octets) s) b)
