use Rattle.std.proofs.Common.{◌≡◌, ◌<◌, ℕ, List, length, sym, ◌∙◌, subst}
use Rattle.bcder_octets.specs.bcder_tree.declared.mode.Mode.TheVariants.{Ber}
use Rattle.bcder_octets.specs.bcder_tree.Tree.{SpellsAll}
use Rattle.bcder_octets.specs.bcder_tree.Strings.{AreCerSegments}
use Rattle.bcder_octets.proofs.of_bcder_content.Forests.{begin, stop_all}
use Rattle.bcder_octets.proofs.of_bcder_content.Taking.{weaker, on_content}
use Rattle.bcder_octets.proofs.Gathering.{cut_lack, cut_given, cut_refused}
use Rattle.bcder_octets.proofs.reading.take_cut.Goals as goal

pub returns-in_err-captured : goal.returns-in_err-captured
returns-in_err-captured g c = stop_all _ _ _ _ (begin _ _) c.from_residual.ensures (weaker _ (λ l. cut_lack l) c.in_err-captured.ensures)

pub returns-in_default : goal.returns-in_default
returns-in_default g c = on_content c.content_err.result (cut_refused c.in_ok-captured.ensures (λ ts pieces s plain.
    let t = rw c.in_default.is at (c.in_ok-octets.ensures ts pieces (subst (SpellsAll Ber ts) (sym c.as_slice.ensures.octets) s) plain) in
    t))

pub returns : goal.returns
returns g c =
    let same : c.new.result ≡ c.in-Some.octets.items = c.new.ensures ∙ c.in_ok-octets-2.ensures.ok in
    cut_given c.in_ok-captured.ensures (λ ts pieces s plain.
    let t = rw c.in-Some.is at (c.in_ok-octets.ensures ts pieces (subst (SpellsAll Ber ts) (sym c.as_slice.ensures.octets) s) plain) in
    (subst (AreCerSegments ts) (sym same) t.0, subst (λ (z : List ℕ). 1000 < length z) (sym same) t.1))
