-- What reading ranges rests on: of the two addresses of a range it is tested that the first isn't above the second.
use Rattle.std.proofs.Common.{◌≡◌, ◌<◌, ◌≤◌, Result, ap, ◌∙◌, subst, arith}
use Rattle.std.specs.Result.{IsErr, IsErrAnd}
use Rattle.resources_ip_block.specs.bcder_tree.declared.mode.Mode.{Mode}
use Rattle.resources_ip_block.specs.bcder_source.Errors.{OnContent}
use Rattle.resources_ip_block.specs.bcder_source.declared.error.DecodeError.{DecodeError}
use Rattle.resources_ip_block.specs.bcder_content.Contents.{ValuesLeft}
use Rattle.resources_ip_block.specs.bcder_content.Exact.{LacksAll, GivesAll, ReadsAllAs}
use Rattle.resources_ip_block.proofs.of_bcder_content.Taking.{on_content}
use Rattle.resources_ip_block.proofs.of_bcder_content.Within.{AllWithin, all_gives, all_stop, all_unfit}
use Rattle.resources_ip_block.specs.resources_chain.Sets.{Run}
use Rattle.resources_ip_prefix.specs.declared.addr.AddressFamily.{AddressFamily}
use Rattle.resources_ip_block.specs.BlockEncodings.{AreEnds, AreOrdered, Ends, from_to}
use Rattle.resources_ip_block.specs.Meanings.{ends_one}

ordered_within : (m : Mode) (family : AddressFamily) → AllWithin (AreOrdered m family) (AreEnds m family)
ordered_within m family ts run p = (p.ends, p.are)

pub range_stop : {C E : Type 0} (f : C → Run) (m : Mode) (family : AddressFamily) (v w : ValuesLeft) (r : Result C (DecodeError E)) (e : DecodeError E) → IsErr r × IsErrAnd r (λ x. x ≡ e) → OnContent e (LacksAll (AreEnds m family) v) → ReadsAllAs f (AreOrdered m family) v r w
range_stop f m family v w r e a l = all_stop f (AreOrdered m family) (AreEnds m family) v w r e a (ordered_within m family) l

pub range_given : (m : Mode) (family : AddressFamily) (ends : Ends) {v w : ValuesLeft} {run : Run} → GivesAll (AreEnds m family) v ends w → run ≡ from_to ends → run.first ≤ run.last → GivesAll (AreOrdered m family) v run w
range_given m family ends g e ordered = all_gives (AreOrdered m family) (AreEnds m family) (λ ts are. record { ends = ends; are = are; from_min_to_max = e; ordered = ordered }) (ordered_within m family) g

pub range_unfit : {E : Type 0} (m : Mode) (family : AddressFamily) (ends : Ends) (e : DecodeError E) {v w : ValuesLeft} → GivesAll (AreEnds m family) v ends w → (from_to ends).last < (from_to ends).first → OnContent e (LacksAll (AreOrdered m family) v)
range_unfit m family ends e g turned = on_content e (all_unfit (AreOrdered m family) (AreEnds m family) (λ ts run p are.
    let same : p.ends ≡ ends = (ends_one family).one ts p.ends ends p.are are in
    let is : run ≡ from_to ends = p.from_min_to_max ∙ ap from_to same in
    let ordered : (from_to ends).first ≤ (from_to ends).last = subst (λ (r : Run). r.first ≤ r.last) is p.ordered in
    omega (arith, ordered, turned)) (ordered_within m family) g)
