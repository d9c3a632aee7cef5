-- What reading blocks rests on.
use Rattle.std.proofs.Common.{◌≡◌, List, [], ◌∷◌, ◌++◌, Result, ◌∙◌, subst}
use Rattle.std.specs.Result.{IsErr, IsErrAnd}
use Rattle.resources_ip.specs.bcder_tree.declared.mode.Mode.{Mode}
use Rattle.resources_ip.specs.bcder_source.Errors.{OnContent}
use Rattle.resources_ip.specs.bcder_source.declared.error.DecodeError.{DecodeError}
use Rattle.resources_ip.specs.bcder_content.Contents.{ValuesLeft, Ended}
use Rattle.resources_ip.specs.bcder_content.Exact.{Gives, Lacks, LacksAll, GivesAll, ReadsAllAs}
use Rattle.resources_ip.specs.bcder_content.Grammar.{Many}
use Rattle.resources_ip.specs.bcder_content.Perhaps.{NoneNext}
use Rattle.resources_ip.proofs.of_bcder_content.Forests.{Listing, list_next, list_stop_next}
use Rattle.resources_ip.proofs.of_bcder_content.Perhaps.{list_done}
use Rattle.resources_ip.proofs.of_bcder_content.Within.{AllWithin, all_gives, all_stop}
use Rattle.resources_ip.specs.resources_chain.Sets.{Run, InRuns, IsRunsOf}
use Rattle.resources_ip.specs.resources_ip_prefix.declared.addr.AddressFamily.{AddressFamily}
use Rattle.resources_ip_block.specs.BlockEncodings.{IsBlock}
use Rattle.resources_ip.specs.Encodings.{AreBlocks}

-- A loop has read these blocks, in the mode in which it began.
pub record Gathered (family : AddressFamily) (runs : List Run) (start now : ValuesLeft) : Type 0 where
  pub listing : Listing (Many (IsBlock start.mode family)) (IsBlock start.mode family) (λ (xs : List Run). xs) runs start now
  pub mode : now.mode ≡ start.mode

pub gathered_next : {family : AddressFamily} {xs ys : List Run} {run : Run} {start now new : ValuesLeft} → Gathered family xs start now → Gives (IsBlock now.mode family) now run new → ys ≡ xs ++ (run ∷ []) → Gathered family ys start new
gathered_next {family} {run = run} {now = now} {new} s g e =
    record { listing = list_next s.listing (subst (λ (m : Mode). Gives (IsBlock m family) now run new) s.mode g) e; mode = g.took.goes.mode ∙ s.mode }

pub gathered_stop : {D E : Type 0} {family : AddressFamily} {xs : List Run} {start now : ValuesLeft} (f : D → List Run) (new : ValuesLeft) (r : Result D (DecodeError E)) (e : DecodeError E)
    → Gathered family xs start now → IsErr r × IsErrAnd r (λ x. x ≡ e) → OnContent e (Lacks (IsBlock now.mode family) now × (Ended now → ⊥)) → ReadsAllAs f (Many (IsBlock start.mode family)) start r new
gathered_stop {family = family} {now = now} f new r e s a h =
    list_stop_next f new r e s.listing a (subst (λ (m : Mode). OnContent e (Lacks (IsBlock m family) now × (Ended now → ⊥))) s.mode h)

pub gathered_done : {family : AddressFamily} {xs : List Run} {start now new : ValuesLeft} → Gathered family xs start now → (new ≡ now) × NoneNext (IsBlock now.mode family) now → GivesAll (Many (IsBlock start.mode family)) start xs new
gathered_done {family} {now = now} {new} s h =
    list_done s.listing (subst (λ (m : Mode). (new ≡ now) × NoneNext (IsBlock m family) now) s.mode h)

-- Blocks mean their union.

blocks_within : (m : Mode) (family : AddressFamily) → AllWithin (AreBlocks m family) (Many (IsBlock m family))
blocks_within m family ts set p = (p.runs, p.are)

pub blocks_stop : {C E : Type 0} (f : C → List Run) (m : Mode) (family : AddressFamily) (v w : ValuesLeft) (r : Result C (DecodeError E)) (e : DecodeError E) → IsErr r × IsErrAnd r (λ x. x ≡ e) → OnContent e (LacksAll (Many (IsBlock m family)) v) → ReadsAllAs f (AreBlocks m family) v r w
blocks_stop f m family v w r e a l = all_stop f (AreBlocks m family) (Many (IsBlock m family)) v w r e a (blocks_within m family) l

pub blocks_given : (m : Mode) (family : AddressFamily) (runs : List Run) {v w : ValuesLeft} {set : List Run} → GivesAll (Many (IsBlock m family)) v runs w → IsRunsOf (InRuns runs) set → GivesAll (AreBlocks m family) v set w
blocks_given m family runs g union = all_gives (AreBlocks m family) (Many (IsBlock m family)) (λ ts are. record { runs = runs; are = are; union = union }) (blocks_within m family) g
