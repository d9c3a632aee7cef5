-- Texts of sets of AS numbers.
use Rattle.std.proofs.Common.{◌≡◌, ℕ, ◌⊎◌, List, [], ◌∷◌, length, map, inl, inr, sym, subst, refl, arith}
use Rattle.std.specs.Prelude.{Some, Result, MatchResult}
use Rattle.std.proofs.Common.{Ok, Err}
use Rattle.resources_as.specs.resources_chain.Sets.{Run, AreMaximal, IsRunsOf}
use Rattle.resources_as.specs.resources_chain.Lists.{IsListText, HasFault, IsNoListText}
use Rattle.resources_as.proofs.of_resources_chain.ListTexts.{refuses_list, set_once, set_printed, AllWritten}
use Rattle.resources_asn.specs.Blocks.{as_run, as_run_within, run_text}
use Rattle.resources_asn.specs.BlockTexts.{IsAsBlockText, IsNoAsBlock, ReadsAsBlock}
use Rattle.resources_asn.specs.declared.as_block.block.AsBlock.{AsBlock}
use Rattle.resources_asn.specs.declared.as_block.error.FromStrError.{FromStrError}
use Rattle.resources_asn.specs.declared.as_block.error.FromStrError.TheVariants.{BadAsn, BadRange, BadBlocks, Memory}
use Rattle.resources_asn.proofs.BlockTexts.{no_block, block_once, block_some, run_written}
use Rattle.resources_as.specs.resources_chain.Claims.{Choice}
use Rattle.resources_as.specs.resources_chain.Choices.{choice_text}
use Rattle.resources_as.specs.resources_chain.declared.choice.ResourcesChoice.TheVariants.{Missing, Inherit, Blocks}
use Rattle.resources_as.specs.Texts.{IsAsSetText, IsAsListText, IsNoAsSet, IsNoPiece, RefusesAsSet, as_set_text, as_choice_text}

-- What is wrong with a piece is wrong with that of no block.
no_piece : (e : FromStrError) (piece : List ℕ) (r : Run) → IsNoPiece e piece → ¬ (IsAsBlockText piece r)
no_piece BadAsn piece r w h = no_block piece BadAsn w.1 r h
no_piece BadRange piece r w h = no_block piece BadRange w.1 r h
no_piece BadBlocks piece r e h = block_some r (subst (λ (t : List ℕ). IsAsBlockText t r) e h)
no_piece Memory piece r w h = absurd w

pub piece_of : (e : FromStrError) (piece : List ℕ) → ¬ (piece ≡ []) → IsNoAsBlock piece e → IsNoPiece e piece
piece_of BadAsn piece some w = (some, w)
piece_of BadRange piece some w = (some, w)
piece_of BadBlocks piece some w = absurd w
piece_of Memory piece some w = absurd w

fault_of : (e : FromStrError) (text : List ℕ) → ¬ (text ≡ []) → HasFault IsAsBlockText (IsNoPiece e) text → IsNoListText IsAsBlockText (IsNoPiece e) text
fault_of e text some h = refuses_list IsAsBlockText (IsNoPiece e) (no_piece e) text some h

-- What is wrong with a piece is what the text is refused for.
pub refuses : (e : FromStrError) (text : List ℕ) → ¬ (text ≡ []) → HasFault IsAsBlockText (IsNoPiece e) text → RefusesAsSet text e
refuses BadAsn text some h = fault_of BadAsn text some h
refuses BadRange text some h = fault_of BadRange text some h
refuses BadBlocks text some h = fault_of BadBlocks text some h
refuses Memory text some h = absurd h.faulty

pub checked : {A : Type 0} (text : List ℕ) (r : Result A FromStrError) → ¬ (text ≡ []) → MatchResult r (λ _. IsAsListText text) (λ e. HasFault IsAsBlockText (IsNoPiece e) text) → MatchResult r (λ _. IsAsListText text) (IsNoAsSet text)
checked text (Ok a) some h = h
checked text (Err e) some h = fault_of e text some h

-- Where each piece is a block, memory is all that can lack.
pub refuses_late : (e : FromStrError) (text : List ℕ) → ¬ (text ≡ []) → ((runs : List Run) × IsListText IsAsBlockText text runs) → (e ≡ Memory) ⊎ HasFault IsAsBlockText (IsNoPiece e) text → RefusesAsSet text e
refuses_late e text some list (inl m) = subst (λ (x : FromStrError). RefusesAsSet text x) (sym m) (some, list)
refuses_late e text some list (inr h) = refuses e text some h

-- The empty text is that of no block, and of the set of none.
pub reads_none : (text : List ℕ) (set : List Run) → text ≡ [] → IsRunsOf (λ n. ⊥) set → IsAsSetText text set
reads_none text set e is = record { runs = []; are = e; union = is }

-- What is printed of blocks is read.
all_written : (blocks : List AsBlock) → AllWritten IsAsBlockText run_text (map as_run blocks)
all_written [] = tt
all_written (b ∷ blocks) =
    let within = as_run_within b in
    let one = run_written (as_run b) within.0 within.1 in
    (one.0, one.1, all_written blocks)

pub set_read : (blocks : List AsBlock) (runs : List Run) → map as_run blocks ≡ runs → AreMaximal runs → IsAsSetText (as_set_text runs) runs
set_read blocks runs e m =
    set_printed IsAsBlockText run_text runs m (subst (λ (z : List Run). AllWritten IsAsBlockText run_text z) e (all_written blocks))

pub one_set : (text : List ℕ) (a b : List Run) → IsAsSetText text a → IsAsSetText text b → a ≡ b
one_set = set_once IsAsBlockText block_once block_some

-- What is printed of a choice is what is printed of its set, if it lists one.
pub choice_printed : (choice : Choice) → choice_text (λ set. Some (as_set_text set)) choice ≡ Some (as_choice_text choice)
choice_printed Missing = refl
choice_printed Inherit = refl
choice_printed (Blocks set) = refl

-- A piece that isn't empty is read as a block is.
pub read_piece_is : (piece : List ℕ) (r : Result AsBlock FromStrError) → ¬ (piece ≡ []) → ReadsAsBlock piece r → MatchResult r (λ b. IsAsBlockText piece (as_run b)) (λ e. IsNoPiece e piece)
read_piece_is piece (Ok b) some h = h
read_piece_is piece (Err e) some h = piece_of e piece some h.0

-- A list without elements is empty.
pub empty_is : (xs : List ℕ) → length xs ≡ 0 → xs ≡ []
empty_is [] e = refl
empty_is (x ∷ xs) e = absurd (omega (arith, e))
