-- Texts of sets of addresses.
use Rattle.std.proofs.Common.{◌≡◌, ℕ, ◌⊎◌, List, [], ◌∷◌, length, map, inl, inr, sym, subst, refl, arith}
use Rattle.std.specs.Prelude.{Result, Ok, Err, MatchResult}
use Rattle.resources_ip.specs.resources_chain.Sets.{Run, AreMaximal, IsRunsOf}
use Rattle.resources_ip.specs.resources_chain.Lists.{IsListText, HasFault, IsNoListText}
use Rattle.resources_ip.proofs.of_resources_chain.ListTexts.{refuses_list, set_once, set_printed, AllWritten}
use Rattle.resources_ip.specs.resources_ip_prefix.declared.addr.AddressFamily.{AddressFamily}
use Rattle.resources_ip.specs.resources_ip_prefix.declared.addr.AddressFamily.TheVariants.{Ipv4, Ipv6}
use Rattle.resources_ip.specs.resources_ip_prefix.declared.error.FromStrError.{FromStrError}
use Rattle.resources_ip.specs.resources_ip_prefix.declared.error.FromStrError.TheVariants as Cause
use Rattle.resources_ip.specs.resources_ip_prefix.ReadTexts.{Shows}
use Rattle.resources_ip_block.specs.declared.block.IpBlock.{IpBlock}
use Rattle.resources_ip_block.specs.Block.{run_of_block, block_within}
use Rattle.resources_ip_block.specs.BlockText.{block_text, address_text}
use Rattle.resources_ip_block.specs.ReadTexts.{WritesBlock, IsNoBlock, ReadsBlock}
use Rattle.resources_ip_block.proofs.PrintLemmas.{IsFamilyRun, block_written}
use Rattle.resources_ip_block.proofs.ReadLemmas.{block_once, block_some, block_shows, block_refused, one_family}
use Rattle.resources_ip.specs.Texts.{IsIpSetText, IsIpListText, IsNoIpSet, IsNoPiece, RefusesIpSet, ReadsIpSet, ip_set_text}
use Rattle.resources_ip.specs.Written.{FitsSet}
use Rattle.resources_ip.proofs.WholeLemmas.{whole_step}

-- What is wrong with a piece is wrong with that of no block.
no_piece : (family : AddressFamily) (e : FromStrError) (piece : List ℕ) (r : Run) → IsNoPiece family e piece → ¬ (WritesBlock family piece r)
no_piece family Cause.Memory piece r w h = absurd w
no_piece family Cause.BadBlocks piece r e h = block_some family r (subst (λ (t : List ℕ). WritesBlock family t r) e h)
no_piece family Cause.FamilyMismatch piece r w h = w.1 (block_shows family piece r h)
no_piece family Cause.Addr piece r w h = (block_refused family piece Cause.Addr w.2).1 r h
no_piece family Cause.PrefixLen piece r w h = (block_refused family piece Cause.PrefixLen w.2).1 r h
no_piece family Cause.MissingSeparator piece r w h = (block_refused family piece Cause.MissingSeparator w.2).1 r h
no_piece family Cause.BadRange piece r w h = (block_refused family piece Cause.BadRange w.2).1 r h

of_block : (family : AddressFamily) (e : FromStrError) (piece : List ℕ) → ¬ (piece ≡ []) → Shows family piece → IsNoBlock family piece e → IsNoPiece family e piece
of_block family Cause.Memory piece some shows (inl w) = absurd w.1
of_block family Cause.Memory piece some shows (inr w) = absurd w.1
of_block family Cause.BadBlocks piece some shows (inl w) = absurd w.1
of_block family Cause.BadBlocks piece some shows (inr w) = absurd w.1
of_block family Cause.FamilyMismatch piece some shows (inl w) = absurd w.1
of_block family Cause.FamilyMismatch piece some shows (inr w) = absurd w.1
of_block family Cause.Addr piece some shows w = (some, shows, w)
of_block family Cause.PrefixLen piece some shows w = (some, shows, w)
of_block family Cause.MissingSeparator piece some shows w = (some, shows, w)
of_block family Cause.BadRange piece some shows w = (some, shows, w)

-- A piece of the family's colons is read as a block is.
pub read_piece_is : (family : AddressFamily) (piece : List ℕ) (r : Result IpBlock FromStrError) → ¬ (piece ≡ []) → Shows family piece → ReadsBlock family piece r → MatchResult r (λ b. WritesBlock family piece (run_of_block b)) (λ e. IsNoPiece family e piece)
read_piece_is family piece (Ok b) some shows h = h
read_piece_is family piece (Err e) some shows h = of_block family e piece some shows h.0

pub other_shown : (family shown : AddressFamily) (piece : List ℕ) → ¬ (shown ≡ family) → Shows shown piece → ¬ (Shows family piece)
other_shown family shown piece other h k = other (one_family shown family piece h k)

fault_of : (family : AddressFamily) (e : FromStrError) (text : List ℕ) → ¬ (text ≡ []) → HasFault (WritesBlock family) (IsNoPiece family e) text → IsNoListText (WritesBlock family) (IsNoPiece family e) text
fault_of family e text some h = refuses_list (WritesBlock family) (IsNoPiece family e) (no_piece family e) text some h

-- What is wrong with a piece is what the text is refused for.
pub refuses : (family : AddressFamily) (e : FromStrError) (text : List ℕ) → ¬ (text ≡ []) → HasFault (WritesBlock family) (IsNoPiece family e) text → RefusesIpSet family text e
refuses family Cause.Memory text some h = absurd h.faulty
refuses family Cause.BadBlocks text some h = fault_of family Cause.BadBlocks text some h
refuses family Cause.FamilyMismatch text some h = fault_of family Cause.FamilyMismatch text some h
refuses family Cause.Addr text some h = fault_of family Cause.Addr text some h
refuses family Cause.PrefixLen text some h = fault_of family Cause.PrefixLen text some h
refuses family Cause.MissingSeparator text some h = fault_of family Cause.MissingSeparator text some h
refuses family Cause.BadRange text some h = fault_of family Cause.BadRange text some h

pub checked : {A : Type 0} (family : AddressFamily) (text : List ℕ) (r : Result A FromStrError) → ¬ (text ≡ []) → MatchResult r (λ _. IsIpListText family text) (λ e. HasFault (WritesBlock family) (IsNoPiece family e) text) → MatchResult r (λ _. IsIpListText family text) (IsNoIpSet family text)
checked family text (Ok a) some h = h
checked family text (Err e) some h = fault_of family e text some h

-- Where each piece is a block, memory is all that can lack.
pub refuses_late : (family : AddressFamily) (e : FromStrError) (text : List ℕ) → ¬ (text ≡ []) → ((runs : List Run) × IsListText (WritesBlock family) text runs) → (e ≡ Cause.Memory) ⊎ HasFault (WritesBlock family) (IsNoPiece family e) text → RefusesIpSet family text e
refuses_late family e text some list (inl m) = subst (λ (x : FromStrError). RefusesIpSet family text x) (sym m) (some, list)
refuses_late family e text some list (inr h) = refuses family e text some h

-- The empty text is that of no block, and of the set of none.
pub reads_none : (family : AddressFamily) (text : List ℕ) (set : List Run) → text ≡ [] → IsRunsOf (λ n. ⊥) set → IsIpSetText family text set
reads_none family text set e is = record { runs = []; are = e; union = is }

pub in_family : (f g : AddressFamily) (text : List ℕ) (r : Result (List Run) FromStrError) → Shows f text → Shows g text → ReadsIpSet f text r → ReadsIpSet g text r
in_family f g text r h k reads = subst (λ (x : AddressFamily). ReadsIpSet x text r) (one_family f g text h k) reads

-- What is printed of blocks is read.

fits_maximal : (family : AddressFamily) (runs : List Run) → FitsSet family runs → AreMaximal runs
fits_maximal Ipv4 runs h = h.0
fits_maximal Ipv6 runs h = h

fits_step : (family : AddressFamily) (r : Run) (runs : List Run) → FitsSet family (r ∷ runs) → IsFamilyRun family r × FitsSet family runs
fits_step Ipv4 r runs h = let parts = (whole_step r runs h.0).0 h.1 in (parts.0, (h.0.2, parts.1))
fits_step Ipv6 r runs h = (tt, h.2)

all_written : (family : AddressFamily) (blocks : List IpBlock) → FitsSet family (map run_of_block blocks) → AllWritten (WritesBlock family) (block_text (address_text family)) (map run_of_block blocks)
all_written family [] h = tt
all_written family (b ∷ blocks) h =
    let within = block_within b in
    let parts = fits_step family (run_of_block b) (map run_of_block blocks) h in
    let one = block_written family (run_of_block b) parts.0 within.0 within.1 in
    (one.0, one.1, all_written family blocks parts.1)

pub set_read : (blocks : List IpBlock) (runs : List Run) → map run_of_block blocks ≡ runs → (family : AddressFamily) → FitsSet family runs → IsIpSetText family (ip_set_text family runs) runs
set_read blocks runs e family h =
    set_printed (WritesBlock family) (block_text (address_text family)) runs (fits_maximal family runs h)
    (subst (λ (z : List Run). AllWritten (WritesBlock family) (block_text (address_text family)) z) e
    (all_written family blocks (subst (λ (z : List Run). FitsSet family z) (sym e) h)))

pub one_set : (family : AddressFamily) (text : List ℕ) (a b : List Run) → IsIpSetText family text a → IsIpSetText family text b → a ≡ b
one_set family = set_once (WritesBlock family) (block_once family) (block_some family)

-- A list without elements is empty.
pub empty_is : (xs : List ℕ) → length xs ≡ 0 → xs ≡ []
empty_is [] e = refl
empty_is (x ∷ xs) e = absurd (omega (arith, e))
