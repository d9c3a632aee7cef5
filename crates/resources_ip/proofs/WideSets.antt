-- Sets over whole IPv4 addresses as sets of numbers of 32 bits.
use Rattle.std.proofs.Common.{◌≡◌, ℕ, ◌*◌, ◌/◌, ◌^◌, ◌<◌, ◌↔◌, Bool, IsTrue, List, [], ◌∷◌, map, subst, inl, inr, arith, sym}
use Rattle.resources_ip.specs.resources_chain.Sets.{Run, InRun, InRuns, IsRunsOf, IsInside}
use Rattle.resources_ip.specs.resources_chain.Claims.{Choice, Lists, Keeps, Kept}
use Rattle.resources_ip.specs.resources_chain.declared.choice.ResourcesChoice.TheVariants.{Missing, Inherit, Blocks}
use Rattle.resources_ip.specs.resources_chain.Kinds.{Ipv4, HasNumber}
use Rattle.resources_ip.specs.resources_ip_prefix.declared.addr.AddressFamily.TheVariants as family
use Rattle.resources_ip_block.specs.declared.block.IpBlock.{IpBlock}
use Rattle.resources_ip_block.specs.Block.{run_of_block, block_within}
use Rattle.resources_ip.specs.WholeSets.{AreWhole, ListsWhole}
use Rattle.resources_ip.specs.Written.{FitsChoice}

begins : (n : ℕ) → n / 2 ^ 96 ≡ n / 2 ^ 96 * 2 ^ 96 / 2 ^ 96
begins n = omega arith

-- A whole set has a number exactly where it has the IPv4 address that the number begins with.
pub has_begin : (a : List Run) (n : ℕ) → AreWhole a → ((n : ℕ) → InRuns a n → n < 2 ^ 128) → InRuns a n ↔ HasNumber Ipv4 a (n / 2 ^ 96)
has_begin a n w within = (
  λ i. let h = within n i in (omega arith, w n (n / 2 ^ 96 * 2 ^ 96) (begins n) i),
  λ h. w (n / 2 ^ 96 * 2 ^ 96) n (sym (begins n)) h.1,
)

pub inside_numbers : (a b : List Run) → AreWhole a → AreWhole b → ((n : ℕ) → InRuns a n → n < 2 ^ 128) → IsInside a b ↔ ((n : ℕ) → HasNumber Ipv4 a n → HasNumber Ipv4 b n)
inside_numbers a b w v within = (
  λ inside n h. (h.0, inside (n * 2 ^ 96) h.1),
  λ all n i. v (n / 2 ^ 96 * 2 ^ 96) n (sym (begins n)) (all (n / 2 ^ 96) ((has_begin a n w within).0 i)).1,
)

pub same_numbers : (a b : List Run) → AreWhole a → AreWhole b → ((n : ℕ) → InRuns a n → n < 2 ^ 128) → ((n : ℕ) → InRuns b n → n < 2 ^ 128) → ((n : ℕ) → InRuns a n ↔ InRuns b n) ↔ ((n : ℕ) → HasNumber Ipv4 a n ↔ HasNumber Ipv4 b n)
same_numbers a b w v in_a in_b = (
  λ same n. (λ h. (h.0, (same (n * 2 ^ 96)).0 h.1), λ h. (h.0, (same (n * 2 ^ 96)).1 h.1)),
  λ same n. (
    λ i. ((inside_numbers a b w v in_a).1 (λ m. (same m).0)) n i,
    λ i. ((inside_numbers b a v w in_b).1 (λ m. (same m).1)) n i,
  ),
)

-- What is kept of a whole set is whole.
kept_whole_by : (choice : Choice) → ((n m : ℕ) → n / 2 ^ 96 ≡ m / 2 ^ 96 → Lists choice n → Lists choice m) → (n m : ℕ) → n / 2 ^ 96 ≡ m / 2 ^ 96 → Keeps choice n → Keeps choice m
kept_whole_by Missing w n m e k = k
kept_whole_by Inherit w n m e k = k
kept_whole_by (Blocks runs) w n m e k = w n m e k

pub kept_whole : (choice : Choice) (held set : List Run) → ((n m : ℕ) → n / 2 ^ 96 ≡ m / 2 ^ 96 → Lists choice n → Lists choice m) → AreWhole held → IsRunsOf (Kept choice (InRuns held)) set → AreWhole set
kept_whole choice held set w v is n m e i = let k = (is.same n).0 i in (is.same m).1 (kept_whole_by choice w n m e k.0, v n m e k.1)

pub fits_whole : (choice : Choice) → FitsChoice family.Ipv4 choice → ListsWhole choice
fits_whole Missing f n m e l = l
fits_whole Inherit f n m e l = l
fits_whole (Blocks runs) f n m e l = f.1 n m e l

-- Blocks have addresses alone.
pub within_all : (bs : List IpBlock) (n : ℕ) → InRuns (map run_of_block bs) n → n < 2 ^ 128
within_all [] n i = absurd i
within_all (b ∷ bs) n (inl i) = let w = block_within b in omega (arith, i.1, w.1)
within_all (b ∷ bs) n (inr i) = within_all bs n i

-- What is said of a run holds of an equal one.
pub run_along : (told : Bool) (set : List Run) {r s : Run} → r ≡ s → (IsTrue told ↔ ((n : ℕ) → InRun r n → InRuns set n)) → IsTrue told ↔ ((n : ℕ) → InRun s n → InRuns set n)
run_along told set e h = subst (λ (x : Run). IsTrue told ↔ ((n : ℕ) → InRun x n → InRuns set n)) e h
