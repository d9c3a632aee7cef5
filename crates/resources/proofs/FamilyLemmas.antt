-- What blocks and sets of a family promise, by family.
use Rattle.std.proofs.Common.{◌≡◌, List, [], ◌∷◌, ◌++◌, arith, refl, subst, sym}
use Rattle.resources.specs.resources_chain.Sets.{Run, InRuns, IsRunsOf, AreMaximal}
use Rattle.resources.specs.resources_chain.Claims.{Choice}
use Rattle.resources.specs.resources_chain.declared.choice.ResourcesChoice.TheVariants.{Blocks}
use Rattle.resources.specs.resources_ip_prefix.All.{all_addresses}
use Rattle.resources.specs.resources_ip_prefix.declared.addr.AddressFamily.{AddressFamily}
use Rattle.resources.specs.resources_ip_prefix.declared.addr.AddressFamily.TheVariants.{Ipv4, Ipv6}
use Rattle.resources.specs.resources_ip.Blocks.{IsAddress}
use Rattle.resources.specs.resources_ip.WholeSets.{AreWhole}
use Rattle.resources.specs.resources_ip.Written.{FitsChoice, FitsSet}
use Rattle.resources_ip.proofs.WholeLemmas.{whole_none, whole_push, whole_set}
use Rattle.resources.specs.Families.{FitsBlock, FitsBlocks, FitsListed}

pub all_fit : (f : AddressFamily) → FitsBlock f all_addresses
all_fit Ipv4 = (refl, refl)
all_fit Ipv6 = tt

pub none_fit : (f : AddressFamily) (set : List Run) → IsRunsOf (λ n. ⊥) set → FitsBlocks f set
none_fit Ipv4 set is = whole_none set is
none_fit Ipv6 set is = tt

pub every_fit : (f : AddressFamily) (set : List Run) → IsRunsOf IsAddress set → FitsBlocks f set
every_fit Ipv4 set is = λ n m e h. (is.same m).1 (let within = (is.same n).0 h in omega (arith, within, e))
every_fit Ipv6 set is = tt

pub fit_push : (f : AddressFamily) (runs : List Run) (r : Run) → FitsBlocks f runs → FitsBlock f r → FitsBlocks f (runs ++ r ∷ [])
fit_push Ipv4 runs r all one = whole_push runs r all one
fit_push Ipv6 runs r all one = tt

pub fit_set : (f : AddressFamily) (runs set : List Run) → FitsBlocks f runs → IsRunsOf (InRuns runs) set → FitsBlocks f set
fit_set Ipv4 runs set all is = whole_set runs set all is
fit_set Ipv6 runs set all is = tt

pub read_fit : (f : AddressFamily) (set : List Run) → (f ≡ Ipv4 → AreWhole set) → FitsBlocks f set
read_fit Ipv4 set h = h refl
read_fit Ipv6 set h = tt

pub fits_set : (f : AddressFamily) (runs : List Run) → AreMaximal runs → FitsBlocks f runs → FitsSet f runs
fits_set Ipv4 runs maximal fits = (maximal, fits)
fits_set Ipv6 runs maximal fits = maximal

pub fits_choice : (f : AddressFamily) (runs : List Run) (c : Choice) → (AreWhole runs → FitsChoice Ipv4 c) → FitsChoice Ipv6 c → FitsBlocks f runs → FitsChoice f c
fits_choice Ipv4 runs c v4 v6 fits = v4 fits
fits_choice Ipv6 runs c v4 v6 fits = v6

pub fits_listed : (f : AddressFamily) (runs : List Run) (c : Choice) → c ≡ Blocks runs → FitsBlocks f runs → FitsListed f c
fits_listed f runs c e fits = subst (λ (x : Choice). FitsListed f x) (sym e) (listed f fits)
  where
    listed : (g : AddressFamily) → FitsBlocks g runs → FitsListed g (Blocks runs)
    listed Ipv4 h = h
    listed Ipv6 h = tt
