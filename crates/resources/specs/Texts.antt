-- Texts of sets of resources: one of AS numbers, one of IPv4 addresses and one of IPv6 addresses.
use Rattle.std.specs.Prelude.{◌≡◌, Bool, true, false, ◌&&◌, if◌then◌else◌, Result, MatchResult, ℕ, List, [], ◌∷◌, ◌++◌, codes}
use Rattle.resources.specs.resources_chain.Sets.{Run}
use Rattle.resources.specs.resources_ip_prefix.declared.addr.AddressFamily.TheVariants.{Ipv4 as V4, Ipv6 as V6}
use Rattle.resources.specs.declared.set.error.FromStrError.{FromStrError}
use Rattle.resources.specs.declared.set.error.FromStrError.TheVariants.{Asn, Ipv4, Ipv6, Memory}
use Rattle.resources.specs.resources_as.Texts.{IsAsSetText, IsAsListText, IsNoAsSet, as_set_text}
use Rattle.resources.specs.resources_ip.Texts.{IsIpSetText, IsIpListText, IsNoIpSet, ip_set_text}
use Rattle.resources.specs.Resources.{Resources, Changes}

-- The three texts are those of the set's kinds.
pub record AreTextsOf (asn ipv4 ipv6 : List ℕ) (set : Resources) : Type 0 where
  pub asns : IsAsSetText asn set.asn
  pub v4s : IsIpSetText V4 ipv4 set.ipv4
  pub v6s : IsIpSetText V6 ipv6 set.ipv6

-- Each of the three texts is one of blocks of its kind.
pub record AreListTexts (asn ipv4 ipv6 : List ℕ) : Type 0 where
  pub asns : IsAsListText asn
  pub v4s : IsIpListText V4 ipv4
  pub v6s : IsIpListText V6 ipv6

-- The first faulty text says why. Memory is lacking only where there is none, and some text has a block.
abbrev pub RefusesTexts : List ℕ → List ℕ → List ℕ → FromStrError → Type 0
RefusesTexts asn ipv4 ipv6 (Asn cause) = IsNoAsSet asn cause
RefusesTexts asn ipv4 ipv6 (Ipv4 cause) = IsAsListText asn × IsNoIpSet V4 ipv4 cause
RefusesTexts asn ipv4 ipv6 (Ipv6 cause) =
    IsAsListText asn × IsIpListText V4 ipv4 × IsNoIpSet V6 ipv6 cause
RefusesTexts asn ipv4 ipv6 Memory =
    AreListTexts asn ipv4 ipv6 × ¬ ((asn ≡ []) × (ipv4 ≡ []) × (ipv6 ≡ []))

-- The answer is the set of the three texts; or one of them is of no set, or no memory is left.
abbrev pub ReadsTexts : List ℕ → List ℕ → List ℕ → Result Resources FromStrError → Type 0
ReadsTexts asn ipv4 ipv6 r = MatchResult r (AreTextsOf asn ipv4 ipv6) (RefusesTexts asn ipv4 ipv6)

-- A set as it is printed: `asn: '..', ipv4: '..', ipv6: '..'`.
abbrev pub resources_text : Resources → List ℕ
resources_text set =
    codes "asn: '" ++ (as_set_text set.asn ++ (codes "', ipv4: '" ++
    (ip_set_text V4 set.ipv4 ++ (codes "', ipv6: '" ++
    (ip_set_text V6 set.ipv6 ++ codes "'")))))

-- There is no run.
abbrev pub no_run : List Run → Bool
no_run [] = true
no_run (r ∷ runs) = false

abbrev pub no_runs : Resources → Bool
no_runs set = no_run set.asn && no_run set.ipv4 && no_run set.ipv6

-- The text of one kind after its name; nothing where there is no number.
abbrev pub kind_text : List ℕ → (List Run → List ℕ) → List Run → List ℕ
kind_text name text set = if no_run set then [] else name ++ text set

-- All kinds of which there are some.
abbrev pub kinds_text : Resources → List ℕ
kinds_text set =
    kind_text (codes " asn: ") as_set_text set.asn ++
    (kind_text (codes " ipv4: ") (ip_set_text V4) set.ipv4 ++ kind_text (codes " ipv6: ")
    (ip_set_text V6) set.ipv6)

-- Changes as they are printed: `Added: asn: .. ipv4: .. Removed: ipv6: ..`.
abbrev pub changes_text : Changes → List ℕ
changes_text d =
    if no_runs d.added
    then (if no_runs d.removed then codes "<no changes in resources>" else codes "Removed:" ++ kinds_text d.removed)
    else (if no_runs d.removed
    then codes "Added:" ++ kinds_text d.added
    else codes "Added:" ++ (kinds_text d.added ++ (codes " Removed:" ++ kinds_text d.removed)))
