-- One step down a chain (RFC 6487 7.2, RFC 8360 4.2).
use Rattle.std.specs.Prelude.{List, Result, Ok, Err}
use Rattle.rpki_walk.specs.certs_basics.Lists.{FirstFailing}
use Rattle.rpki_walk.specs.resources_chain.Sets.{Run, InRuns, IsRunsOf}
use Rattle.rpki_walk.specs.resources_chain.Claims.{Choice, Kept, FitsIn, Unfit}
use Rattle.rpki_walk.specs.resources_chain.declared.claims.Overclaim.{Overclaim}
use Rattle.rpki_walk.specs.resources_chain.declared.claims.Overclaim.TheVariants.{Refuse}
use Rattle.rpki_walk.specs.resources.Resources.{Resources}
use Rattle.rpki_rules.specs.certs_x509.declared.errors.verification.Overclaimed.{Overclaimed}
use Rattle.rpki_rules.specs.Kinds.{Kind, Ipv4, Ipv6, As, of_kind}
use Rattle.rpki_rules.specs.Reasons.{kinds}
use Rattle.rpki_rules.specs.ReasonViews.{kind_claimed, runs_claimed}
use Rattle.rpki_walk.specs.Claimed.{ClaimValue}

-- What is claimed of a kind.
abbrev pub claim_of : ClaimValue → Kind → Choice
claim_of claim Ipv4 = claim.ipv4
claim_of claim Ipv6 = claim.ipv6
claim_of claim As = claim.asn

-- By its policy the certificate lists no number of the kind that isn't held.
abbrev pub FitsOf : ClaimValue → Resources → Kind → Type 0
FitsOf claim held k = FitsIn claim.mode (claim_of claim k) (InRuns (of_kind held k))

-- Of the kind the claim doesn't fit, and these are the numbers that are listed and not held.
abbrev pub UnfitOf : ClaimValue → Resources → Kind → List Run → Type 0
UnfitOf claim held k numbers =
    Unfit claim.mode (claim_of claim k) (InRuns (of_kind held k)) numbers

-- Of one kind, what is held below by its maximal runs, or the numbers that are listed and not held.
abbrev pub FindsKept : Overclaim → Choice → List Run → Result (List Run) (List Run) → Type 0
FindsKept mode claim held (Ok kept) =
    FitsIn mode claim (InRuns held) × IsRunsOf (Kept claim (InRuns held)) kept
FindsKept mode claim held (Err numbers) = Unfit mode claim (InRuns held) numbers

-- Of one kind, that each number that is listed is held, or those that aren't.
abbrev pub Covers : Choice → List Run → Result (Unit {0}) (List Run) → Type 0
Covers claim held (Ok x) = FitsIn Refuse claim (InRuns held)
Covers claim held (Err numbers) = Unfit Refuse claim (InRuns held) numbers

-- By its policy the certificate lists no number that isn't held, of any kind.
pub record FitsAll (claim : ClaimValue) (held : Resources) : Type 0 where
  pub asns : FitsIn claim.mode claim.asn (InRuns held.asn)
  pub v4s : FitsIn claim.mode claim.ipv4 (InRuns held.ipv4)
  pub v6s : FitsIn claim.mode claim.ipv6 (InRuns held.ipv6)

-- Of each kind the maximal runs of what is held below it.
pub record AreKept (claim : ClaimValue) (held next : Resources) : Type 0 where
  pub asns : IsRunsOf (Kept claim.asn (InRuns held.asn)) next.asn
  pub v4s : IsRunsOf (Kept claim.ipv4 (InRuns held.ipv4)) next.ipv4
  pub v6s : IsRunsOf (Kept claim.ipv6 (InRuns held.ipv6)) next.ipv6

-- The first kind, of IPv4, IPv6 and AS numbers, of which the claim doesn't fit, and the numbers of it
-- that are listed and not held.
pub record TellsUnfit (claim : ClaimValue) (held : Resources) (x : Overclaimed) : Type 0 where
  pub first : FirstFailing (FitsOf claim held) kinds (kind_claimed x)
  pub outside : UnfitOf claim held (kind_claimed x) (runs_claimed x)

-- The claim fits, or that is told.
abbrev pub FitsOrTells : ClaimValue → Resources → Result (Unit {0}) Overclaimed → Type 0
FitsOrTells claim held (Ok x) = FitsAll claim held
FitsOrTells claim held (Err x) = TellsUnfit claim held x

-- What is held below it, or where its claim doesn't fit.
abbrev pub FindsHeld : ClaimValue → Resources → Result Resources Overclaimed → Type 0
FindsHeld claim held (Ok next) = FitsAll claim held × AreKept claim held next
FindsHeld claim held (Err x) = TellsUnfit claim held x
