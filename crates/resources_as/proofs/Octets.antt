-- Components below 128 are one octet each.
use Rattle.std.proofs.Common.{ℕ, ◌<◌, ◌≤◌, List, [], ◌∷◌, All, refl, arith}
use Rattle.resources_chain.specs.declared.claims.Overclaim.{Overclaim}
use Rattle.resources_chain.specs.declared.claims.Overclaim.TheVariants.{Refuse, Trim}
use Rattle.resources_as.specs.bcder.Subidentifiers.{InTurn, IsShortest}
use Rattle.resources_as.specs.bcder.OidTexts.{Spells}
use Rattle.resources_as.proofs.of_bcder.Written.{spells}
use Rattle.resources_as.specs.Identifiers.{policy_octets, ip_octets, as_octets, policy_components, ip_components, as_components}

small : (n : ℕ) → n < 128 → IsShortest (n ∷ []) n
small n h =
    let none : All (λ a. 128 ≤ a) [] = grind arith in
    record { is = record { front = []; last = n; whole = refl; more = none; ends = h; value = omega (arith, h) }; short = λ e. omega (arith, h, e) }

one : (n : ℕ) (octets ns : List ℕ) → n < 128 → InTurn IsShortest octets ns → InTurn IsShortest (n ∷ octets) (n ∷ ns)
one n octets ns h behind = (n ∷ [], octets, refl, small n h, behind)

-- The identifiers below 1.3.6.1.5.5.7.
under : (a b : ℕ) → a < 128 → b < 128 → Spells (43 ∷ 6 ∷ 1 ∷ 5 ∷ 5 ∷ 7 ∷ a ∷ b ∷ []) (1 ∷ 3 ∷ 6 ∷ 1 ∷ 5 ∷ 5 ∷ 7 ∷ a ∷ b ∷ [])
under a b p q =
    let last : InTurn IsShortest (b ∷ []) (b ∷ []) = one b [] [] q refl in
    let two : InTurn IsShortest (a ∷ b ∷ []) (a ∷ b ∷ []) = one a (b ∷ []) (b ∷ []) p last in
    let three : InTurn IsShortest (7 ∷ a ∷ b ∷ []) (7 ∷ a ∷ b ∷ []) = one 7 (a ∷ b ∷ []) (a ∷ b ∷ []) (omega arith) two in
    let four : InTurn IsShortest (5 ∷ 7 ∷ a ∷ b ∷ []) (5 ∷ 7 ∷ a ∷ b ∷ []) = one 5 (7 ∷ a ∷ b ∷ []) (7 ∷ a ∷ b ∷ []) (omega arith) three in
    let five : InTurn IsShortest (5 ∷ 5 ∷ 7 ∷ a ∷ b ∷ []) (5 ∷ 5 ∷ 7 ∷ a ∷ b ∷ []) = one 5 (5 ∷ 7 ∷ a ∷ b ∷ []) (5 ∷ 7 ∷ a ∷ b ∷ []) (omega arith) four in
    let six : InTurn IsShortest (1 ∷ 5 ∷ 5 ∷ 7 ∷ a ∷ b ∷ []) (1 ∷ 5 ∷ 5 ∷ 7 ∷ a ∷ b ∷ []) = one 1 (5 ∷ 5 ∷ 7 ∷ a ∷ b ∷ []) (5 ∷ 5 ∷ 7 ∷ a ∷ b ∷ []) (omega arith) five in
    let seven : InTurn IsShortest (6 ∷ 1 ∷ 5 ∷ 5 ∷ 7 ∷ a ∷ b ∷ []) (6 ∷ 1 ∷ 5 ∷ 5 ∷ 7 ∷ a ∷ b ∷ []) = one 6 (1 ∷ 5 ∷ 5 ∷ 7 ∷ a ∷ b ∷ []) (1 ∷ 5 ∷ 5 ∷ 7 ∷ a ∷ b ∷ []) (omega arith) six in
    let all : InTurn IsShortest (43 ∷ 6 ∷ 1 ∷ 5 ∷ 5 ∷ 7 ∷ a ∷ b ∷ []) (43 ∷ 6 ∷ 1 ∷ 5 ∷ 5 ∷ 7 ∷ a ∷ b ∷ []) = one 43 (6 ∷ 1 ∷ 5 ∷ 5 ∷ 7 ∷ a ∷ b ∷ []) (6 ∷ 1 ∷ 5 ∷ 5 ∷ 7 ∷ a ∷ b ∷ []) (omega arith) seven in
    spells (43 ∷ 6 ∷ 1 ∷ 5 ∷ 5 ∷ 7 ∷ a ∷ b ∷ []) 1 3 (6 ∷ 1 ∷ 5 ∷ 5 ∷ 7 ∷ a ∷ b ∷ []) (1 ∷ 3 ∷ 6 ∷ 1 ∷ 5 ∷ 5 ∷ 7 ∷ a ∷ b ∷ []) refl (omega arith) (λ h. omega arith) all

pub policies : (m : Overclaim) → Spells (policy_octets m) (policy_components m)
policies Refuse = under 14 2 (omega arith) (omega arith)
policies Trim = under 14 3 (omega arith) (omega arith)

pub ip_resources : (m : Overclaim) → Spells (ip_octets m) (ip_components m)
ip_resources Refuse = under 1 7 (omega arith) (omega arith)
ip_resources Trim = under 1 28 (omega arith) (omega arith)

pub as_resources : (m : Overclaim) → Spells (as_octets m) (as_components m)
as_resources Refuse = under 1 8 (omega arith) (omega arith)
as_resources Trim = under 1 29 (omega arith) (omega arith)
