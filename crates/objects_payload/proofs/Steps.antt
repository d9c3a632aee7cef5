-- One address after the other.
use Rattle.std.proofs.Common.{◌≡◌, ◌↔◌, ℕ, List, ◌∷◌, sym, subst}
use Rattle.objects_payload.specs.resources_chain.Sets.{InRun}
use Rattle.objects_payload.specs.resources_ip_prefix.Prefixes.{prefix_run}
use Rattle.objects_payload.specs.resources_ip_prefix.Encodings.{FirstBits, prefix_bits}
use Rattle.objects_payload.specs.resources_ip_prefix.Prefix.{run_of_prefix}
use Rattle.objects_payload.specs.resources_ip_prefix.declared.prefix.Prefix.{Prefix}
use Rattle.objects_payload.specs.Roas.{RoaAddress}
use Rattle.objects_payload.specs.Covered.{AreHeld, IsHeld}

pub held_front : (held : ℕ → Type 0) (all rest : List RoaAddress) (a : RoaAddress) → all ≡ a ∷ rest → AreHeld held all → IsHeld held a
held_front held all rest a e p = (subst (AreHeld held) e p).0

pub held_behind : (held : ℕ → Type 0) (all rest : List RoaAddress) (a : RoaAddress) → all ≡ a ∷ rest → AreHeld held all → AreHeld held rest
held_behind held all rest a e p = (subst (AreHeld held) e p).1

pub held_whole : (held : ℕ → Type 0) (all rest : List RoaAddress) (a : RoaAddress) → all ≡ a ∷ rest → IsHeld held a → AreHeld held rest → AreHeld held all
held_whole held all rest a e p q = subst (AreHeld held) (sym e) (p, q)

-- The addresses of the prefix of an address are those that it has.
abbrev AllHeld : (ℕ → Type 0) → FirstBits → Type 0
AllHeld held b = (n : ℕ) → InRun (prefix_run b.addr b.len) n → held n

abbrev pub HasAll : (ℕ → Type 0) → Prefix → Type 0
HasAll held p = (n : ℕ) → InRun (run_of_prefix p) n → held n

pub prefix_held : (held : ℕ → Type 0) (p : Prefix) (a : RoaAddress) → prefix_bits p ≡ record { addr = a.addr; len = a.len } → HasAll held p ↔ IsHeld held a
prefix_held held p a e = ((λ h. subst (AllHeld held) e h), (λ h. subst (AllHeld held) (sym e) h))
