-- What changes do.
use Rattle.std.specs.Prelude.{ℕ, ◌⊎◌, ◌↔◌, List}
use Rattle.resources.specs.resources_chain.Sets.{Run, InRuns}
use Rattle.resources.specs.Resources.{Resources, Changes}

-- The numbers of one set without those of a second, and those of a third, are just those of a fourth.
abbrev pub Turns : (before removed added now : List Run) → Type 0
Turns before removed added now =
    (n : ℕ) → ((InRuns before n × ¬ (InRuns removed n)) ⊎ InRuns added n) ↔ InRuns now n

-- In each kind: without what was removed and with what was added.
pub record LeadsTo (before : Resources) (d : Changes) (now : Resources) : Type 0 where
  pub asn : Turns before.asn d.removed.asn d.added.asn now.asn
  pub ipv4 : Turns before.ipv4 d.removed.ipv4 d.added.ipv4 now.ipv4
  pub ipv6 : Turns before.ipv6 d.removed.ipv6 d.added.ipv6 now.ipv6
