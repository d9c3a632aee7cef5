-- Certificates that are told apart by the identifiers of their keys, and the paths of signers.
use Rattle.std.specs.Prelude.{◌≡◌, ℕ, List}
use Rattle.std.specs.List.{AllZip}
use Rattle.objects_rta_valid.specs.Nodes.{Node}
use Rattle.objects_rta_valid.specs.Paths.{At, IsOnlyPath}

-- No two certificates have one subject key identifier (RFC 6487 4.8.2).
abbrev pub AreApart : List Node → Type 0
AreApart nodes =
    (a b : ℕ) (c p : Node) → At nodes a c → At nodes b p → c.subject ≡ p.subject → a ≡ b

-- Each signer's only path, in their order.
abbrev pub AreOnly : List Node → List (List ℕ) → List (List ℕ) → Type 0
AreOnly nodes sids paths = AllZip (IsOnlyPath nodes) sids paths
