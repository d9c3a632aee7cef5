-- The paths of a valid attestation as they are lent, and what they cover.
use Rattle.std.specs.Prelude.{ℕ}
use Rattle.objects_rta_valid.specs.certs_extension.Kinds.{Kind}
use Rattle.objects_rta_anchors.specs.Coverage.{CoversAt}
use Rattle.objects_rta_anchors.specs.Ends.{IsKept}
use Rattle.objects_rta_anchors.specs.declared.covered.Anchored.{Anchored}

-- Each path has its end and is anchored or open, and what a locator anchors inherits nothing.
abbrev pub AreKept : Anchored → Type 0
AreKept a = IsKept a.certs.now a.paths.now.paths a.ends.now a.anchors.now

-- The path of that signer covers the number.
abbrev pub SignerCovers : Anchored → Kind → ℕ → ℕ → Type 0
SignerCovers a kind n signer =
    CoversAt a.certs.now a.issuers.now kind n a.paths.now.paths a.anchors.now signer
