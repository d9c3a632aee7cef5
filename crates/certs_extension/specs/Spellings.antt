-- What a tree is and what its octets spell: in DER one certificate, and one revocation list (X.690 10.1, 11).
use Rattle.std.specs.Prelude.{ℕ, ◌↔◌, List}
use Rattle.certs_extension.specs.bcder_tree.declared.mode.Mode.TheVariants.{Der}
use Rattle.certs_extension.specs.bcder_tree.Tree.{Tree, Spells}
use Rattle.certs_extension.specs.Cert.{CertValue}
use Rattle.certs_extension.specs.CertText.{IsCert, SpellsCert}
use Rattle.certs_extension.specs.CrlText.{CrlValue, IsCrl, SpellsCrl}

-- The tree is that certificate where its octets spell it.
abbrev pub CertIsSpelled : Type 0
CertIsSpelled =
    (t : Tree) (text : List ℕ) (c : CertValue) → Spells Der t text
    → IsCert Der t c ↔ SpellsCert Der text c

-- The tree is that revocation list where its octets spell it.
abbrev pub CrlIsSpelled : Type 0
CrlIsSpelled =
    (t : Tree) (text : List ℕ) (c : CrlValue) → Spells Der t text
    → IsCrl Der t c ↔ SpellsCrl Der text c
