-- Versions of contents that have a default.
use Rattle.std.specs.Prelude.{ℕ}
use Rattle.objects_cms.specs.bcder_tree.declared.mode.Mode.{Mode}
use Rattle.objects_cms.specs.bcder_tree.Tree.{Trees}
use Rattle.objects_cms.specs.bcder_content.Grammar.{End, Then}
use Rattle.objects_payload.specs.certs_extension.CertText.{IsVersion as IsInteger}

-- The content of version [0] EXPLICIT INTEGER of that number
abbrev pub IsNumber : ℕ → Mode → Trees → Unit {0} × Unit {0} → Type 0
IsNumber number m = Then (IsInteger number) End
