-- The grammar of settings.
use Rattle.std.specs.Prelude.{◌≡◌, ℕ}
use Rattle.bcder_example.specs.bcder_tree.declared.mode.Mode.{Mode}
use Rattle.bcder_example.specs.bcder_tree.Tags.{integer_tag}
use Rattle.bcder_example.specs.bcder_tree.Tree.{Trees}
use Rattle.bcder_example.specs.bcder_content.Grammar.{Where, Rest, Then, Default}
use Rattle.bcder_example.specs.declared.settings.Settings.{Settings}
use Rattle.bcder_example.specs.Versions.{IsSmall, Numbers}

-- Settings ::= SEQUENCE { format INTEGER (0), level INTEGER DEFAULT 3, ... }
abbrev pub settings_fields : Settings → Numbers
settings_fields s = (s.format, (s.level, tt))

abbrev pub IsZero : ℕ → Type 0
IsZero n = n ≡ 0

abbrev pub IsSettingsBody : Mode → Trees → Numbers → Type 0
IsSettingsBody m = Then (Where IsSmall IsZero) (Default integer_tag IsSmall 3 Rest)
