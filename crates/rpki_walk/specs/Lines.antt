-- What the walk's report is made of.
use Rattle.std.specs.Prelude.{map}
use Rattle.rpki_rules.specs.Words.{Mem}
use Rattle.rpki_rules.specs.Views.{origin_of, provision_of, refusal_of, witness_of}
use Rattle.rpki_walk.specs.declared.whole.Findings.{Findings}
use Rattle.rpki_walk.specs.Facts.{Finding, Refuses, Shows, Originates, Provides, Reaches, Chains, Diagnoses, Unheld}

-- What was found has this.
abbrev pub has_found : Findings → Finding → Type 0
has_found f (Refuses name why) =
    Mem (map refusal_of f.lines.refusals.items) (record { name = name; cause = why })
has_found f (Shows t) = Mem (map witness_of f.witnesses.items) t
has_found f (Originates o) = Mem (map origin_of f.lines.origins.items) o
has_found f (Provides p) = Mem (map provision_of f.lines.provisions.items) p
has_found f (Reaches k n) = ⊥
has_found f (Chains v) = ⊥
has_found f (Diagnoses d) = ⊥
has_found f (Unheld d numbers) = ⊥

-- What is attested or refused, and not what is reached, and by which chains.
abbrev pub IsLine : Finding → Type 0
IsLine (Refuses name why) = Unit {0}
IsLine (Shows t) = Unit {0}
IsLine (Originates o) = Unit {0}
IsLine (Provides p) = Unit {0}
IsLine (Reaches k n) = ⊥
IsLine (Chains v) = ⊥
IsLine (Diagnoses d) = ⊥
IsLine (Unheld d numbers) = ⊥
