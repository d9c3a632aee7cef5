use Rattle.std.proofs.Common.{ℕ, List, Option, sym, subst}
use Rattle.std.specs.Prelude.{Vec}
use Rattle.std.specs.declared.alloc.Global.{Global}
use Rattle.rpki_commands.specs.Lines.{TellsFlag}
use Rattle.rpki_commands.specs.Folders.{TellsVersion}
use Rattle.rpki_commands.proofs.folder.parts.version_of.Goals as goal

pub returns-in-None-clause-none : goal.returns-in-None-clause-none
returns-in-None-clause-none c = λ version t.
    let told = subst (λ (o : Option (Vec ℕ Global)). TellsVersion o version) c.in-Some.is t in
    c.in-None.ensures.none told.0 (subst (λ (s : List ℕ). TellsFlag s told.0) (sym c.as_slice.ensures.value) told.1)
