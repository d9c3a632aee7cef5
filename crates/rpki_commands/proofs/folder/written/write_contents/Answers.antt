use Rattle.std.proofs.Common.{subst, refl, ℕ, List, Option, Some, None}
use Rattle.std.specs.Io.KnownBytes.{Appends, Keeps}
use Rattle.rpki_validator.specs.Streams.{TakesSome}
use Rattle.rpki_commands.specs.rpki_bundle.Errors.{OnNotABundle}
use Rattle.rpki_commands.specs.Folders.{OnMemory, TellsLines}
use Rattle.rpki_commands.specs.Texts.{TellsNoText}
use Rattle.rpki_commands.proofs.folder.written.write_contents.Goals as goal

keeps : (w : Option (List ℕ)) → Keeps w w
keeps None = tt
keeps (Some xs) = refl

pub returns-in-Err-NotABundle-clause-refused : goal.returns-in-Err-NotABundle-clause-refused
returns-in-Err-NotABundle-clause-refused g c = (
  keeps _,
  subst (λ e. OnNotABundle e (TellsNoText c.args.contents)) c.in-Err-NotABundle.field-0-is c.in-Err-NotABundle.ensures.refused,
)

pub returns-in-Err-Memory-clause-refused : goal.returns-in-Err-Memory-clause-refused
returns-in-Err-Memory-clause-refused g c = (
  keeps _,
  subst (λ e. OnMemory e (TellsLines c.args.contents)) c.in-Err-Memory.field-0-is c.in-Err-Memory.ensures.memory,
)

pub returns-in-Ok-write_all-clause-ok : goal.returns-in-Ok-write_all-clause-ok
returns-in-Ok-write_all-clause-ok g c = record {
  text = c.in-Ok.text.items;
  told = c.in-Ok.ensures.ok;
  written = subst (Appends _ _) c.as_slice.ensures.value c.in-Ok-write_all.ensures.ok;
}

pub returns-clause-refused : goal.returns-clause-refused
returns-clause-refused g c = record {
  text = c.in-Ok.text.items;
  told = c.in-Ok.ensures.ok;
  written = subst (TakesSome _ _) c.as_slice.ensures.value c.in-Err.ensures.err;
}
