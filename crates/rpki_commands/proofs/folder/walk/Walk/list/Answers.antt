use Rattle.std.proofs.Common.{ℕ, ◌≤◌, List, ◌++◌, ◌∷◌, string_bytes, sym, ap, subst, ◌∙◌, arith}
use Rattle.rpki_commands.specs.Limits.{IsEntryName}
use Rattle.rpki_commands.proofs.EntryNames.{entry_name, entry_of}
use Rattle.rpki_commands.proofs.folder.walk.Walk.list.Goals as goal

pub loop-entry-preserved : goal.loop-entry-preserved
loop-entry-preserved g c = record {
  fewer = omega (arith, c.loop-entry.invariant.fewer, c.in_ok-take_entry.ensures.fewer);
  walked = λ walked folder.
      let name = subst IsEntryName (sym c.file_name.ensures) (entry_name (string_bytes c.in_ok-entry.entry.path)) in
      let whole = c.in_ok-uri.ensures ∙ ap (λ (front : List ℕ). front ++ (47 ∷ c.file_name.result.now)) c.as_str-in-loop-entry.ensures.value in
      let some : 1 ≤ c.args.folder.level = omega (arith, folder.level_is) in
      c.in_ok-take_entry.ensures.walked (c.loop-entry.invariant.walked walked folder) some folder.few (entry_of c.args.folder c.file_name.result.now (string_bytes c.in_ok-uri.uri) folder name whole);
}
