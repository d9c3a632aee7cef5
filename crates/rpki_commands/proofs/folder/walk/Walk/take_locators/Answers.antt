use Rattle.std.proofs.Common.{◌≡◌, ◌++◌, codes, string_bytes, refl, sym, subst, arith, rules}
use Rattle.rpki_commands.specs.declared.folder.walk.Walk.{Walk}
use Rattle.rpki_commands.specs.Limits.{IsEntryName, IsWalked}
use Rattle.rpki_commands.proofs.EntryNames.{entry_name, front_name}
use Rattle.rpki_commands.proofs.Walking.{walked_counted}
use Rattle.rpki_commands.proofs.folder.walk.Walk.take_locators.Goals.{in-File-Some+in_ok-take_locator-in-File-Some, in-File+in-None-1, in-Folder-1}
use Rattle.rpki_commands.proofs.folder.walk.Walk.take_locators.Goals as goal

pub loop-entry-preserved : goal.loop-entry-preserved
loop-entry-preserved g c = λ walked.
    let before = c.loop-entry.invariant walked in
    let counted : Walk = record c.loop-entry.self { entries_left = c.count_entry.new.entries_left } in
    let skipped : IsWalked 0 counted = walked_counted 0 0 c.loop-entry.self counted before refl refl refl (omega (arith, c.in_ok-count_entry.ensures.counted)) refl in
    let one : IsWalked 1 counted = walked_counted 0 1 c.loop-entry.self counted before refl refl refl (omega (arith, c.in_ok-count_entry.ensures.counted)) refl in
    elim c.match-branch-7.branch [
      | in-File-Some+in_ok-take_locator-in-File-Some w ↦
          let file = subst IsEntryName (sym c.file_name.ensures) (entry_name (string_bytes c.in_ok-entry.entry.path)) in
          let told : c.file_name.result.now ≡ w.in-File-Some.name.now ++ codes ".tal" = search rules in
          let name = front_name w.in-File-Some.name.now (codes ".tal") (subst IsEntryName told file) in
          subst (IsWalked 0) (sym w.self-is) (w.in_ok-take_locator-in-File-Some.ensures one name)
      | in-File+in-None-1 w ↦ subst (IsWalked 0) (sym w.self-is) skipped
      | in-Folder-1 w ↦ subst (IsWalked 0) (sym w.self-is) skipped
    ]
