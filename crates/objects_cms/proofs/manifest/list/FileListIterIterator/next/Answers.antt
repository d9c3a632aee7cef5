use Rattle.std.proofs.Common.{rules, ap, arith, length, sym, ◌∙◌}
use Rattle.objects_cms.proofs.Stepping.{file_steps, hash_left, next_file, no_files, none_yields}
use Rattle.objects_cms.proofs.manifest.list.FileListIterIterator.next.Goals as goal

pub returns-in_err-file-clause-steps : goal.returns-in_err-file-clause-steps
returns-in_err-file-clause-steps c =
    none_yields c.from_residual.result c.from_residual.ensures (sym c.self.view_is ∙ no_files c.self.inside.octets.now c.self.inside.left c.in_err-file.ensures.none)

pub returns-in_err-content-clause-steps : goal.returns-in_err-content-clause-steps
returns-in_err-content-clause-steps c =
    absurd (hash_left c.self.inside.octets.now c.in_ok-file.file.now c.in_ok-file.behind.now c.self.inside.left c.in_ok-file.ensures.found c.in_err-content.ensures.none)

pub returns-in_err-_unused-clause-steps : goal.returns-in_err-_unused-clause-steps
returns-in_err-_unused-clause-steps c =
    let n = next_file c.self.inside.octets.now c.in_ok-file.file.now c.in_ok-file.behind.now c.in_ok-content.content.now c.in_ok-content.behind.now c.self.inside.left c.in_ok-file.ensures.found c.in_ok-content.ensures.found in
    absurd (omega (arith, ap length n.content_is, c.in_err-_unused.ensures.cases))

pub invariant_of-self-inside : goal.invariant_of-self-inside
invariant_of-self-inside c =
    let n = next_file c.self.inside.octets.now c.in_ok-file.file.now c.in_ok-file.behind.now c.in_ok-content.content.now c.in_ok-content.behind.now c.self.inside.left c.in_ok-file.ensures.found c.in_ok-content.ensures.found in
    ((n.others, n.left), tt)

pub returns-clause-steps : goal.returns-clause-steps
returns-clause-steps c =
    let n = next_file c.self.inside.octets.now c.in_ok-file.file.now c.in_ok-file.behind.now c.in_ok-content.content.now c.in_ok-content.behind.now c.self.inside.left c.in_ok-file.ensures.found c.in_ok-content.ensures.found in
    file_steps _ (search rules) c.self.view_is n c.in_ok-_unused.ensures.cases.0 c.new.ensures

pub returns-clause-goes : goal.returns-clause-goes
returns-clause-goes c = record {
  on = λ h. (search rules, search rules, omega (arith, ap length (returns-clause-steps c)));
  keeps = search rules;
  rests = λ h. search rules;
}
