use Rattle.std.proofs.Common.{ℕ, List, Err, rules, subst}
use Rattle.certs_extension.specs.bcder_tree.declared.mode.Mode.TheVariants.{Der}
use Rattle.certs_extension.specs.bcder_source.declared.error.DecodeError.TheVariants.{Content}
use Rattle.certs_extension.specs.bcder_content.Captures.{rest_of}
use Rattle.certs_extension.specs.bcder_content.ClosureReads.{Decoded, fresh}
use Rattle.certs_extension.proofs.put.put_once.Goals as goal

pub returns-in-Err-Content-clause-refused : goal.returns-in-Err-Content-clause-refused
returns-in-Err-Content-clause-refused g c =
    let x = c.in-Err-Content.field-0-0 in
    let pos = c.in-Err-Content.field-0-1 in
    let d = rw c.in-Err-Content.field-0-is at c.in-Err-Content.ensures.decoded in (
      record { empty = search rules; met = search rules },
      x,
      pos,
      subst (λ (o : List ℕ). Decoded rest_of g.F.FnOnce c.args.op (fresh Der o) (Err (Content x pos))) c.into_bytes.ensures d,
    )
