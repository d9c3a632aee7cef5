use Rattle.std.proofs.Common.{ℕ, List, IfOk, ap, ◌∙◌, subst}
use Rattle.certs_key.specs.bcder_tree.declared.mode.Mode.TheVariants.{Der}
use Rattle.certs_key.specs.bcder_tree.Tree.{Spells}
use Rattle.certs_key.specs.certs_basics.Names.{subject_of}
use Rattle.certs_key.proofs.key.PublicKey.to_subject_name.Goals as goal

pub returns-clause-spelled : goal.returns-clause-spelled
returns-clause-spelled g c =
    subst (λ (v : List ℕ). IfOk c.from_key_identifier.result (λ name. Spells Der (subject_of v) name.octets))
    (c.sha1.ensures ∙ ap (g.D.Digester.sha1_digest c.args.digester.now) c.bits.ensures) c.from_key_identifier.ensures.spelled
