use Rattle.std.proofs.Common.{IfErr, IfOk, subst}
use Rattle.objects_written.specs.bcder_tree.declared.mode.Mode.TheVariants.{Der}
use Rattle.objects_rta_written.specs.Contents.{ContentParts, written_parts}
use Rattle.objects_rta_written.specs.Taking.{TextRefused}
use Rattle.objects_rta_written.proofs.Making.{said_parts}
use Rattle.objects_rta_written.proofs.builder.making.write.Goals as goal

pub returns-clause-written : goal.returns-clause-written
returns-clause-written c =
    let same = said_parts c.args.keys.now c.args.sets c.args.digest.now c.new-values.result _ _ _ c.new-values.ensures c.numbers_listed-asn.ensures c.addresses_listed-v4.ensures c.addresses_listed-v6.ensures in
    subst (λ (p : ContentParts). IfOk c.text_of.result (λ k. (written_parts p).writes Der k.octets)) same c.text_of.ensures.written

pub returns-clause-refused : goal.returns-clause-refused
returns-clause-refused c =
    let same = said_parts c.args.keys.now c.args.sets c.args.digest.now c.new-values.result _ _ _ c.new-values.ensures c.numbers_listed-asn.ensures c.addresses_listed-v4.ensures c.addresses_listed-v6.ensures in
    subst (λ (p : ContentParts). IfErr c.text_of.result (TextRefused ((written_parts p).writes Der))) same c.text_of.ensures.refused
