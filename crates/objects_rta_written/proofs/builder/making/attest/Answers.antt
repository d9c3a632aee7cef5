use Rattle.std.proofs.Common.{List, subst, sym, ℕ}
use Rattle.objects_written.specs.bcder_tree.declared.mode.Mode.TheVariants.{Der}
use Rattle.objects_written.specs.bcder_content.Texts.{SpellsOf}
use Rattle.objects_rta.specs.Attestations.{IsAttestation}
use Rattle.objects_rta_written.specs.Contents.{IsReadable}
use Rattle.objects_rta_written.specs.Making.{said_by}
use Rattle.objects_rta_written.proofs.ContentAgain.{content_again}
use Rattle.objects_rta_written.proofs.Making.{attested, has_it, making_refused, said_readable}
use Rattle.objects_rta_written.proofs.builder.making.attest.Goals as goal

pub content_of-requires : goal.content_of-requires
content_of-requires c =
    let a = said_by c.args.keys.now c.args.sets c.args.digest.now in
    let r = said_readable c.args.keys.now c.args.sets c.args.digest.now c.are_long.ensures c.requires in
    (a, subst (λ (o : List ℕ). SpellsOf Der (IsAttestation Der) o a) (sym c.into_bytes.ensures.octets) (content_again a c.in-Ok.octets.octets r c.in-Ok.ensures.written))

pub returns-in-Ok-clause-made : goal.returns-in-Ok-clause-made
returns-in-Ok-clause-made c =
    let a = said_by c.args.keys.now c.args.sets c.args.digest.now in
    let r = said_readable c.args.keys.now c.args.sets c.args.digest.now c.are_long.ensures c.requires in
    let s = subst (λ (o : List ℕ). SpellsOf Der (IsAttestation Der) o a) (sym c.into_bytes.ensures.octets) (content_again a c.in-Ok.octets.octets r c.in-Ok.ensures.written) in
    attested c.into_bytes.result a s c.content_of.result c.content_of.ensures.made

pub returns-in-Ok-clause-readable : goal.returns-in-Ok-clause-readable
returns-in-Ok-clause-readable c =
    let a = said_by c.args.keys.now c.args.sets c.args.digest.now in
    let r = said_readable c.args.keys.now c.args.sets c.args.digest.now c.are_long.ensures c.requires in
    let s = subst (λ (o : List ℕ). SpellsOf Der (IsAttestation Der) o a) (sym c.into_bytes.ensures.octets) (content_again a c.in-Ok.octets.octets r c.in-Ok.ensures.written) in
    has_it IsReadable a r c.content_of.result (attested c.into_bytes.result a s c.content_of.result c.content_of.ensures.made)

pub returns-in-Err-clause-refused : goal.returns-in-Err-clause-refused
returns-in-Err-clause-refused c = making_refused (said_by c.args.keys.now c.args.sets c.args.digest.now) c.in-Err.error c.cause_of.result c.cause_of.ensures c.in-Err.ensures.refused
