use Rattle.std.proofs.Common.{List}
use Rattle.std.specs.Option.{option_map}
use Rattle.objects_cms.specs.certs_extension.CrlText.{CrlValue}
use Rattle.objects_cms.proofs.Whole.{said_no}
use Rattle.objects_cms.proofs.of_bcder_content.Keeping.{same_refusal}
use Rattle.objects_cms.proofs.of_bcder_content.Taking.{on_content, weaker}
use Rattle.objects_rta.specs.Carried.{AreListsIn, octets_of}
use Rattle.objects_rta.specs.MultiFrame.{Agrees}
use Rattle.objects_rta.proofs.object.MultiSignedObject.agreed.Goals as goal

pub returns-then-not-agree-clause-makes : goal.returns-then-not-agree-clause-makes
returns-then-not-agree-clause-makes g c =
    let none : (crls : List CrlValue) → Agrees c.args.parts crls → ⊥ = λ crls a. said_no c.agree.ensures c.if-not-agree.true a.same_type in
    on_content _ none

pub returns-in-Ok-clause-makes : goal.returns-in-Ok-clause-makes
returns-in-Ok-clause-makes g c = record {
  crls = c.in-Ok.crls.items;
  agrees = record { same_type = c.agree.ensures.0 c.if-not-agree.false; lists = c.in-Ok.ensures };
  says = c.from_parts.ensures;
}

pub returns-in-Err-clause-makes : goal.returns-in-Err-clause-makes
returns-in-Err-clause-makes g c =
    let lists = option_map octets_of c.args.parts.1.lists in
    let weak : ((crls : List CrlValue) → AreListsIn lists crls → ⊥) → (crls : List CrlValue) → Agrees c.args.parts crls → ⊥ = λ n crls a. n crls a.lists in
    same_refusal _ _ _ c.convert.ensures (weaker _ weak c.in-Err.ensures)
