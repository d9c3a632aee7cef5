use Rattle.rpki_bundle.specs.bcder_tree.declared.mode.Mode.TheVariants.{Der}
use Rattle.rpki_bundle.specs.PartFields.{IsBundleAlone, parts_alone}
use Rattle.rpki_bundle.proofs.Beginning.{begun}
use Rattle.rpki_bundle.proofs.Reading.{ends_in, text_decoded, told_parts}
use Rattle.rpki_bundle.proofs.whole.read_whole.Goals as goal

pub returns-clause-tells : goal.returns-clause-tells
returns-clause-tells g c = told_parts _ _ (text_decoded {f = parts_alone} {P = IsBundleAlone Der} (record { each = λ p q r m h. ends_in parts_alone IsBundleAlone _ _ r m h.0 }) c.decode.ensures.decoded)

pub returns-clause-memory : goal.returns-clause-memory
returns-clause-memory g c = begun _ c.decode.result (record { each = λ p q r h. h.1 }) c.decode.ensures.memory
