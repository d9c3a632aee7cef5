use Rattle.rpki_standing.specs.declared.payloads.names.Extension.TheVariants as extension
use Rattle.rpki_standing.proofs.Endings.{found}
use Rattle.rpki_standing.proofs.payloads.names.extension_of.Goals as goal

pub returns-then-has_extension : goal.returns-then-has_extension
returns-then-has_extension c = found c.args.uri.now extension.Cer (c.has_extension.ensures.0 c.if-has_extension.true)

pub returns-then-has_extension-2 : goal.returns-then-has_extension-2
returns-then-has_extension-2 c = found c.args.uri.now extension.Roa (c.has_extension-else-has_extension.ensures.0 c.if-has_extension-2.true)
