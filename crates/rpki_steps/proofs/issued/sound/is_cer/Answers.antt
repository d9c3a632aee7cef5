use Rattle.std.proofs.Common.{rules}
use Rattle.rpki_standing.specs.declared.payloads.names.Extension.TheVariants.{Cer}
use Rattle.rpki_steps.proofs.issued.sound.is_cer.Goals as goal

pub returns : goal.returns
returns c = let h = c.extension_of.ensures Cer in search rules
