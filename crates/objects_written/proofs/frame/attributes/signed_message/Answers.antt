use Rattle.objects_written.proofs.Sets.{message_told}
use Rattle.objects_written.proofs.Messages.{message_lacked, message_stop}
use Rattle.objects_written.proofs.frame.attributes.signed_message.Goals as goal

pub returns-clause-message : goal.returns-clause-message
returns-clause-message c = message_told c.args.attributes.now c.to_captured.result c.to_captured.ensures.captured

pub returns-clause-refused : goal.returns-clause-refused
returns-clause-refused c = message_stop c.args.attributes.now c.requires c.are_spelled.ensures c.to_captured.result c.to_captured.ensures.refused

pub returns-clause-memory : goal.returns-clause-memory
returns-clause-memory c = message_lacked c.args.attributes.now c.to_captured.result c.to_captured.ensures.memory
