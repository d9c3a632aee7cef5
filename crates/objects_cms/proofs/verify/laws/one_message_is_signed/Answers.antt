use Rattle.objects_cms.proofs.Messages.{one_message}
use Rattle.objects_cms.proofs.verify.laws.one_message_is_signed.Goals as goal

pub returns : goal.returns
returns c = one_message
