use Rattle.objects_rta_written.proofs.BuiltAgain.{begun_says, document_again, signer_tells}
use Rattle.objects_rta_written.proofs.laws.what_is_built_is_read_again.Goals as goal

pub returns-clause-documents : goal.returns-clause-documents
returns-clause-documents c = document_again c.objects_are_read_again.ensures

pub returns-clause-contents : goal.returns-clause-contents
returns-clause-contents c = begun_says c.contents_are_read_again.ensures

pub returns-clause-signers : goal.returns-clause-signers
returns-clause-signers c = signer_tells
