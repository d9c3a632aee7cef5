use Rattle.bcder_number.specs.Contents.{content, content_is, one_integer}
use Rattle.bcder_number.proofs.laws.one_content.Goals as goal

pub returns-clause-some : goal.returns-clause-some
returns-clause-some c = λ x. (content x, content_is x)

pub returns-clause-one : goal.returns-clause-one
returns-clause-one c = λ x a b s t. one_integer x a b s t
