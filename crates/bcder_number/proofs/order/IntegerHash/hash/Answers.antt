use Rattle.bcder_number.specs.Contents.{content, content_is, one_integer}
use Rattle.bcder_number.proofs.order.IntegerHash.hash.Goals as goal

pub returns : goal.returns
returns g c = rw (one_integer c.args.self.now (content c.args.self.now) c.as_slice.result.now (content_is c.args.self.now) c.as_slice.ensures) c.hash.ensures
