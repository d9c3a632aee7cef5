use Rattle.bcder_example.specs.bcder_content.Grammar.{One}
use Rattle.bcder_example.proofs.of_bcder_content.Unique.{octets_tagged, octets_one, unsigned_one, inside_one, such_one, end_one, rest_one, then_one, opt_one, default_one, many_one}
use Rattle.bcder_example.specs.Notices.{notice}
use Rattle.bcder_example.specs.Versions.{IsSmall, IsVersion}
use Rattle.bcder_example.proofs.laws.one_meaning.Goals as goal

small : One IsSmall
small = octets_one unsigned_one

numbers : One IsVersion
numbers = inside_one (then_one small (then_one small end_one))

pub returns : goal.returns
returns c = record {
  version = numbers;
  notice = λ m. notice.one_meaning (tt, (tt, (tt, tt))) m (tt, (tt, (tt, tt)));
  entry = numbers;
  log = λ m. inside_one (opt_one (octets_tagged _ _) small (then_one (inside_one (many_one numbers)) end_one));
  settings = λ m. inside_one (then_one (such_one small) (default_one (octets_tagged _ _) small rest_one));
}
