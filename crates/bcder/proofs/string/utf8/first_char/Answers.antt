use Rattle.std.proofs.Common.{rules, ◌≡◌, ◌++◌, length}
use Rattle.std.specs.Prelude.{encode_utf8}
use Rattle.bcder.proofs.Checks.{if_none}
use Rattle.bcder.proofs.Unicode.{char_found, char_none}
use Rattle.bcder.proofs.string.utf8.first_char.Goals as goal

pub returns-in_err-first-clause-none : goal.returns-in_err-first-clause-none
returns-in_err-first-clause-none c =
    let empty : length c.valid_front-front.result.now ≡ 0 = search rules in
    if_none c.from_residual.result (char_none c.args.octets.now c.valid_front-front.result.now c.min-few.result c.min-few.ensures empty c.valid_front-front.ensures.longest)

pub returns-clause-found : goal.returns-clause-found
returns-clause-found c =
    let e : c.valid_front-front.result.now ≡ encode_utf8 c.in_ok-first.first ++ c.next.new.self.rest.now = search rules in
    char_found c.args.octets.now c.valid_front-front.result.now c.next.new.self.rest.now c.min-few.result c.in_ok-first.first c.valid_front-front.ensures.utf8 c.valid_front-front.ensures.front e
