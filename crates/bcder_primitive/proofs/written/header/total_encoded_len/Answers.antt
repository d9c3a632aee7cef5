use Rattle.std.proofs.Common.{◌≡◌, ◌+◌, length, sym, ap, ◌∙◌}
use Rattle.bcder_primitive.proofs.written.header.total_encoded_len.Goals as goal

pub returns-clause-len : goal.returns-clause-len
returns-clause-len c = λ form identifier size i s.
    let first : length identifier ≡ c.encoded_len-identifier.result = c.encoded_len-identifier.ensures.len form identifier i in
    let second : length size ≡ c.encoded_len-size.result = c.encoded_len-size.ensures.len size s in
    sym (ap (λ n. n + c.args.content_len) (ap (λ n. n + length size) first ∙ ap (λ n. c.encoded_len-identifier.result + n) second))
