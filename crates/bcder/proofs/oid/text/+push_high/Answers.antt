use Rattle.std.proofs.Common.{ℕ, ◌+◌, ◌%◌, [], ◌∷◌, ◌++◌}
use Rattle.bcder.proofs.Written.{high_more, longer}
use Rattle.bcder.proofs.oid.text.+push_high.Goals as goal

pub returns-in_ok-push : goal.returns-in_ok-push
returns-in_ok-push t c =
    let h = c.in_ok-push_high.ensures in
    let last : ℕ = 128 + c.args.number % 128 in
    (h.0 ++ last ∷ [], longer c.args.octets.now.items h.0 c.push_high.new.octets.items c.push.new.self.items last c.in_ok-push.ensures.items h.1, high_more h.0 c.args.number c.if-number-gt0.true h.2)
