use Rattle.std.proofs.Common.{ℕ, ◌%◌, [], ◌∷◌, ◌++◌}
use Rattle.bcder.proofs.Written.{longer, shortest}
use Rattle.bcder.proofs.oid.text.push_number.Goals as goal

pub returns : goal.returns
returns c =
    let h = c.in_ok-push_high.ensures in
    let last : ℕ = c.args.number % 128 in
    (h.0 ++ last ∷ [], longer c.args.octets.now.items h.0 c.push_high.new.octets.items c.push.new.self.items last c.in_ok-push.ensures.items h.1, shortest h.0 c.args.number h.2)
