-- How long the text of a moment is.
use Rattle.std.proofs.Common.{◌≡◌, ℕ, List, length}
use Rattle.rpki_commands.specs.certs_basics.Times.{IsMoment}
use Rattle.rpki_commands.proofs.of_certs_basics.Moments.{moment_is_pairs, pairs_shape}

pub moment_length : (line : List ℕ) (moment : ℕ) → IsMoment line moment → length line ≡ 15
moment_length line moment i = (pairs_shape line _ (moment_is_pairs line i.civil i.real i.text_is)).0
