use Rattle.std.proofs.Common.{◌≡◌, length}
use Rattle.rpki_bundle.specs.bcder_content.Grammar.{Many}
use Rattle.rpki_bundle.specs.bcder_content.Here.{here}
use Rattle.rpki_bundle.proofs.of_bcder_content.Forests.{Listing}
use Rattle.rpki_bundle.proofs.entries.fn.take_list.take_sequence.Given as goal

abbrev pub invariant-loop-entries : goal.invariant-loop-entries
invariant-loop-entries g l =
    let start = here g.S.Source.rest l.fn.cons in
    let now = here g.S.Source.rest l.cons in
    (now.mode ≡ start.mode) × Listing (Many (g.E.Entry.form start.mode)) (g.E.Entry.form start.mode) (λ xs. xs) l.entries.items start now

abbrev pub decreases-loop-entries : goal.decreases-loop-entries
decreases-loop-entries g l = length (g.S.Source.rest l.cons.octets.source.source)
