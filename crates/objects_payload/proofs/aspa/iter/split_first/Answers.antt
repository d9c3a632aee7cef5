use Rattle.objects_payload.proofs.Splits.{none_of_none, none_of_some, number_taken, some_of_none, some_of_some, split_none, split_refused, split_some}
use Rattle.objects_payload.proofs.aspa.iter.split_first.Goals as goal
use Rattle.objects_payload.proofs.aspa.iter.split_first.Goals.{in-Ok-Some-default, in-Ok-None-default, in-Err}

pub read_front-requires-clause-reads : goal.read_front-requires-clause-reads
read_front-requires-clause-reads c = record { each = λ p q x h. number_taken _ _ x h.0 }

pub returns-clause-none : goal.returns-clause-none
returns-clause-none c =
    elim c.match-read_front.branch [
      | in-Ok-Some-default w ↦ none_of_some _ w.result-is
      | in-Ok-None-default w ↦ none_of_none _ w.result-is (split_none _ _ w.in-Ok-None-default.field-0-0-is w.in-Ok-None-default.ensures.read (λ p q h. h.0))
      | in-Err w ↦ none_of_none _ w.result-is (split_refused _ w.in-Err.ensures.refused (λ p q h. (h.0, h.1)))
    ]

pub returns-clause-some : goal.returns-clause-some
returns-clause-some c =
    elim c.match-read_front.branch [
      | in-Ok-Some-default w ↦ some_of_some _ w.result-is
          (split_some _ w.in-Ok-Some-default.asn _ _ _ w.in-Ok-Some-default.field-0-0-is w.into_u32.ensures w.in-Ok-Some-default.ensures.read w.split_at.ensures.back (λ p q h. h.0))
      | in-Ok-None-default w ↦ some_of_none _ w.result-is
      | in-Err w ↦ some_of_none _ w.result-is
    ]
