use Rattle.certs_x509.proofs.Splits.{entry_taken, none_of_none, none_of_some, some_of_none, some_of_some, split_none, split_refused, split_some}
use Rattle.certs_x509.proofs.revoked.iter.first_entry.Goals as goal
use Rattle.certs_x509.proofs.revoked.iter.first_entry.Goals.{in-Ok-Some-default, in-Ok-None-default, in-Err}

pub read_front-requires-clause-reads : goal.read_front-requires-clause-reads
read_front-requires-clause-reads c = record { each = λ p q x h. entry_taken _ _ x h.0 }

pub returns-clause-none : goal.returns-clause-none
returns-clause-none c =
    elim c.match-read_front.branch [
      | in-Ok-Some-default w ↦ none_of_some _ w.result-is
      | in-Ok-None-default w ↦ none_of_none _ w.result-is (split_none _ _ w.in-Ok-None-default.field-0-0-is w.in-Ok-None-default.ensures.read (λ p q h. h.0))
      | in-Err w ↦ none_of_none _ w.result-is (split_refused _ w.in-Err.ensures.refused (λ p q h. (h.0, h.1)))
    ]

pub returns-clause-some : goal.returns-clause-some
returns-clause-some c =
    elim c.match-read_front.branch [
      | in-Ok-Some-default w ↦ some_of_some _ w.result-is
          (split_some _ w.in-Ok-Some-default.entry _ w.in-Ok-Some-default.field-0-0-is w.in-Ok-Some-default.ensures.read (λ p q h. h.0))
      | in-Ok-None-default w ↦ some_of_none _ w.result-is
      | in-Err w ↦ some_of_none _ w.result-is
    ]

pub returns-clause-bound : goal.returns-clause-bound
returns-clause-bound c =
    elim c.match-read_front.branch [
      | in-Ok-Some-default w ↦ some_of_some _ w.result-is w.in-Ok-Some-default.ensures.bound
      | in-Ok-None-default w ↦ some_of_none _ w.result-is
      | in-Err w ↦ some_of_none _ w.result-is
    ]
