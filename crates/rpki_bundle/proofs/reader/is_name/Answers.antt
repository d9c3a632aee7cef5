use Rattle.rpki_bundle.proofs.reader.is_name.Goals as goal

pub returns-in-Ok : goal.returns-in-Ok
returns-in-Ok c = (λ t. (c.in-Ok.ensures.text, c.is_word.ensures.0 t), λ n. c.is_word.ensures.1 n.1)

pub returns-in-Err : goal.returns-in-Err
returns-in-Err c = (λ t. absurd cc, λ n. absurd (c.in-Err.ensures.refused n.0))
