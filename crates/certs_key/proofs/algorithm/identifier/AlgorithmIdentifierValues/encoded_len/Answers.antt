use Rattle.std.proofs.Common.{Bool, sym, ◌∙◌, subst, IfOk, IfErr}
use Rattle.certs_key.specs.bcder_primitive.Writing.{HasLength, CannotWrite}
use Rattle.certs_key.proofs.of_bcder_values.Lent.{len_lent, len_refused}
use Rattle.certs_key.specs.Algorithms.{algorithm_of, bare_lent, null_lent}
use Rattle.certs_key.proofs.algorithm.identifier.AlgorithmIdentifierValues.encoded_len.Goals as goal

pub returns-then-has_null-clause-len : goal.returns-then-has_null-clause-len
returns-then-has_null-clause-len c =
    subst (λ (z : Bool). IfOk c.encoded_len.result (HasLength ((algorithm_of c.args.self.now.kind).writes z c.args.mode))) (sym c.if-has_null.true ∙ c.has_null.ensures)
    (len_lent null_lent c.args.mode _ c.with_null-value.ensures c.encoded_len.ensures.len)

pub returns-then-has_null-clause-refused : goal.returns-then-has_null-clause-refused
returns-then-has_null-clause-refused c =
    subst (λ (z : Bool). IfErr c.encoded_len.result (CannotWrite ((algorithm_of c.args.self.now.kind).trees z c.args.mode) ((algorithm_of c.args.self.now.kind).writes z c.args.mode))) (sym c.if-has_null.true ∙ c.has_null.ensures)
    (len_refused null_lent c.args.mode _ c.with_null-value.ensures c.encoded_len.ensures.refused)

pub returns-clause-len : goal.returns-clause-len
returns-clause-len c =
    subst (λ (z : Bool). IfOk c.encoded_len-2.result (HasLength ((algorithm_of c.args.self.now.kind).writes z c.args.mode))) (sym c.if-has_null.false ∙ c.has_null.ensures)
    (len_lent bare_lent c.args.mode _ c.bare-value.ensures c.encoded_len-2.ensures.len)

pub returns-clause-refused : goal.returns-clause-refused
returns-clause-refused c =
    subst (λ (z : Bool). IfErr c.encoded_len-2.result (CannotWrite ((algorithm_of c.args.self.now.kind).trees z c.args.mode) ((algorithm_of c.args.self.now.kind).writes z c.args.mode))) (sym c.if-has_null.false ∙ c.has_null.ensures)
    (len_refused bare_lent c.args.mode _ c.bare-value.ensures c.encoded_len-2.ensures.refused)
