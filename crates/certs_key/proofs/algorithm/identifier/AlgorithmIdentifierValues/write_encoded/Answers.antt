use Rattle.std.proofs.Common.{Bool, sym, ◌∙◌, subst, OnOk, IfErr, ◌≡◌}
use Rattle.certs_key.specs.bcder_primitive.Writing.{Wrote, WriteRefused}
use Rattle.certs_key.proofs.of_bcder_values.Lent.{write_lent, write_refused}
use Rattle.certs_key.specs.Algorithms.{algorithm_of, bare_lent, null_lent}
use Rattle.certs_key.proofs.algorithm.identifier.AlgorithmIdentifierValues.write_encoded.Goals as goal

pub returns-then-has_null-clause-written : goal.returns-then-has_null-clause-written
returns-then-has_null-clause-written g c =
    subst (λ (z : Bool). OnOk c.write_encoded.result (Wrote ((algorithm_of c.args.self.now.kind).writes z c.args.mode) (g.W.Write.contents c.args.target.now) (g.W.Write.contents c.write_encoded.new.target))) (sym c.if-has_null.true ∙ c.has_null.ensures)
    (write_lent null_lent c.args.mode _ _ _ c.with_null-value.ensures c.write_encoded.ensures.written)

pub returns-then-has_null-clause-refused : goal.returns-then-has_null-clause-refused
returns-then-has_null-clause-refused g c =
    subst (λ (z : Bool). IfErr c.write_encoded.result (WriteRefused ((algorithm_of c.args.self.now.kind).trees z c.args.mode) ((algorithm_of c.args.self.now.kind).writes z c.args.mode) (c.write_encoded.new.target ≡ c.args.target.now) (g.W.Write.contents c.args.target.now) (g.W.Write.contents c.write_encoded.new.target))) (sym c.if-has_null.true ∙ c.has_null.ensures)
    (write_refused null_lent c.args.mode _ _ _ _ c.with_null-value.ensures c.write_encoded.ensures.refused)

pub returns-clause-written : goal.returns-clause-written
returns-clause-written g c =
    subst (λ (z : Bool). OnOk c.write_encoded-2.result (Wrote ((algorithm_of c.args.self.now.kind).writes z c.args.mode) (g.W.Write.contents c.args.target.now) (g.W.Write.contents c.write_encoded-2.new.target))) (sym c.if-has_null.false ∙ c.has_null.ensures)
    (write_lent bare_lent c.args.mode _ _ _ c.bare-value.ensures c.write_encoded-2.ensures.written)

pub returns-clause-refused : goal.returns-clause-refused
returns-clause-refused g c =
    subst (λ (z : Bool). IfErr c.write_encoded-2.result (WriteRefused ((algorithm_of c.args.self.now.kind).trees z c.args.mode) ((algorithm_of c.args.self.now.kind).writes z c.args.mode) (c.write_encoded-2.new.target ≡ c.args.target.now) (g.W.Write.contents c.args.target.now) (g.W.Write.contents c.write_encoded-2.new.target))) (sym c.if-has_null.false ∙ c.has_null.ensures)
    (write_refused bare_lent c.args.mode _ _ _ _ c.bare-value.ensures c.write_encoded-2.ensures.refused)
