use Rattle.rpki_rules.specs.certs_key.Digesting.{digests_of}
use Rattle.rpki_standing.proofs.Tables.{table_told}
use Rattle.rpki_standing.proofs.table.verifier.TableVerifierVerifier.verify.Goals as goal

pub returns-clause-answer : goal.returns-clause-answer
returns-clause-answer g c =
    let s = c.verdict_of-sought in
    table_told c.args.self.now.index.verdicts (digests_of g.D.Digester.sha256_digest g.D.Digester.sha1_digest c.args.self.now.digests) c.args.key.now c.args._algorithm c.args.message.now c.args.signature.now
    s.result c.has_verdict.result s.ensures.key s.ensures.message s.ensures.signature c.has_verdict.ensures.answer
