use Rattle.std.proofs.Common.{ℕ, [], ◌∷◌, ◌++◌, ap, ◌∙◌}
use Rattle.certs_x509.proofs.of_bcder_content.Forests.{there, absent}
use Rattle.certs_x509.proofs.Serials.{collected_all, collected_more}
use Rattle.certs_x509.proofs.revoked.search.collect_serials.Goals as goal

pub loop-serials-preserved : goal.loop-serials-preserved
loop-serials-preserved c =
    collected_more c.loop-serials.invariant (there _ _ _ c.in-Some.is c.in_ok-entry.ensures.reads)
    (c.in_ok-push.ensures.items ∙ ap (λ (n : ℕ). c.loop-serials.serials.items ++ n ∷ []) c.user_certificate.ensures)

pub returns : goal.returns
returns c = record { found = λ xs l. collected_all c.loop-serials.invariant (absent _ _ _ c.in_default.is c.in_ok-entry.ensures.reads) xs l }
