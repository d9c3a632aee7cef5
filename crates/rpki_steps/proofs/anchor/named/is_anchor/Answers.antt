use Rattle.std.proofs.Common.{subst}
use Rattle.std.specs.Prelude.{List}
use Rattle.rpki_rules.specs.Words.{Mem}
use Rattle.rpki_standing.specs.Readers.{world_by}
use Rattle.rpki_standing.specs.rpki_bundle.declared.parts.Locator.{Locator}
use Rattle.rpki_steps.proofs.Named.{named_told}
use Rattle.rpki_steps.proofs.Passing.{if_ok}
use Rattle.rpki_steps.proofs.anchor.named.is_anchor.Goals as goal

pub returns-clause-anchor : goal.returns-clause-anchor
returns-clause-anchor g c =
    let w = world_by g.D.Digester.sha256_digest g.D.Digester.sha1_digest g.V.Verifier.says c.args.reader.now in
    let l = c.in-Some.locator.now in
    let m : Mem w.locators l = subst (λ (ls : List Locator). Mem ls l) c.locators.ensures.locators c.in-Some.ensures.listed in
    if_ok _ _ _ (named_told w l c.args.name.now (record { uri = c.args.uri.now; cert = c.args.cert.now }) m c.in-Some.ensures.named c.locators.ensures.apart) c.is_anchor_of.ensures.anchor
