use Rattle.std.proofs.Common.{◌≡◌, None, [], ◌∷◌}
use Rattle.rpki_rules.specs.PointReasons.{ListListed, ListNamed, PassesManifest}
use Rattle.rpki_rules.specs.World.{world_of}
use Rattle.rpki_rules.proofs.FirstParts.{first_here}
use Rattle.rpki_standing.proofs.parts.own_list.Goals as goal

pub returns-in_default-clause-refused : goal.returns-in_default-clause-refused
returns-in_default-clause-refused g c d =
    let k = c.args.manifest.now in
    let none : k.signed.cert.tbs.crl_uri ≡ None = cc in
    first_here (PassesManifest (world_of d (g.V.Verifier.says c.args.reader.now.verifier.now) c.args.reader.now.index) c.args.ca.now k.signed k.content) ListNamed (ListListed ∷ []) (λ n. n none)
