use Rattle.std.proofs.Common.{ℕ, List, Some, sym, ap, ◌∙◌}
use Rattle.rpki_standing.specs.Crls.{Finds}
use Rattle.rpki_standing.specs.certs_basics.Uris.{lookup_key}
use Rattle.rpki_rules.specs.Certs.{CrlText}
use Rattle.rpki_rules.specs.World.{find_object, world_of}
use Rattle.rpki_standing.proofs.Found.{list_told}
use Rattle.rpki_standing.proofs.Failing.{if_ok}
use Rattle.rpki_standing.proofs.points.crl.list_at.Goals as goal

pub returns : goal.returns
returns c =
    let at = ap (λ (u : List ℕ). find_object c.args.index.now.objects (lookup_key u)) (sym c.as_slice.ensures.text) ∙ c.in-Some.ensures.found ∙ ap Some (sym c.as_slice-2.ensures) in
    if_ok (Finds (CrlText c.as_slice-2.result.now)) _ _ (λ found f d v. list_told (world_of d v c.args.index.now) c.args.uri.now c.as_slice-2.result.now found at f) c.crl_in.ensures
