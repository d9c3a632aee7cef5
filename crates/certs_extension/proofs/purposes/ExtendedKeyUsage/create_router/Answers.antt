use Rattle.std.proofs.Common.{rules, ◌≡◌, [], ◌∷◌, map}
use Rattle.certs_extension.specs.certs_basics.Identifiers.{bgpsec_router}
use Rattle.certs_extension.specs.Purposes.{purpose_octets}
use Rattle.certs_extension.proofs.Several.{of_router}
use Rattle.certs_extension.proofs.purposes.ExtendedKeyUsage.create_router.Goals as goal

pub invariant_of-result : goal.invariant_of-result
invariant_of-result c =
    let one : map purpose_octets c.push.new.self.items ≡ bgpsec_router ∷ [] = search rules in
    of_router _ one
