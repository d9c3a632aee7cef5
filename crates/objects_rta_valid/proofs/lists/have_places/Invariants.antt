use Rattle.std.proofs.Common.{length}
use Rattle.std.specs.Prelude.{◌↔◌}
use Rattle.certs_verify.specs.certs_basics.Lists.{Each}
use Rattle.certs_verify.specs.certs_extension.CrlText.{CrlValue}
use Rattle.objects_rta_valid.specs.Keyed.{HasPlace}
use Rattle.objects_rta_valid.specs.Vouched.{authority_of}
use Rattle.objects_rta_valid.proofs.lists.have_places.Given as goal

abbrev pub invariant-loop-crl : goal.invariant-loop-crl
invariant-loop-crl l = Each (λ (crl : CrlValue). HasPlace l.fn.places (authority_of crl)) l.rest ↔ Each (λ (crl : CrlValue). HasPlace l.fn.places (authority_of crl)) l.fn.crls

abbrev pub decreases-loop-crl : goal.decreases-loop-crl
decreases-loop-crl l = length l.rest
