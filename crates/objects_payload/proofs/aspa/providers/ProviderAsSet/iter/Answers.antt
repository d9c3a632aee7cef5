use Rattle.std.proofs.Common.{◌∙◌, rules}
use Rattle.objects_payload.proofs.Contents.{same_listing}
use Rattle.objects_payload.proofs.Splits.{at_most, same_captured}
use Rattle.objects_payload.proofs.aspa.providers.ProviderAsSet.iter.Goals as goal

pub returns-clause-all : goal.returns-clause-all
returns-clause-all c =
    same_listing _ _ _ _ (same_captured c.self.inside.octets _ _ c.mode.ensures c.as_slice.ensures.octets) (search rules) c.self.inside.listing.1 ∙ c.self.view_is

pub returns-clause-few : goal.returns-clause-few
returns-clause-few c =
    at_most _ c.self.inside.listing.0
    (same_listing _ _ _ _ (same_captured c.self.inside.octets _ _ c.mode.ensures c.as_slice.ensures.octets) (search rules) c.self.inside.listing.1) c.self.invariant
