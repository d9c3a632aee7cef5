use Rattle.rpki_bundle.specs.PartFields.{parts_value}
use Rattle.rpki_bundle.proofs.Texts.{never_refused, wrote_view}
use Rattle.rpki_bundle.proofs.bundle.Bundle.encode.Goals as goal

pub unreachable-requires : goal.unreachable-requires
unreachable-requires c = never_refused c.generalized-text.result (parts_value c.self.inside.parts) _ c.generalized-text.ensures c.self.invariant c.in-Err.ensures.refused

pub returns-in-Ok-write_members : goal.returns-in-Ok-write_members
returns-in-Ok-write_members c = wrote_view c.generalized-text.result (parts_value c.self.inside.parts) _ _ _ c.self.view_is c.self.invariant c.generalized-text.ensures c.in_ok-octets.ensures.items c.in-Ok-write_members.ensures.written
