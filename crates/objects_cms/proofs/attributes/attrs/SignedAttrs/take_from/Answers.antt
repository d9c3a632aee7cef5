use Rattle.std.proofs.Common.{sym}
use Rattle.objects_cms.proofs.of_bcder_content.Keeping.{same_refusal}
use Rattle.objects_cms.proofs.of_bcder_content.Taking.{weaker}
use Rattle.objects_cms.proofs.Wholes.{in_mode, kept_gives, kept_goes, kept_lacks, none_kept}
use Rattle.objects_cms.proofs.attributes.attrs.SignedAttrs.take_from.Goals as goal

pub returns-in-Err-clause-reads : goal.returns-in-Err-clause-reads
returns-in-Err-clause-reads g c = record { reads = weaker _ none_kept c.in-Err.ensures.refused }

pub returns-in-Ok-decode_octets-clause-reads : goal.returns-in-Ok-decode_octets-clause-reads
returns-in-Ok-decode_octets-clause-reads g c = record { reads = kept_gives c.in-Ok.ensures.captured (in_mode c.mode-mode.ensures c.as_slice.ensures.octets c.in-Ok-decode_octets.ensures) }

pub returns-in-Ok-decode_octets-clause-octets : goal.returns-in-Ok-decode_octets-clause-octets
returns-in-Ok-decode_octets-clause-octets g c = kept_goes c.in-Ok.ensures.captured

pub returns-in-Ok-decode_octets-clause-spelled : goal.returns-in-Ok-decode_octets-clause-spelled
returns-in-Ok-decode_octets-clause-spelled g c = in_mode c.mode-mode.ensures c.as_slice.ensures.octets c.in-Ok-decode_octets.ensures

pub returns-in-Err-decode_octets-clause-reads : goal.returns-in-Err-decode_octets-clause-reads
returns-in-Err-decode_octets-clause-reads g c = record {
  reads = same_refusal _ _ _ c.convert.ensures (weaker _ (λ none. kept_lacks c.in-Ok.ensures.captured (λ x p. none x (in_mode (sym c.mode-mode.ensures) (sym c.as_slice.ensures.octets) p))) c.in-Err-decode_octets.ensures);
}
