use Rattle.objects_rta_written.proofs.laws.attestations_are_read_again.Goals as goal

pub returns : goal.returns
returns c = λ octets text o a p w. record {
  object = c.objects_are_read_again.ensures o text (c.what_is_read_can_be_read_again.ensures.object octets o p.object) w;
  type_is = p.type_is;
  content_is = p.content_is;
}
