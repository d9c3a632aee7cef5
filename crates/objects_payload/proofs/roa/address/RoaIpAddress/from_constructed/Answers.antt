use Rattle.objects_payload.proofs.AddressLemmas.{address_given, address_stop, address_unfit, out_of_bounds}
use Rattle.objects_payload.proofs.roa.address.RoaIpAddress.from_constructed.Goals as goal

pub returns-in_err-address : goal.returns-in_err-address
returns-in_err-address g c = address_stop c.args.family _ _ _ _ c.from_residual.ensures c.in_err-address.ensures.reads

pub returns-then-not-has_max_length : goal.returns-then-not-has_max_length
returns-then-not-has_max_length g c =
    address_unfit c.args.family c.in_ok-address.address c.content_err.result c.in_ok-address.ensures.reads (out_of_bounds c.has_max_length.ensures c.if-not-has_max_length.true)

pub returns : goal.returns
returns g c = address_given c.args.family c.in_ok-address.address c.in_ok-address.ensures.reads (c.has_max_length.ensures.0 c.if-not-has_max_length.false)
