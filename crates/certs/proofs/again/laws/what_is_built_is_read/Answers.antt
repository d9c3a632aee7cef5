use Rattle.certs.proofs.Certs.{built_is_read, built_is_spelled, fields_stay, read_is_built}
use Rattle.certs.proofs.Whole.{fields_are_read}
use Rattle.certs.proofs.again.laws.what_is_built_is_read.Goals as goal

pub returns-clause-fields : goal.returns-clause-fields
returns-clause-fields c = fields_are_read (record { families = c.families_are_read_again.ensures.read; numbers = c.what_is_written_means_just_these.ensures })

pub returns-clause-cert : goal.returns-clause-cert
returns-clause-cert c = built_is_read (record { families = c.families_are_read_again.ensures.read; numbers = c.what_is_written_means_just_these.ensures }) c.cert_is_spelled.ensures

pub returns-clause-spelled : goal.returns-clause-spelled
returns-clause-spelled c = built_is_spelled (record { families = c.families_are_read_again.ensures.read; numbers = c.what_is_written_means_just_these.ensures }) c.cert_is_spelled.ensures

pub returns-clause-same : goal.returns-clause-same
returns-clause-same c = read_is_built

pub returns-clause-stay : goal.returns-clause-stay
returns-clause-stay c = fields_stay c.padded_keys_stay.ensures
