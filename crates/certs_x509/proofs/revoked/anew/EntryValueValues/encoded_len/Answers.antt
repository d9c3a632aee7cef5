use Rattle.certs_x509.proofs.Turned.{entry_turns, len_turned, no_len_turned}
use Rattle.certs_x509.proofs.revoked.anew.EntryValueValues.encoded_len.Goals as goal

pub returns-clause-len : goal.returns-clause-len
returns-clause-len c = len_turned (entry_turns _ _ c.args.mode c.self.inside.0 _ c.self.view_is c.values_of-value.ensures.trees c.values_of-value.ensures.writes) _ c.encoded_len.ensures.len

pub returns-clause-refused : goal.returns-clause-refused
returns-clause-refused c = no_len_turned (entry_turns _ _ c.args.mode c.self.inside.0 _ c.self.view_is c.values_of-value.ensures.trees c.values_of-value.ensures.writes) _ c.encoded_len.ensures.refused
