use Rattle.certs_x509.proofs.Turned.{entry_turns, refused_turned, wrote_turned}
use Rattle.certs_x509.proofs.revoked.anew.EntryValueValues.write_encoded.Goals as goal

pub returns-clause-written : goal.returns-clause-written
returns-clause-written g c = wrote_turned (entry_turns _ _ c.args.mode c.self.inside.0 _ c.self.view_is c.values_of-value.ensures.trees c.values_of-value.ensures.writes) _ _ _ c.write_encoded.ensures.written

pub returns-clause-refused : goal.returns-clause-refused
returns-clause-refused g c = refused_turned (entry_turns _ _ c.args.mode c.self.inside.0 _ c.self.view_is c.values_of-value.ensures.trees c.values_of-value.ensures.writes) _ _ _ _ c.write_encoded.ensures.refused
