use Rattle.std.proofs.Common.{ℕ, get_or, Fits, w8, rules}
use Rattle.std.specs.Prelude.{pos}
use Rattle.certs_name.proofs.of_bcder_number.Writings.{write_refused}
use Rattle.certs_name.proofs.Numbers.{content_is, all_written}
use Rattle.certs_name.proofs.serial_der.SerialPrimitiveContent.write_encoded.Goals as goal

pub returns-clause-written : goal.returns-clause-written
returns-clause-written g c =
    let content = c.shortest-content.result.now in
    let s = c.shortest-content.ensures in
    let fits : (i : ℕ) → Fits w8 (get_or content i 0) = search rules in
    all_written content (pos c.args.self.now) _ _ c.write_encoded.result (content_is fits s.shortest (s.same c.args.self.now c.padded-octets.ensures)) c.write_encoded.ensures.written

pub returns-clause-refused : goal.returns-clause-refused
returns-clause-refused g c =
    let content = c.shortest-content.result.now in
    let s = c.shortest-content.ensures in
    let fits : (i : ℕ) → Fits w8 (get_or content i 0) = search rules in
    write_refused c.args.mode content (pos c.args.self.now) _ _ _ c.write_encoded.result (content_is fits s.shortest (s.same c.args.self.now c.padded-octets.ensures)) c.write_encoded.ensures.refused
