use Rattle.std.proofs.Common.{ℕ, get_or, Fits, w8, rules}
use Rattle.std.specs.Prelude.{pos}
use Rattle.certs_name.proofs.of_bcder_number.Writings.{len_refused}
use Rattle.certs_name.proofs.Numbers.{content_is, len_written}
use Rattle.certs_name.proofs.serial_der.SerialPrimitiveContent.encoded_len.Goals as goal

pub returns-clause-len : goal.returns-clause-len
returns-clause-len c =
    let content = c.shortest-content.result.now in
    let s = c.shortest-content.ensures in
    let fits : (i : ℕ) → Fits w8 (get_or content i 0) = search rules in
    len_written content (pos c.args.self.now) c.encoded_len.result (content_is fits s.shortest (s.same c.args.self.now c.padded-octets.ensures)) c.encoded_len.ensures.len

pub returns-clause-refused : goal.returns-clause-refused
returns-clause-refused c =
    let content = c.shortest-content.result.now in
    let s = c.shortest-content.ensures in
    let fits : (i : ℕ) → Fits w8 (get_or content i 0) = search rules in
    len_refused c.args.mode content (pos c.args.self.now) c.encoded_len.result (content_is fits s.shortest (s.same c.args.self.now c.padded-octets.ensures)) c.encoded_len.ensures.refused
