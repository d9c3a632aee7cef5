use Rattle.std.proofs.Common.{ℕ, List, ◌-◌, ◌++◌, length, take, drop, sym, ap, ◌∙◌, take-add, take_all, arith}
use Rattle.std.proofs.lemmas.List.{take_rest}
use Rattle.std.proofs.lemmas.Slice.Eq.{bytes_eq-Decides}
use Rattle.certs_key.proofs.expected.ExpectedWrite.write.Goals as goal

pub returns-clause-bytes : goal.returns-clause-bytes
returns-clause-bytes c =
    let e = c.args.self.now in
    let buf = c.args.buf.now in
    let size = length buf in
    let same = (bytes_eq-Decides buf (take size (take (length e.octets.now - e.count) (drop e.count e.octets.now)))).0 (sym c.starts_with.ensures.value ∙ c.if-not-starts_with.false) in
    take-add e.count size e.octets.now
    ∙ ap (λ (v : List ℕ). take e.count e.octets.now ++ v)
    (ap (take size) (sym (take_rest e.octets.now e.count)) ∙ sym same ∙ sym (take_all size buf (omega arith)))
