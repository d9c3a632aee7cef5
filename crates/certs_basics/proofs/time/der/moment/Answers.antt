use Rattle.std.proofs.Common.{ℕ, length, ap, sym, ◌∙◌, arith}
use Rattle.std.proofs.lemmas.List.{length-take}
use Rattle.certs_basics.proofs.of_bcder_content.Taking.{on_content}
use Rattle.certs_basics.proofs.Centuries.{tells_length}
use Rattle.certs_basics.proofs.Fixed.{fixed_gives, fixed_lacks}
use Rattle.certs_basics.proofs.time.der.moment.Goals as goal

pub returns-in-None-clause-reads : goal.returns-in-None-clause-reads
returns-in-None-clause-reads g c =
    on_content _ (fixed_lacks c.len.result c.in-Ok.count _ (record { long = λ text s m. tells_length c.args.form text s m ∙ sym c.len.ensures }) c.in-Ok.ensures.same c.slice.ensures.slice c.slice.ensures.there c.in-Ok.ensures.available c.in-Ok.ensures.enough c.in-None.ensures.none)

pub advance-requires : goal.advance-requires
advance-requires g c =
    let long = tells_length c.args.form _ _ c.in-Some.ensures.found in
    omega (arith, long, ap length c.slice.ensures.slice, length-take {A = ℕ}, c.len-in-Some.ensures)

pub returns-in-Some-clause-reads : goal.returns-in-Some-clause-reads
returns-in-Some-clause-reads g c =
    fixed_gives c.len-in-Some.result _ (record { long = λ text s m. tells_length c.args.form text s m ∙ sym c.len-in-Some.ensures }) c.in-Some.ensures.found c.if-prim.false c.in-Ok.ensures.same c.slice.ensures.slice c.slice.ensures.there c.advance.ensures.moved c.advance.ensures.mode c.advance.ensures.failed
