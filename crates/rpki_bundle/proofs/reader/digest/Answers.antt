use Rattle.std.proofs.Common.{sym, ◌∙◌}
use Rattle.certs_basics.proofs.Fixed.{IsFixed, failed_lacks, fixed_gives, fixed_lacks}
use Rattle.rpki_bundle.proofs.of_bcder_content.Taking.{on_content}
use Rattle.rpki_bundle.specs.Bundle.{IsDigest}
use Rattle.rpki_bundle.proofs.reader.digest.Goals as goal

fixed : IsFixed IsDigest 32
fixed = record { long = λ text x d. d.long }

pub returns-then-prim : goal.returns-then-prim
returns-then-prim g c = on_content _ (failed_lacks c.if-prim.true)

pub returns-in-Err-try_from : goal.returns-in-Err-try_from
returns-in-Err-try_from g c = on_content _ (fixed_lacks 32 c.in-Ok.count _ fixed c.in-Ok.ensures.same c.slice.ensures.slice c.slice.ensures.there c.in-Ok.ensures.available c.in-Ok.ensures.enough (λ x d. c.in-Err-try_from.ensures.1 d.long))

pub returns : goal.returns
returns g c =
    let read = c.in-Ok-try_from.ensures.1 in
    fixed_gives 32 _ fixed (record { same = sym (c.of.ensures ∙ read.same); long = read.long }) c.if-prim.false c.in-Ok.ensures.same c.slice.ensures.slice c.slice.ensures.there c.advance.ensures.moved c.advance.ensures.mode c.advance.ensures.failed
