use Rattle.std.proofs.Common.{refl, Err}
use Rattle.certs_extension.proofs.of_bcder_content.Forests.{there, absent}
use Rattle.certs_extension.proofs.of_bcder_content.Gathering.{gather_begin, gather_next, gather_stop, gather_refused, gather_end}
use Rattle.certs_extension.proofs.Values.{extension_one}
use Rattle.certs_extension.proofs.Lists.{extension_tagged, told_content}
use Rattle.certs_extension.proofs.claims.list.take_all.Goals as goal

pub loop-next-init : goal.loop-next-init
loop-next-init g c = gather_begin c.new-slots.ensures

pub returns-in-Err : goal.returns-in-Err
returns-in-Err g c = gather_stop _ {r = Err c.in-Err.error} _ c.loop-next.invariant (refl, refl) c.in-Err.ensures.reads

pub returns-in_default : goal.returns-in_default
returns-in_default g c = gather_end c.loop-next.invariant (λ m. extension_tagged) (absent _ _ _ c.in_default.is c.in-Ok.ensures.reads) refl

pub returns-in-Err-put : goal.returns-in-Err-put
returns-in-Err-put g c =
    let i = c.loop-next.invariant in
    record { reads = told_content _ _ _ c.refusal.ensures (λ said. gather_refused (λ m. extension_one) i (there _ _ _ c.in-Some.is c.in-Ok.ensures.reads) (λ ys t h. c.in-Err-put.ensures.none said i.xs ys t i.says h)) }

pub loop-next-preserved : goal.loop-next-preserved
loop-next-preserved g c =
    let i = c.loop-next.invariant in
    gather_next (λ m. extension_one) i (there _ _ _ c.in-Some.is c.in-Ok.ensures.reads) (c.in_default-put.ensures.ok i.xs i.says)
