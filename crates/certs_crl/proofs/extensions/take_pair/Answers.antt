use Rattle.std.proofs.Common.{refl}
use Rattle.certs_crl.proofs.of_bcder_content.InMode.{begin, finish, next, stop, stop_all}
use Rattle.certs_crl.proofs.extensions.take_pair.Goals as goal

pub returns-in_err-first : goal.returns-in_err-first
returns-in_err-first g c = stop _ begin c.from_residual.ensures c.in_err-first.ensures.reads

pub returns-in_err-second : goal.returns-in_err-second
returns-in_err-second g c = stop _ (next begin c.in_ok-first.ensures.reads) c.from_residual-in_err-second.ensures c.in_err-second.ensures.reads

pub returns-in_err-take_no_more : goal.returns-in_err-take_no_more
returns-in_err-take_no_more g c = stop_all _ (next (next begin c.in_ok-first.ensures.reads) c.in_ok-second.ensures.reads) c.from_residual-in_err-take_no_more.ensures c.in_err-take_no_more.ensures.reads.reads

pub returns : goal.returns
returns g c = finish (next (next begin c.in_ok-first.ensures.reads) c.in_ok-second.ensures.reads) c.in_ok-take_no_more.ensures.reads.reads refl
