-- The names that were read, and what they say so far.
use Rattle.std.proofs.Common.{refl, sym, ◌∙◌}
use Rattle.certs_extension.proofs.of_bcder_content.Forests.{there, absent}
use Rattle.certs_extension.proofs.of_bcder_content.Gathering.{gather_begin, gather_next, gather_stop, gather_refused, gather_end}
use Rattle.certs_extension.proofs.of_bcder_content.Taking.{on_content}
use Rattle.certs_extension.proofs.of_bcder_content.Took.{took_shorter}
use Rattle.certs_extension.proofs.OneRsync.{name_one, name_tagged, seen_again, seen_first, seen_none, seen_pass}
use Rattle.certs_extension.proofs.access.names.take_names.Goals as goal

pub loop-found-init : goal.loop-found-init
loop-found-init g c = gather_begin tt

pub returns-in_err-name : goal.returns-in_err-name
returns-in_err-name g c = gather_stop _ _ c.loop-found.invariant c.from_residual.ensures c.in_err-name.ensures

pub returns-then-is_some : goal.returns-then-is_some
returns-then-is_some g c =
    let i = c.loop-found.invariant in
    let x = there _ _ _ c.in-Some.is c.in_ok-name.ensures in
    let says = rw c.in-Some-rsync_of.is at c.rsync_of.ensures in
    let some = sym c.is_some.ensures ∙ c.if-is_some.true in
    record { reads = on_content _ (gather_refused name_one i x (λ ys t h. seen_again i.xs ys _ _ t some i.says says.0 h)) }

pub loop-found-smaller-in-Some-rsync_of : goal.loop-found-smaller-in-Some-rsync_of
loop-found-smaller-in-Some-rsync_of g c = took_shorter _ _ _ (there _ _ _ c.in-Some.is c.in_ok-name.ensures).took

pub loop-found-preserved-in-Some-rsync_of : goal.loop-found-preserved-in-Some-rsync_of
loop-found-preserved-in-Some-rsync_of g c =
    let i = c.loop-found.invariant in
    let says = rw c.in-Some-rsync_of.is at c.rsync_of.ensures in
    let empty = sym c.is_some.ensures ∙ c.if-is_some.false in
    gather_next name_one i (there _ _ _ c.in-Some.is c.in_ok-name.ensures) (seen_first i.xs _ _ says.0 says.1 (seen_none i.xs _ empty i.says))

pub loop-found-smaller : goal.loop-found-smaller
loop-found-smaller g c = took_shorter _ _ _ (there _ _ _ c.in-Some.is c.in_ok-name.ensures).took

pub loop-found-preserved : goal.loop-found-preserved
loop-found-preserved g c =
    let i = c.loop-found.invariant in
    let says = rw c.in_default-rsync_of.is at c.rsync_of.ensures in
    gather_next name_one i (there _ _ _ c.in-Some.is c.in_ok-name.ensures) (seen_pass i.xs _ _ says i.says)

pub returns : goal.returns
returns g c = gather_end c.loop-found.invariant name_tagged (absent _ _ _ c.in_default.is c.in_ok-name.ensures) refl
