use Rattle.std.proofs.Common.{ap, ◌∙◌, option_copied}
use Rattle.certs.specs.Values.{or_some}
use Rattle.certs.proofs.written.access.is_any.Goals as goal

pub returns : goal.returns
returns c =
    let third = c.or_rsync-third.ensures ∙ ap (or_some (option_copied c.args.object)) c.or_https-fourth.ensures in
    let second = c.or_rsync-second.ensures ∙ ap (or_some (option_copied c.args.manifest)) third in
    c.or_rsync.ensures ∙ ap (or_some (option_copied c.args.repository)) second
