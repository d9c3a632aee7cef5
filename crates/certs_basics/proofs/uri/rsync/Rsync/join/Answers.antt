-- A name joined to an rsync URI makes one.
use Rattle.std.proofs.Common.{refl, sym, ap, ◌∙◌, subst}
use Rattle.certs_basics.specs.Paths.{join as joined}
use Rattle.certs_basics.specs.Uris.{IsRsync}
use Rattle.certs_basics.proofs.PathUris.{IsRsync-join}
use Rattle.certs_basics.proofs.uri.rsync.Rsync.join.Goals as goal

pub of_uri-requires : goal.of_uri-requires
of_uri-requires c =
    let name = c.args.name.now in
    let whole = c.in-Ok-from_vec.ensures.ok ∙ c.in-Ok.ensures ∙ ap (λ uri. joined uri name) c.as_slice.ensures.text in
    subst IsRsync (sym whole) (IsRsync-join c.args.self.now name c.as_slice.ensures.uri (c.if-not-is_plain.ensures.0 refl))
