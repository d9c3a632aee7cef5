-- The folder is a front of the URI, and an rsync URI.
use Rattle.std.proofs.Common.{◌≡◌, Some, length, take, sym, ap, ◌∙◌, subst}
use Rattle.certs_basics.specs.Paths.{parent as parent_of}
use Rattle.certs_basics.specs.Uris.{IsRsync}
use Rattle.certs_basics.proofs.PathUris.{IsRsync-parent, folder-front}
use Rattle.certs_basics.proofs.uri.rsync.Rsync.parent.Goals as goal

pub of_uri-requires : goal.of_uri-requires
of_uri-requires c =
    let folder = c.in-Some.folder.now in
    let found : parent_of c.args.self.now ≡ Some folder = ap parent_of (sym c.as_slice.ensures.text) ∙ sym c.in-Some.ensures in
    let same = c.truncate.ensures ∙ ap (take (length folder)) (c.in_ok-octets.ensures.cases ∙ c.as_bytes.ensures.text) ∙ sym (folder-front c.args.self.now folder found) in
    subst IsRsync (sym same) (IsRsync-parent c.args.self.now folder c.as_slice.ensures.uri found)

pub returns-clause-folder : goal.returns-clause-folder
returns-clause-folder c =
    let folder = c.in-Some.folder.now in
    let found : parent_of c.args.self.now ≡ Some folder = ap parent_of (sym c.as_slice.ensures.text) ∙ sym c.in-Some.ensures in
    let same = c.truncate.ensures ∙ ap (take (length folder)) (c.in_ok-octets.ensures.cases ∙ c.as_bytes.ensures.text) ∙ sym (folder-front c.args.self.now folder found) in
    ap Some (c.of_uri.ensures ∙ same) ∙ sym found
