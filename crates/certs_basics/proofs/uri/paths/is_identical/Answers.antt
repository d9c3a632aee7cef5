-- Lookup keys are the same where scheme and host are but for case, and what comes after them is.
use Rattle.std.proofs.Common.{refl, sym, ◌∙◌}
use Rattle.std.proofs.lemmas.Bool.{false≢true}
use Rattle.std.proofs.lemmas.Bool.Decides.{Decides-eqb}
use Rattle.std.proofs.lemmas.Slice.Eq.{slice_eq-Decides}
use Rattle.certs_basics.proofs.SameUris.{identical-keys, parts-same}
use Rattle.certs_basics.proofs.UriTexts.{map-to_ascii_lowercase}
use Rattle.certs_basics.proofs.uri.paths.is_identical.Goals as goal

pub returns-then-eq_ignore_ascii_case : goal.returns-then-eq_ignore_ascii_case
returns-then-eq_ignore_ascii_case c =
    let a = c.without_slash-a.result.now in
    let b = c.without_slash-b.result.now in
    let n = c.folded_len.ensures in
    let m = c.folded_len-2.ensures in
    let s = c.split_at.ensures in
    let t = c.split_at-2.ensures in
    let keys = identical-keys c.args.a.now c.args.b.now a b c.without_slash-a.ensures c.without_slash-b.ensures in
    let paths = slice_eq-Decides Decides-eqb _ _ _ c.eq.ensures in
    let hosts = sym (map-to_ascii_lowercase c.split_at.result.0.now) ∙ c.if-eq_ignore_ascii_case.ensures.test.0 refl ∙ map-to_ascii_lowercase c.split_at-2.result.0.now in (
      λ test. let path = paths.0 test in keys.1 (cc (n.key, m.key, s.front, s.back, t.front, t.back, hosts, path)),
      λ same. let parts = parts-same a b c.folded_len.result c.folded_len-2.result n.host m.host n.bound m.bound n.key m.key (keys.0 same) in paths.1 (s.back ∙ parts.path ∙ sym t.back),
    )

pub returns-else-eq_ignore_ascii_case : goal.returns-else-eq_ignore_ascii_case
returns-else-eq_ignore_ascii_case c =
    let a = c.without_slash-a.result.now in
    let b = c.without_slash-b.result.now in
    let n = c.folded_len.ensures in
    let m = c.folded_len-2.ensures in
    let s = c.split_at.ensures in
    let t = c.split_at-2.ensures in
    let keys = identical-keys c.args.a.now c.args.b.now a b c.without_slash-a.ensures c.without_slash-b.ensures in
    let host = map-to_ascii_lowercase c.split_at.result.0.now in
    let other = map-to_ascii_lowercase c.split_at-2.result.0.now in (
      λ test. absurd (false≢true (sym c.if-eq_ignore_ascii_case.false ∙ test)),
      λ same. let parts = parts-same a b c.folded_len.result c.folded_len-2.result n.host m.host n.bound m.bound n.key m.key (keys.0 same) in c.eq_ignore_ascii_case.ensures.test.1 (cc (parts.host, s.front, t.front, host, other)),
    )
