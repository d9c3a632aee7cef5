-- The first 8 octets are the scheme, with std's lower case in the place of `lower`.
use Rattle.std.proofs.Common.{refl}
use Rattle.std.proofs.lemmas.Bool.{false≢true}
use Rattle.certs_basics.proofs.UriTexts.{map-to_ascii_lowercase}
use Rattle.certs_basics.proofs.uri.grammar.after_scheme.Goals as goal
use Rattle.certs_basics.proofs.uri.grammar.after_scheme.Goals.{else-is_plain-via-then-is_plain+else-eq_ignore_ascii_case, else-is_plain-via-else-is_plain}

pub returns-then-eq_ignore_ascii_case : goal.returns-then-eq_ignore_ascii_case
returns-then-eq_ignore_ascii_case c =
    let split = c.in_ok-front.ensures.cases in
    let same = c.if-eq_ignore_ascii_case.ensures.test.0 refl in (
      record {
        plain = c.if-is_plain.ensures.0 refl;
        scheme_is = cc (split.1, same, map-to_ascii_lowercase c.in_ok-front.front.now, map-to_ascii_lowercase c.args.scheme.now);
      },
      split.2,
    )

pub returns-else-is_plain : goal.returns-else-is_plain
returns-else-is_plain c s =
    let split = c.in_ok-front.ensures.cases in
    elim c.else-is_plain.branch [
      | else-is_plain-via-then-is_plain+else-eq_ignore_ascii_case w ↦ false≢true (w.if-eq_ignore_ascii_case.ensures.test.1 (cc (split.1, s.scheme_is, map-to_ascii_lowercase c.in_ok-front.front.now, map-to_ascii_lowercase c.args.scheme.now)))
      | else-is_plain-via-else-is_plain w ↦ false≢true (w.if-is_plain.ensures.1 s.plain)
    ]
