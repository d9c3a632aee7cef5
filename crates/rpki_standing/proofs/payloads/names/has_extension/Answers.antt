use Rattle.std.proofs.Common.{◌≡◌, ◌+◌, ◌-◌, length, map, drop, take, sym, ap, ◌∙◌, arith}
use Rattle.std.specs.Char.{to_ascii_lowercase}
use Rattle.std.proofs.lemmas.List.{take_rest, length-map}
use Rattle.rpki_standing.specs.certs_basics.Uris.{lower}
use Rattle.rpki_standing.proofs.Endings.{map_lower, ends_so, end_of}
use Rattle.rpki_standing.proofs.payloads.names.has_extension.Goals as goal

pub returns-then-uri-dot-eq46 : goal.returns-then-uri-dot-eq46
returns-then-uri-dot-eq46 c =
    let uri = c.args.uri.now in
    let dot = c.in-Some.dot in
    let extension = c.args.extension.now in
    let len : dot + 4 ≡ length uri = omega (arith, c.in-Some.ensures) in
    let rest : map to_ascii_lowercase (take (length uri - (dot + 1)) (drop (dot + 1) uri)) ≡ map lower (drop (dot + 1) uri) =
    ap (map to_ascii_lowercase) (take_rest uri (dot + 1)) ∙ map_lower (drop (dot + 1) uri) in (
      λ t. ends_so (map lower extension) uri dot len c.if-uri-dot-eq46.true (sym rest ∙ (c.eq_ignore_ascii_case.ensures.test.0 t ∙ map_lower extension)),
      λ h. c.eq_ignore_ascii_case.ensures.test.1 (rest ∙ (end_of (map lower extension) uri dot (length-map extension lower ∙ c.told-extension) len h ∙ sym (map_lower extension))),
    )
