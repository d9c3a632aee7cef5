use Rattle.std.proofs.Common.{◌≡◌, ℕ, List, true, false, subst, sym}
use Rattle.std.specs.Prelude.{All, chars}
use Rattle.bcder.specs.Sets.{alone}
use Rattle.bcder.specs.Texts.{Tells}
use Rattle.bcder.proofs.Ascii.{ascii_tells, octets_all}
use Rattle.bcder.proofs.string.octet_set.text_of.Goals as goal

pub returns-then-are_members-clause-told : goal.returns-then-are_members-clause-told
returns-then-are_members-clause-told g c =
    let octets = c.as_bytes-octets.result.now in
    subst (λ (t : List ℕ). Tells g.S.OctetSet.member alone octets (chars t)) c.as_bytes-octets.ensures.value
    (ascii_tells g.met.S.OctetSet.is_ascii octets (c.are_members.ensures.0 c.if-are_members.true))

pub returns-clause-refused : goal.returns-clause-refused
returns-clause-refused g c = λ all.
    let octets : All g.S.OctetSet.member c.as_bytes-octets.result.now = subst (All g.S.OctetSet.member) (sym c.as_bytes-octets.ensures.value) (octets_all g.met.S.OctetSet.is_ascii c.args.text.now c.utf8.text all) in
    let yes : c.are_members.result ≡ true = c.are_members.ensures.1 octets in
    let no : c.are_members.result ≡ false = c.if-are_members.false in
    cc
