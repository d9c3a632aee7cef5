use Rattle.std.proofs.Common.{◌≡◌, true, false, sym, ◌∙◌}
use Rattle.resources_asn.proofs.TextLemmas.{behind_letters, other_letters, no_cut}
use Rattle.resources_asn.proofs.asn.digits_of.Goals as goal

pub returns-in_default : goal.returns-in_default
returns-in_default c = no_cut c.args.text.now (λ b. let t : false ≡ true = c.in_default.ensures.variant.1 b in absurd cc)

pub returns-then-eq_ignore_ascii_case : goal.returns-then-eq_ignore_ascii_case
returns-then-eq_ignore_ascii_case c =
    behind_letters c.args.text.now c.in-Some.front.now c.in-Some.digits.now c.in-Some.ensures.front c.in-Some.ensures.back (c.eq_ignore_ascii_case.ensures.test.0 c.if-eq_ignore_ascii_case.true)

pub returns-else-eq_ignore_ascii_case : goal.returns-else-eq_ignore_ascii_case
returns-else-eq_ignore_ascii_case c =
    other_letters c.args.text.now c.in-Some.front.now c.in-Some.ensures.front
    (λ l. let t : true ≡ false = sym (c.eq_ignore_ascii_case.ensures.test.1 l) ∙ c.if-eq_ignore_ascii_case.false in absurd cc)
