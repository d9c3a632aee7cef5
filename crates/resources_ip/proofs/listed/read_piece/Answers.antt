use Rattle.std.proofs.Common.{◌≡◌, ◌≢◌, arith, rules, subst}
use Rattle.resources_ip.specs.resources_ip_prefix.declared.addr.AddressFamily.{AddressFamily}
use Rattle.resources_ip.specs.resources_ip_prefix.ReadTexts.{Shows}
use Rattle.resources_ip_block.proofs.ReadLemmas.{shown_as}
use Rattle.resources_ip_block.proofs.ReadLemmas.{whole_if_v4}
use Rattle.resources_ip.proofs.Texts.{read_piece_is, other_shown}
use Rattle.resources_ip.proofs.listed.read_piece.Goals as goal

pub returns-then-eq-clause-whole : goal.returns-then-eq-clause-whole
returns-then-eq-clause-whole c = whole_if_v4 c.args.family c.args.piece.now c.from_family_str.result c.from_family_str.ensures

pub returns-then-eq-clause-reads : goal.returns-then-eq-clause-reads
returns-then-eq-clause-reads c =
    let same : c.of_text-shown.result ≡ c.args.family = search rules in
    let shows = shown_as c.of_text-shown.result c.args.piece.now c.of_text-shown.ensures in
    read_piece_is c.args.family c.args.piece.now c.from_family_str.result (λ e. grind (arith, c.if-is_empty.false)) (subst (λ (f : AddressFamily). Shows f c.args.piece.now) same shows) c.from_family_str.ensures

pub returns-else-eq-clause-reads : goal.returns-else-eq-clause-reads
returns-else-eq-clause-reads c =
    let other : c.of_text-shown.result ≢ c.args.family = search rules in
    let shows = shown_as c.of_text-shown.result c.args.piece.now c.of_text-shown.ensures in
    (λ e. grind (arith, c.if-is_empty.false), other_shown c.args.family c.of_text-shown.result c.args.piece.now other shows)
