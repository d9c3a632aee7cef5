-- The key is compared with the octets in lower case and then the rest.
use Rattle.std.proofs.Common.{◌≡◌, take, drop, refl, sym, ap, ◌∙◌, rules, tests}
use Rattle.std.specs.Cmp.Lexicographic.{slice_cmp}
use Rattle.std.specs.Ordering.{nat_cmp}
use Rattle.std.proofs.lemmas.Iterator.{YieldsList-from_slice, YieldsList-from_map}
use Rattle.std.proofs.lemmas.Iterator.Consumers.{YieldsList-at, YieldsList-from_copied, YieldsList-from_chain}
use Rattle.std.proofs.lemmas.Iterator.Search.{cmp_from_yields_List}
use Rattle.certs_basics.specs.Uris.{lower}
use Rattle.certs_basics.proofs.uri.grammar.cmp_lookup_key.Goals as goal

pub returns : goal.returns
returns c =
    let uri = c.args.uri.now in
    let n = c.folded_len.result in
    let keys = YieldsList-from_copied (YieldsList-at c.copied.ensures.source (YieldsList-from_slice c.args.key.now cc)) in
    let folded = YieldsList-at c.map-lowered.ensures.source (YieldsList-from_slice (take n uri) cc) in
    let rest = YieldsList-from_copied (YieldsList-at c.copied-2.ensures.source (YieldsList-from_slice (drop n uri) cc)) in
    let compared = cmp_from_yields_List (λ x y. y ≡ x) _ nat_cmp c.cmp.result c.cmp.ensures.ran keys (λ it e. YieldsList-at e (YieldsList-from_chain (YieldsList-at c.chain.ensures.first (YieldsList-from_map _ lower folded c.map-lowered.ensures.closure (λ x r q k. search (rules, tests)))) (YieldsList-at c.chain.ensures.second rest) c.chain.ensures.first_done c.chain.ensures.second_done)) (λ x y. refl) in
    compared ∙ ap (slice_cmp nat_cmp c.args.key.now) (sym c.folded_len.ensures.key)
