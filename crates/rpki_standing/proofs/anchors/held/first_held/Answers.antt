use Rattle.std.proofs.Common.{◌≡◌, ℕ, List, sym, ap, ◌∙◌}
use Rattle.objects_payload.specs.Uris.{text_of}
use Rattle.rpki_standing.specs.certs_basics.Uris.{lookup_key}
use Rattle.rpki_rules.specs.World.{world_of, find_object}
use Rattle.rpki_standing.proofs.FirstHeld.{passes_one, found_here, found_none}
use Rattle.rpki_standing.proofs.anchors.held.first_held.Goals as goal

pub loop-uri-preserved : goal.loop-uri-preserved
loop-uri-preserved c =
    let u = c.uri-item.result in
    let text : text_of u ≡ c.as_bytes.result.now = sym (c.as_bytes.ensures.value ∙ c.as_str.ensures.text) in
    λ d v. passes_one (world_of d v c.args.index.now) c.args.uris.now c.loop-uri.uri-index u c.loop-uri-test.true c.uri-item.is
    (ap (λ (t : List ℕ). find_object c.args.index.now.objects (lookup_key t)) text ∙ c.in_default.ensures.none) (c.loop-uri.invariant d v)

pub returns-in-Some : goal.returns-in-Some
returns-in-Some c =
    let u = c.uri-item.result in
    let text : text_of u ≡ c.as_bytes.result.now = sym (c.as_bytes.ensures.value ∙ c.as_str.ensures.text) in
    λ d v. found_here (world_of d v c.args.index.now) c.args.uris.now c.loop-uri.uri-index u c.in-Some.object.now.uri c.in-Some.object.now.octets c.loop-uri-test.true c.uri-item.is
    (c.in-Some.ensures.key ∙ ap lookup_key (sym text)) (ap (λ (t : List ℕ). find_object c.args.index.now.objects (lookup_key t)) text ∙ c.in-Some.ensures.found) (c.loop-uri.invariant d v)

pub returns : goal.returns
returns c = λ d v. found_none (world_of d v c.args.index.now) c.args.uris.now c.loop-uri.uri-index c.loop-uri-test.false (c.loop-uri.invariant d v)
