use Rattle.std.proofs.Common.{◌++◌, ◌∙◌, Bool, List, arith, ap, sym, refl}
use Rattle.objects_payload.specs.Locators.{is_https}
use Rattle.objects_payload.specs.declared.locator.uri.TalUri.{TalUri}
use Rattle.objects_payload.specs.Uris.{text_of}
use Rattle.objects_payload.proofs.Halves.{halves_meet, one_parted, others, passing}
use Rattle.objects_payload.proofs.locator.order.+part.Goals as goal

abbrev h : TalUri → Bool
h uri = is_https (text_of uri)

pub returns-then-half-eq0-clause-order : goal.returns-then-half-eq0-clause-order
returns-then-half-eq0-clause-order t c = one_parted h c.args.uris.now (omega (arith, c.if-half-eq0.true))

pub returns-clause-order : goal.returns-clause-order
returns-clause-order t c =
    let s = c.split_at_mut-front in
    let here = c.part-here in
    let there = c.part-there in
    halves_meet h s.result.0.now s.result.1.now here.new.uris there.new.uris _ c.rotate_left.new.self here.result there.result _
    s.ensures.front_len here.ensures.order there.ensures.order here.ensures.count there.ensures.count refl c.rotate_left.ensures.after
    ∙ ap (λ (z : List TalUri). passing h z ++ others h z) (sym s.ensures.value)
