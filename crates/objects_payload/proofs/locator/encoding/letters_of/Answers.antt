use Rattle.std.proofs.Common.{not, rules, tests}
use Rattle.std.proofs.lemmas.Iterator.{items_from_collect, YieldsList-from_slice}
use Rattle.std.proofs.lemmas.Iterator.Consumers.{YieldsList-at, YieldsList-from_copied, YieldsList-from_filter}
use Rattle.objects_payload.specs.Locators.{is_dropped}
use Rattle.objects_payload.proofs.locator.encoding.letters_of.Goals as goal

pub returns : goal.returns
returns c =
    items_from_collect _ c.collect.ensures.ran
    (YieldsList-from_filter _ (λ x. not (is_dropped x))
    (YieldsList-at c.filter.ensures.source (YieldsList-from_copied (YieldsList-at c.copied.ensures.source (YieldsList-from_slice c.args.text.now c.iter.ensures.rest))))
    c.filter.ensures.closure (λ x r q k. search (rules, tests)))
