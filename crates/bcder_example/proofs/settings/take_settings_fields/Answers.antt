use Rattle.std.proofs.Common.{refl}
use Rattle.bcder_example.proofs.of_bcder_content.Forests.{rest_gives, rest_lacks}
use Rattle.bcder_example.proofs.of_bcder_content.InMode.{begin, next_such, stop_such, unfit_such, next_default, stop_default, finish, stop_all}
use Rattle.bcder_example.proofs.of_bcder_content.Taking.{weaker}
use Rattle.bcder_example.proofs.of_bcder_content.Unique.{octets_tagged, octets_one, unsigned_one}
use Rattle.bcder_example.proofs.settings.take_settings_fields.Goals as goal

pub returns-in_err-format : goal.returns-in_err-format
returns-in_err-format g c = stop_such _ begin c.from_residual.ensures c.in_err-format.ensures.reads

pub returns-then-format-ne0 : goal.returns-then-format-ne0
returns-then-format-ne0 g c = unfit_such begin (λ m. octets_one unsigned_one) c.in_ok-format.ensures.reads c.if-format-ne0.true

pub returns-in_err-take_opt_u8 : goal.returns-in_err-take_opt_u8
returns-in_err-take_opt_u8 g c = stop_default _ (next_such begin c.in_ok-format.ensures.reads c.if-format-ne0.false) c.from_residual-in_err-take_opt_u8.ensures c.in_err-take_opt_u8.ensures.reads

pub returns-in_err-skip_all : goal.returns-in_err-skip_all
returns-in_err-skip_all g c =
    let s = next_default _ (next_such begin c.in_ok-format.ensures.reads c.if-format-ne0.false) (λ m. octets_tagged _ _) c.in_ok-take_opt_u8.ensures.reads c.unwrap_or-level.ensures in
    stop_all _ s c.from_residual-in_err-skip_all.ensures (weaker _ rest_lacks c.in_err-skip_all.ensures.refused)

pub returns : goal.returns
returns g c =
    let s = next_default _ (next_such begin c.in_ok-format.ensures.reads c.if-format-ne0.false) (λ m. octets_tagged _ _) c.in_ok-take_opt_u8.ensures.reads c.unwrap_or-level.ensures in
    finish s (rest_gives c.in_ok-skip_all.ensures.skipped) refl
