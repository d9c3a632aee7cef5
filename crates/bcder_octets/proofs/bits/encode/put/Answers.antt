use Rattle.std.proofs.Common.{refl}
use Rattle.std.proofs.lemmas.Result.{IfErr-weaker, on_ok_weaker}
use Rattle.bcder_octets.specs.bcder_tree.declared.mode.Mode.TheVariants.{Der}
use Rattle.bcder_octets.proofs.of_bcder_primitive.Compose.{content_refused}
use Rattle.bcder_octets.proofs.of_bcder_primitive.Pieces.{wrote_as, front_as}
use Rattle.bcder_octets.proofs.bits.encode.put.Goals as goal

pub returns-clause-written : goal.returns-clause-written
returns-clause-written g c = on_ok_weaker _ (λ a. wrote_as (λ t w. w.same) a) c.write_encoded.ensures.written

pub returns-clause-refused : goal.returns-clause-refused
returns-clause-refused g c =
    IfErr-weaker _ _ _ (λ e h.
    let r = content_refused Der _ _ _ _ _ e (record { text = c.args.octets.now; is = record { same = refl }; long = refl }) c.requires h in
    (r.0, front_as (λ t w. w.same) r.1)) c.write_encoded.ensures.refused
