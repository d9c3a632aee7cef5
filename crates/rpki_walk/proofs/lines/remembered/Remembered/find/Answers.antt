use Rattle.std.proofs.Common.{refl, sym, subst, arith}
use Rattle.rpki_rules.specs.Words.{Mem}
use Rattle.rpki_walk.proofs.Mems.{mem_get_or}
use Rattle.rpki_walk.proofs.lines.remembered.Remembered.find.Goals as goal

pub returns-then-is_like : goal.returns-then-is_like
returns-then-is_like c =
    let walked = c.args.self.now.walked.items in record {
      one = c.index-one.result.now;
      in_list = subst (λ x. Mem walked x) (sym c.index-one.ensures) (mem_get_or walked c.in-Some.at c.index-one.result.now (omega (arith, c.args.self.now.walked.ok.0)));
      from_is = refl;
      like = c.is_like.ensures c.if-is_like.true;
    }
