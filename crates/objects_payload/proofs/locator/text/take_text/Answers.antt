use Rattle.std.proofs.Common.{◌++◌, take, arith}
use Rattle.std.proofs.KnownBytes.{Consumes-trans}
use Rattle.std.proofs.lemmas.Grind.{common_steps}
use Rattle.objects_payload.specs.declared.locator.error.ReadError.TheVariants.{Memory}
use Rattle.objects_payload.specs.Tals.{TakesText}
use Rattle.objects_payload.proofs.UriLines.{passed}
use Rattle.objects_payload.proofs.locator.text.take_text.Goals as goal

pub returns-in_err-extend_from_slice-in-Ok-clause-reads : goal.returns-in_err-extend_from_slice-in-Ok-clause-reads
returns-in_err-extend_from_slice-in-Ok-clause-reads g c =
    passed c.from_residual.result Memory c.from_residual.ensures (λ r. TakesText (g.R.Read.remaining c.args.reader.now.inner) (g.R.Read.remaining c.read.new.self.inner) r)
    (record {
      octets = c.loop-piece.text.items ++ take c.in-Ok.count c.read.new.buf;
      consumed = Consumes-trans _ _ _ _ _ c.loop-piece.invariant.so_far c.in-Ok.ensures.bytes.0;
      few = grind (arith, common_steps);
    })
