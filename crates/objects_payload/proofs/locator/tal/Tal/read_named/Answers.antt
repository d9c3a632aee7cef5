use Rattle.std.specs.Prelude.{ℕ, Vec}
use Rattle.std.specs.declared.alloc.Global.{Global}
use Rattle.objects_payload.specs.Tals.{FailsAtIo, ReadsNamed, TalValue}
use Rattle.objects_payload.proofs.Named.{named_is, none_failed_of, stopped_of, text_fault}
use Rattle.objects_payload.proofs.UriLines.{passed}
use Rattle.objects_payload.proofs.locator.tal.Tal.read_named.Goals as goal

pub returns-in_err-text-clause-reads : goal.returns-in_err-text-clause-reads
returns-in_err-text-clause-reads g c =
    passed c.from_residual.result c.in_err-text.field-0.0 c.from_residual.ensures (λ r. ReadsNamed c.args.name (g.R.Read.remaining c.args.reader.now.inner) (g.R.Read.remaining c.take_text.new.reader.inner) r)
    (text_fault c.args.name _ _ c.in_err-text.field-0.0 c.in_err-text.ensures.reads)

pub returns-clause-reads : goal.returns-clause-reads
returns-clause-reads g c = named_is c.args.name _ _ c.in_ok-text.text.items c.as_slice.result.now c.from_text.result c.as_slice.ensures.value c.in_ok-text.ensures.reads c.from_text.ensures.reads

pub returns-in_err-text-clause-failures : goal.returns-in_err-text-clause-failures
returns-in_err-text-clause-failures g c =
    passed c.from_residual.result c.in_err-text.field-0.0 c.from_residual.ensures (λ r. FailsAtIo (g.R.Read.remaining c.args.reader.now.inner) (g.R.Read.remaining c.take_text.new.reader.inner) (record { before = c.args.reader.now.failures; after = c.take_text.new.reader.failures }) r)
    (stopped_of (Vec ℕ Global) TalValue _ _ _ c.in_err-text.field-0.0 c.in_err-text.ensures.failures)

pub returns-clause-failures : goal.returns-clause-failures
returns-clause-failures g c = none_failed_of c.args.name _ _ _ _ c.from_text.result c.in_ok-text.ensures.failures c.from_text.ensures.reads
