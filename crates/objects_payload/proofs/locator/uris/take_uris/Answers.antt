use Rattle.std.proofs.Common.{map}
use Rattle.objects_payload.specs.Faults.{TakesUris}
use Rattle.objects_payload.specs.declared.locator.error.ReadError.TheVariants.{Memory}
use Rattle.objects_payload.specs.Uris.{text_of}
use Rattle.objects_payload.proofs.UriLines.{passed, line_fault, not_empty_line, starts, uris_push}
use Rattle.objects_payload.proofs.locator.uris.take_uris.Goals as goal

pub returns-in_err-uri : goal.returns-in_err-uri
returns-in_err-uri c =
    passed c.from_residual.result c.in_err-uri.field-0.0 c.from_residual.ensures (λ r. TakesUris c.args.text.now r)
    (line_fault c.in_err-uri.field-0.0 (map text_of c.loop-line.uris.items) c.in-Some.line.now c.loop-line.rest.now c.in-Some.behind.now c.args.text.now c.loop-line.invariant c.in-Some.ensures (not_empty_line c.in-Some.line.now c.is_empty.result c.is_empty.ensures c.if-is_empty.false) c.in_err-uri.ensures)

pub returns-in_err-push : goal.returns-in_err-push
returns-in_err-push c =
    passed c.from_residual-in_err-push.result Memory c.from_residual-in_err-push.ensures (λ r. TakesUris c.args.text.now r)
    (starts (map text_of c.loop-line.uris.items) c.in-Some.line.now c.loop-line.rest.now c.in-Some.behind.now c.args.text.now c.loop-line.invariant c.in-Some.ensures c.in_ok-uri.ensures.0)

pub loop-line-preserved : goal.loop-line-preserved
loop-line-preserved c =
    uris_push c.loop-line.uris.items _ c.in_ok-uri.uri c.in-Some.line.now c.loop-line.rest.now c.in-Some.behind.now c.args.text.now c.loop-line.invariant c.in-Some.ensures c.in_ok-uri.ensures.0 c.in_ok-uri.ensures.1 c.in_ok-push.ensures.items
