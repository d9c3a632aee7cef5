use Rattle.std.proofs.Common.{◌≢◌, ◌∙◌, ℕ, List, IfErr, map, refl}
use Rattle.objects_payload.specs.certs_basics.Keys.{KeyValue}
use Rattle.objects_payload.specs.Locators.{LocatorText}
use Rattle.objects_payload.specs.declared.locator.error.ReadError.TheVariants.{Memory}
use Rattle.objects_payload.specs.Tals.{ReadsTal}
use Rattle.objects_payload.specs.Uris.{text_of}
use Rattle.objects_payload.proofs.UriLines.{passed}
use Rattle.objects_payload.proofs.Whole.{uris_fault, key_fault, refused, locator_is}
use Rattle.objects_payload.proofs.locator.tal.Tal.from_text.Goals as goal

pub returns-in_err-uris-clause-reads : goal.returns-in_err-uris-clause-reads
returns-in_err-uris-clause-reads c =
    passed c.from_residual.result c.in_err-uris.field-0.0 c.from_residual.ensures (λ r. ReadsTal c.args.name c.args.octets.now r)
    (uris_fault c.in_err-uris.field-0.0 c.skip_comments.result.now c.args.octets.now c.skip_comments.ensures c.in_err-uris.ensures)

pub returns-in_err-uris-clause-refused : goal.returns-in_err-uris-clause-refused
returns-in_err-uris-clause-refused c =
    passed c.from_residual.result c.in_err-uris.field-0.0 c.from_residual.ensures
    (λ r. IfErr r (λ e. e ≢ Memory → (uris : List (List ℕ)) (key : KeyValue) → LocatorText c.args.octets.now uris key → ⊥))
    (refused c.in_err-uris.field-0.0 c.args.octets.now (uris_fault c.in_err-uris.field-0.0 c.skip_comments.result.now c.args.octets.now c.skip_comments.ensures c.in_err-uris.ensures))

pub returns-in_err-key_info-clause-reads : goal.returns-in_err-key_info-clause-reads
returns-in_err-key_info-clause-reads c =
    passed c.from_residual-in_err-key_info.result c.in_err-key_info.field-0.0 c.from_residual-in_err-key_info.ensures (λ r. ReadsTal c.args.name c.args.octets.now r)
    (key_fault c.in_err-key_info.field-0.0 c.skip_comments.result.now c.in_ok-uris.text.now c.args.octets.now (map text_of c.in_ok-uris.uris.items) c.skip_comments.ensures c.in_ok-uris.ensures c.in_err-key_info.ensures)

pub returns-in_err-key_info-clause-refused : goal.returns-in_err-key_info-clause-refused
returns-in_err-key_info-clause-refused c =
    passed c.from_residual-in_err-key_info.result c.in_err-key_info.field-0.0 c.from_residual-in_err-key_info.ensures
    (λ r. IfErr r (λ e. e ≢ Memory → (uris : List (List ℕ)) (key : KeyValue) → LocatorText c.args.octets.now uris key → ⊥))
    (refused c.in_err-key_info.field-0.0 c.args.octets.now (key_fault c.in_err-key_info.field-0.0 c.skip_comments.result.now c.in_ok-uris.text.now c.args.octets.now (map text_of c.in_ok-uris.uris.items) c.skip_comments.ensures c.in_ok-uris.ensures c.in_err-key_info.ensures))

pub returns-in_err-info-clause-reads : goal.returns-in_err-info-clause-reads
returns-in_err-info-clause-reads c =
    passed c.from_residual-in_err-info.result Memory c.from_residual-in_err-info.ensures (λ r. ReadsTal c.args.name c.args.octets.now r)
    (key_fault Memory c.skip_comments.result.now c.in_ok-uris.text.now c.args.octets.now (map text_of c.in_ok-uris.uris.items) c.skip_comments.ensures c.in_ok-uris.ensures tt)

pub returns-in_err-info-clause-refused : goal.returns-in_err-info-clause-refused
returns-in_err-info-clause-refused c =
    passed c.from_residual-in_err-info.result Memory c.from_residual-in_err-info.ensures
    (λ r. IfErr r (λ e. e ≢ Memory → (uris : List (List ℕ)) (key : KeyValue) → LocatorText c.args.octets.now uris key → ⊥))
    (λ n. absurd (n refl))

pub returns-clause-reads : goal.returns-clause-reads
returns-clause-reads c = (
  locator_is c.args.octets.now c.skip_comments.result.now c.in_ok-uris.text.now (map text_of c.in_ok-uris.uris.items) c.in_ok-key_info.key_info c.skip_comments.ensures c.in_ok-uris.ensures c.in_ok-key_info.ensures,
  c.in_ok-info.ensures ∙ c.from_name.ensures,
)
