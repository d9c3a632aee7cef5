use Rattle.std.proofs.Common.{sym, ◌∙◌}
use Rattle.objects_payload.proofs.Letters.{encoded_is, are_octets, are_bytes, is_strict, same_ok, not_both, decode_fails}
use Rattle.objects_payload.proofs.locator.encoding.decode.Goals as goal

pub returns-in-Ok-decode : goal.returns-in-Ok-decode
returns-in-Ok-decode c =
    let read = c.in-Ok-decode.ensures in
    let v = c.in-Ok-decode.octets.items in
    let same = sym c.in-Ok.ensures ∙ sym c.as_slice.ensures.value in (
      record { letters = same ∙ read.exact is_strict ∙ encoded_is v; are_octets = are_octets v read.bytes },
      λ w h. same_ok _ w v ((read.strict is_strict w (are_bytes w h.are_octets)).1 (sym same ∙ h.letters ∙ sym (encoded_is w))) read.ok,
    )

pub returns-in-Err-DecodeError : goal.returns-in-Err-DecodeError
returns-in-Err-DecodeError c =
    let read = c.in-Err-DecodeError.ensures in
    let same = sym c.in-Ok.ensures ∙ sym c.as_slice.ensures.value in
    λ w h. not_both _ w _ ((read.strict is_strict w (are_bytes w h.are_octets)).1 (sym same ∙ h.letters ∙ sym (encoded_is w))) (decode_fails c.as_slice.result.now _ _ c.in-Err-DecodeError.field-0-is read.err)
