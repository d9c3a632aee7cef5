use Rattle.std.proofs.Common.{IfErr, IfOk, subst}
use Rattle.objects_rta_written.specs.Builders.{BuilderRefused, ContentBuilder, IsPutTogether}
use Rattle.objects_rta_written.specs.Making.{said_by}
use Rattle.objects_rta_written.proofs.Making.{builder_refused, has_it, put_together, sets_refused}
use Rattle.objects_rta_written.proofs.builder.AttestationBuilder.into_attestation.Goals as goal

pub returns-in-Ok-clause-made : goal.returns-in-Ok-clause-made
returns-in-Ok-clause-made c =
    let b : ContentBuilder = record { keys = c.self.inside.keys.items; asn = c.self.inside.asn; v4 = c.self.inside.v4; v6 = c.self.inside.v6; digest = c.self.inside.digest } in
    subst (λ (z : ContentBuilder). IfOk c.attest-made.result (IsPutTogether z)) c.self.view_is
    (has_it (IsPutTogether b) (said_by c.as_slice.result.now c.in-Ok.sets c.octets_of.result.now) (put_together b c.as_slice.result.now c.in-Ok.sets c.octets_of.result.now c.as_slice.ensures.value c.octets_of.ensures c.in-Ok.ensures.sets) c.attest-made.result c.attest-made.ensures.made)

pub returns-in-Ok-clause-refused : goal.returns-in-Ok-clause-refused
returns-in-Ok-clause-refused c =
    let b : ContentBuilder = record { keys = c.self.inside.keys.items; asn = c.self.inside.asn; v4 = c.self.inside.v4; v6 = c.self.inside.v6; digest = c.self.inside.digest } in
    subst (λ (z : ContentBuilder). IfErr c.attest-made.result (BuilderRefused z)) c.self.view_is
    (builder_refused b (said_by c.as_slice.result.now c.in-Ok.sets c.octets_of.result.now) (put_together b c.as_slice.result.now c.in-Ok.sets c.octets_of.result.now c.as_slice.ensures.value c.octets_of.ensures c.in-Ok.ensures.sets) c.attest-made.result c.attest-made.ensures.refused)

pub returns-in-Err-clause-refused : goal.returns-in-Err-clause-refused
returns-in-Err-clause-refused c =
    let b : ContentBuilder = record { keys = c.self.inside.keys.items; asn = c.self.inside.asn; v4 = c.self.inside.v4; v6 = c.self.inside.v6; digest = c.self.inside.digest } in
    subst (λ (z : ContentBuilder). BuilderRefused z c.in-Err.error) c.self.view_is (sets_refused b c.in-Err.error c.in-Err.ensures.refused)
