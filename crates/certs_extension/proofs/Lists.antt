-- The list of extensions, one by one.
use Rattle.std.proofs.Common.{◌≢◌, ℕ, List, refl, sym, subst}
use Rattle.certs_extension.specs.bcder_tree.declared.mode.Mode.{Mode}
use Rattle.certs_extension.specs.bcder_tree.Tags.{sequence_tag}
use Rattle.certs_extension.specs.bcder_source.Errors.{OnContent}
use Rattle.certs_extension.specs.bcder_source.declared.error.DecodeError.{DecodeError}
use Rattle.certs_extension.specs.bcder_content.Grammar.{Tagged}
use Rattle.certs_extension.proofs.of_bcder_content.Unique.{as_tagged, inside_tagged}
use Rattle.certs_extension.specs.declared.error.ExtensionError.{ExtensionError}
use Rattle.certs_extension.specs.declared.error.ExtensionError.TheVariants.{Duplicate, Criticality, UnknownCritical, BadValue, MissingResources, MissingPolicy, WrongIpResources, WrongAsResources, MissingSubjectKeyIdentifier, MissingKeyUsage, Memory}
use Rattle.certs_extension.specs.Extensions.{IsExtension}
use Rattle.certs_extension.specs.Refusals.{Says, Told}

pub extension_tagged : {m : Mode} → Tagged sequence_tag (IsExtension m)
extension_tagged {m} = as_tagged (inside_tagged _ _)

on_error : {E : Type 0} (P : Type 0) (text : List ℕ) (r : DecodeError E) → Says text r → P → OnContent r P
on_error {E} P text r t p = subst (λ (z : DecodeError E). OnContent z P) (sym t.is) p

pub told_content : {E : Type 0} (P : Type 0) (fault : ExtensionError) (r : DecodeError E) → Told fault r → (fault ≢ Memory → P) → OnContent r P
told_content P Duplicate r t h = on_error P _ r (t.content (λ e. cc)) (h (λ e. cc))
told_content P Criticality r t h = on_error P _ r (t.content (λ e. cc)) (h (λ e. cc))
told_content P UnknownCritical r t h = on_error P _ r (t.content (λ e. cc)) (h (λ e. cc))
told_content P BadValue r t h = on_error P _ r (t.content (λ e. cc)) (h (λ e. cc))
told_content P MissingResources r t h = on_error P _ r (t.content (λ e. cc)) (h (λ e. cc))
told_content P MissingPolicy r t h = on_error P _ r (t.content (λ e. cc)) (h (λ e. cc))
told_content P WrongIpResources r t h = on_error P _ r (t.content (λ e. cc)) (h (λ e. cc))
told_content P WrongAsResources r t h = on_error P _ r (t.content (λ e. cc)) (h (λ e. cc))
told_content P MissingSubjectKeyIdentifier r t h = on_error P _ r (t.content (λ e. cc)) (h (λ e. cc))
told_content P MissingKeyUsage r t h = on_error P _ r (t.content (λ e. cc)) (h (λ e. cc))
told_content {E} P Memory r t h = subst (λ (z : DecodeError E). OnContent z P) (sym (t.memory refl)) tt
