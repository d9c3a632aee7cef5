-- Lemmas of certs_extension, for the crates above.
pub use Rattle.objects_payload.proofs.of_certs_extension.Certs
