-- Lemmas of certs_basics, for the crates above.
pub use Rattle.objects_payload.proofs.of_certs_basics.UriTexts
