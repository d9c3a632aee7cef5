-- Lemmas of bcder_content, for the crates above.
pub use Rattle.objects_cms.proofs.of_bcder_content.Decoding
