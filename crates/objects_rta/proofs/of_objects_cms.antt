-- Lemmas of objects_cms, for the crates above.
pub use Rattle.objects_cms.proofs.Ones
pub use Rattle.objects_cms.proofs.Spelled
pub use Rattle.objects_cms.proofs.Wholes
