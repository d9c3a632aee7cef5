-- Lemmas of resources_chain, for the crates above.
pub use Rattle.resources_as.proofs.of_resources_chain.SetLemmas
