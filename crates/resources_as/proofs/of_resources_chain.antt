-- Lemmas of resources_chain, for the crates above.
pub use Rattle.resources_asn.proofs.of_resources_chain.ClaimLemmas
pub use Rattle.resources_asn.proofs.of_resources_chain.CutLemmas
pub use Rattle.resources_asn.proofs.of_resources_chain.ListTexts
pub use Rattle.resources_asn.proofs.of_resources_chain.SetLemmas
