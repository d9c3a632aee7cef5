-- Lemmas of bcder_tree, for the crates above.
pub use Rattle.resources_asn.proofs.of_bcder_tree.Trees
pub use Rattle.certs_extension.proofs.of_bcder_tree.Unique
