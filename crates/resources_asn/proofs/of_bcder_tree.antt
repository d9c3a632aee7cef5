-- Lemmas of bcder_tree, for the crates above.
pub use Rattle.resources_ip_prefix.proofs.of_bcder_tree.Trees
