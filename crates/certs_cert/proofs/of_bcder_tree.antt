-- Lemmas of bcder_tree, for the crates above.
pub use Rattle.certs_x509.proofs.of_bcder_tree.Trees
