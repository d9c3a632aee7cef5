-- Subject information access of a certificate (RFC 6487 4.8.8, RFC 8182 3.2).
use Rattle.certs_extension.specs.bcder_tree.declared.mode.Mode.TheVariants.{Der}
use Rattle.certs_extension.specs.bcder_tree.Tree.{Tree}
use Rattle.certs_extension.specs.Access as access
pub use Rattle.certs_extension.specs.Access.{AccessValue, no_access}

abbrev pub IsSubjectAccess : Tree → AccessValue → Type 0
IsSubjectAccess = access.IsSubjectAccess Der
