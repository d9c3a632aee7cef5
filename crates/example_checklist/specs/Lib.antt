pub mod Listed
-- What stands below.
pub use Rattle.certs.specs as certs
pub use Rattle.objects.specs as objects
pub use Rattle.objects.specs.objects_valid as objects_valid
pub use Rattle.rpki_digests.specs as rpki_digests
