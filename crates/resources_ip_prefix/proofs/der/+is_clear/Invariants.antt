use Rattle.std.proofs.Common.{length}
use Rattle.resources_ip_prefix.proofs.der.+is_clear.Given as goal

abbrev pub decreases-is_clear : goal.decreases-is_clear
decreases-is_clear l = length l.octets.now
