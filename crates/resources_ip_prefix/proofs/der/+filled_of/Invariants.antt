use Rattle.std.proofs.Common.{length}
use Rattle.resources_ip_prefix.proofs.der.+filled_of.Given as goal

abbrev pub decreases-filled_of : goal.decreases-filled_of
decreases-filled_of l = length l.octets.now
