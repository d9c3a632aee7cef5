-- Publication points, as the rules see them.
use Rattle.rpki_rules.specs.Points.{Point}
use Rattle.rpki_standing.specs.Standing.{StandingValue}

abbrev pub point_of : StandingValue → Point
point_of s = s.point
