mod Needs
mod Links
mod Climbs
mod ClimbSteps
mod OneCount
