mod Marking
mod Ending
mod Opening
mod Keeping
mod Covering
mod Starting
mod Finishing
