mod Counted
mod Finishing
mod Right
mod Ended
