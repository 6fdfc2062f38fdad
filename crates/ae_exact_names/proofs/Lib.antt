mod FollowingBy
mod PlainSides
mod StatedNumbers
mod Consequences
mod SameValues
