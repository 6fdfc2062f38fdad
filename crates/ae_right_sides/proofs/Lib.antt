mod Names
mod Grounded
mod Lefts
mod OtherRights
mod Changed
