-- Rules with other right sides.
pub mod OtherRights
