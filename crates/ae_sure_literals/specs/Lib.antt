-- Sure says which literals of a trail surely stand. Inner holds nothing to be believed.
pub mod Sure
pub mod Inner
