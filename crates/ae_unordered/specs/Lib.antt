-- Numbers of a trail whose order it leaves open (Unordered), and literals that deny equations (Denied). Inner holds nothing to be believed.
pub mod Unordered
pub mod Denied
pub mod Inner
