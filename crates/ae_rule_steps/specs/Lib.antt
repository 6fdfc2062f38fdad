-- Rules whose equations steps state, and multisets that they reduce with their steps.
pub mod Said
