-- What steps assume (Assuming).
pub mod Assuming
