pub mod Least
mod Products
mod Solved
