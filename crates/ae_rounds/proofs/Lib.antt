mod Failing
mod Stepping
mod Turning
mod Written
