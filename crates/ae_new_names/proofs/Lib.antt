mod TakenIn
mod Stepping
mod Learning
mod Taking
