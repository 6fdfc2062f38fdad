mod GivenClauses
mod Flags
mod Passing
mod Using
mod Exact
