-- Growing says what steps and conflicts add; Found, what isn't met; Ending, how it is taken up.
pub mod Growing
pub mod Found
pub mod Ending
