pub mod GroundedSteps
pub mod TakenNames
pub mod RenewedValues
pub mod SolveLines
pub mod Consequences
