-- What changes of rules and equations rest on and lead to. Read Said (rules and equations that steps state), then Turned (sides after a change).
pub mod Said
pub mod Turned
