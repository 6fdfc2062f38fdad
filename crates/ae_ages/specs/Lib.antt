-- Generations by what is brought. Read: which quantified formulas have a generation (Ages); what it is to bring a formula (Interned); what that gives (Laws).
pub mod Ages
pub mod Interned
pub mod Laws
