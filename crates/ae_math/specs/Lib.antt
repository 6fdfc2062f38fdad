-- Read in this order: Pairs (integers over positive numbers), Fractions (where those that agree crosswise are equal), Divisors
-- (lowest terms), Forms (linear forms over any keys). Inner has what Fractions needs of the integers, to be a definition at all.
pub mod Pairs
pub mod Fractions
pub mod Divisors
pub mod Forms
pub mod Inner
