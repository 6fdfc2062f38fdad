-- When what a state holds is a completed system. Read in this order: what a state holds, and the system that it shows (Held); what holds of its
-- values and rules at any time (Valued, Ruled); what a sweep looks at (Swept); all of it together (Settled); literals (Met).
pub mod Held
pub mod Valued
pub mod Ruled
pub mod Swept
pub mod Settled
pub mod Met
