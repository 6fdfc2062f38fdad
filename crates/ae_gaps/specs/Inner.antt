-- What a sweep finds where rules are composed (Openings); pairs of rules that overlap, their equations and how they are paired (Overlapping); what is left
-- where nothing was taken up (Idle).
pub mod Openings
pub mod Overlapping
pub mod Idle
pub mod Places
pub mod Congruent
