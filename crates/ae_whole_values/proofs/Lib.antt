mod WholeForms
mod NotWhole
mod CommonDivisors
mod Evaluated
mod Unsolvable
mod Shown
mod Held
