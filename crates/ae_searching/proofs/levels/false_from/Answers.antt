use Rattle.std.proofs.Common.{ℕ, sym, subst, Some}
use Rattle.ae_sat.specs.Layers.{IsFalseUpTo}
use Rattle.ae_searching.specs.Inner.Starts.{StartsAt}
use Rattle.ae_searching.proofs.Firing.{false_never, false_starts}
use Rattle.ae_searching.proofs.levels.false_from.Goals as goal

pub returns-then-is_false : goal.returns-then-is_false
returns-then-is_false c =
    let t = c.args.trail.now.assigned in
    let m = c.args.lit.now in
    subst (λ (n : ℕ). StartsAt (λ (k : ℕ). IsFalseUpTo t k m) (Some n)) (sym c.level_of.ensures) (false_starts t c.as_slice-assigned.ensures.apart m c.if-is_false.ensures)

pub returns-else-is_false : goal.returns-else-is_false
returns-else-is_false c = false_never c.args.trail.now.assigned c.args.lit.now c.if-is_false.ensures
