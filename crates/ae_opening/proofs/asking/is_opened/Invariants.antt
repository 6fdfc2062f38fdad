use Rattle.std.proofs.Common.{◌≡◌, ◌≢◌, ℕ, ◌<◌, get_or}
use Rattle.ae_block_constants.specs.declared.opened.Opened.{Opened}
use Rattle.ae_opening.proofs.asking.is_opened.Given as goal

abbrev pub invariant-loop-block : goal.invariant-loop-block
invariant-loop-block l = (k : ℕ) (o : Opened) → k < l.block-index → get_or l.opened k o ≡ o → o.formula ≢ l.formula
