use Rattle.std.proofs.Common.{[], ◌∷◌}
use Rattle.std.proofs.lemmas.Result.{on_ok_weaker}
use Rattle.ae_ages.proofs.Entered.{both_interned}
use Rattle.ae_ages.proofs.interning.intern_both.Goals as goal

pub returns : goal.returns
returns c =
    on_ok_weaker c.intern_term-2.result
    (λ h. both_interned c.args.generation c.args.store.now c.intern_term.new.store c.intern_term-2.new.store (c.args.left.now ∷ []) (c.args.right.now ∷ []) c.in_ok-intern_term.ensures h) c.intern_term-2.ensures
