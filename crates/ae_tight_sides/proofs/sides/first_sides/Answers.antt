use Rattle.std.specs.Prelude.{List, slice_get}
use Rattle.std.proofs.Common.{sym, ap, ◌∙◌}
use Rattle.std.proofs.lemmas.Result.{IfOk-weaker}
use Rattle.ae_core.specs.declared.formulas.Lit.{Lit}
use Rattle.ae_journal.proofs.Splits.{contains_at}
use Rattle.ae_tight_sides.proofs.Within.{some_weaker}
use Rattle.ae_tight_sides.proofs.sides.first_sides.Goals as goal

pub returns-in-Some : goal.returns-in-Some
returns-in-Some c =
    let there = contains_at c.args.deriv.now.hyps 0 c.in-Some.lit.now (sym (c.in-Some.ensures ∙ ap (λ (ls : List Lit). slice_get ls 0) c.as_slice.ensures)) in
    IfOk-weaker c.literal_sides.result _ _ (λ o. some_weaker _ _ (λ both w. (c.in-Some.lit.now, w.0, there, w.1)) o) c.literal_sides.ensures
