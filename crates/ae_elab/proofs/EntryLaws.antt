-- The sorts of entries, by the kinds of sorts.
use Rattle.std.proofs.Common.{◌≡◌, ◌∙◌, ℕ, List, map, ap, sym}
use Rattle.ae_core.specs.declared.terms.Sort.{Sort, Var, Rigid, Int, Real, Bool as BoolSort, Unit as UnitSort, Named, fold-roll-Sort}
use Rattle.ae_core.specs.declared.terms.Sort.TheOpen as layer
use Rattle.ae_core.specs.declared.terms.Sort.TheVariants.{rolls-Named, rolls-Var, rolls-Rigid, rolls-Int, rolls-Real, rolls-Bool, rolls-Unit}
use Rattle.ae_elab.specs.Declarations.{generalize, generalize_step}

pub general_named : (h : ℕ) (args : List Sort) → generalize (Named h args) ≡ Named h (map generalize args)
unfolding generalize
general_named h args = ap generalize (sym (rolls-Named h args)) ∙ fold-roll-Sort Sort generalize_step (layer.Named h args)

pub general_var : (i : ℕ) → generalize (Var i) ≡ Var i
unfolding generalize
general_var i = ap generalize (sym (rolls-Var i)) ∙ fold-roll-Sort Sort generalize_step (layer.Var i)

pub general_rigid : (i : ℕ) → generalize (Rigid i) ≡ Var i
unfolding generalize
general_rigid i = ap generalize (sym (rolls-Rigid i)) ∙ fold-roll-Sort Sort generalize_step (layer.Rigid i)

pub general_int : generalize Int ≡ Int
unfolding generalize
general_int = ap generalize (sym rolls-Int) ∙ fold-roll-Sort Sort generalize_step layer.Int

pub general_real : generalize Real ≡ Real
unfolding generalize
general_real = ap generalize (sym rolls-Real) ∙ fold-roll-Sort Sort generalize_step layer.Real

pub general_bool : generalize BoolSort ≡ BoolSort
unfolding generalize
general_bool = ap generalize (sym rolls-Bool) ∙ fold-roll-Sort Sort generalize_step layer.Bool

pub general_unit : generalize UnitSort ≡ UnitSort
unfolding generalize
general_unit = ap generalize (sym rolls-Unit) ∙ fold-roll-Sort Sort generalize_step layer.Unit

pub ruleset generals = (general_named, general_var, general_rigid, general_int, general_real, general_bool, general_unit)
