-- The test of a state whose system is completed and of which nothing is open.
use Rattle.std.specs.Prelude.{ℕ, Bool, ◌&&◌}
use Rattle.ae_core.specs.declared.problems.Problem.{Problem}
use Rattle.ae_journal.specs.declared.systems.Saturated.{Saturated}
use Rattle.ae_saturated.specs.Firsts.{firsts_stand}
use Rattle.ae_saturated.specs.Literals.{literals_fit}
use Rattle.ae_saturated.specs.Names.{names_fit}
use Rattle.ae_saturated.specs.Order.{inequalities_hold}

abbrev pub state_fits : Problem → ℕ → Saturated → Bool
state_fits p g st =
    firsts_stand p g st.literals && literals_fit p.signature st.system st.literals && names_fit p.signature st.system
    && inequalities_hold st.system st.point st.literals
