-- The first line of a row, and the parts of its last one.
use Rattle.std.specs.Prelude.{ℕ, ℤ, neg_ℤ, ◌*ℤ◌, Bool, cond, List, [], ◌∷◌}
use Rattle.ae_core.specs.declared.terms.Term.{Term}
use Rattle.ae_core.specs.declared.proofs.EqLine.{EqLine}
use Rattle.ae_core.specs.declared.proofs.EqLine.TheVariants.{LeHyp, LtHyp}
use Rattle.ae_core.specs.declared.proofs.Scaled.{Scaled}
use Rattle.ae_store.specs.Terms.{named}

-- the hypothesis of number 0 says that the lower name is below the upper one, or at most that
abbrev pub hyp_line : List Term → Bool → ℕ → ℕ → EqLine
hyp_line ts strict upper lower = cond strict (LtHyp (named ts lower) (named ts upper) 0) (LeHyp (named ts lower) (named ts upper) 0)

-- the factors of that line and of the two that say the values, by the denominators of these
abbrev pub parts_between : ℤ → ℤ → ℕ → ℕ → List Scaled
parts_between below above below_line above_line =
    record { factor = below *ℤ above; line = 0 } ∷ record { factor = neg_ℤ above; line = below_line } ∷ record { factor = below; line = above_line } ∷ []
