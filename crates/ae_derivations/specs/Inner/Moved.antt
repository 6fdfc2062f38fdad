-- A line with the numbers of earlier lines moved up by n, and those of hypotheses by m.
use Rattle.std.specs.Prelude.{ℕ, ◌+◌, map}
use Rattle.ae_core.specs.declared.proofs.Scaled.{Scaled}
use Rattle.ae_core.specs.declared.proofs.EqLine.{EqLine}
use Rattle.ae_core.specs.declared.proofs.EqLine.TheVariants.{EqHyp, EqRefl, EqSym, EqTrans, EqCong, EqAc, EqLin, EqField, EqFields, LeHyp, LtHyp, LeSum, LtSum, LeRound}

abbrev pub part_moved : ℕ → Scaled → Scaled
part_moved n p = record { factor = p.factor; line = n + p.line }

abbrev pub moved : ℕ → ℕ → EqLine → EqLine
moved n m (EqHyp s t i) = EqHyp s t (m + i)
moved n m (EqRefl s t) = EqRefl s t
moved n m (EqSym s t k) = EqSym s t (n + k)
moved n m (EqTrans s t j k) = EqTrans s t (n + j) (n + k)
moved n m (EqCong s t ks) = EqCong s t (map (λ k. n + k) ks)
moved n m (EqAc s t) = EqAc s t
moved n m (EqLin s t d ps) = EqLin s t d (map (part_moved n) ps)
moved n m (EqField s t) = EqField s t
moved n m (EqFields s t ks) = EqFields s t (map (λ k. n + k) ks)
moved n m (LeHyp s t i) = LeHyp s t (m + i)
moved n m (LtHyp s t i) = LtHyp s t (m + i)
moved n m (LeSum s t d ps) = LeSum s t d (map (part_moved n) ps)
moved n m (LtSum s t d ps) = LtSum s t d (map (part_moved n) ps)
moved n m (LeRound s t k) = LeRound s t (n + k)
