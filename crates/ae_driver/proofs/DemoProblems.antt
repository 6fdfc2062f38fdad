-- The demo's text has a problem, so that it is never refused.
use Rattle.std.proofs.Common.{ℕ, ◌<◌, ◌^◌}
use Rattle.ae_demo_texts.specs.Problems.{HasProblem}
use Rattle.ae_demo_texts.proofs.Whole.{has_problem}
use Rattle.ae_gen.specs.Demo.{demo_text}
use Rattle.ae_driver.specs.declared.reasons.Reason.{Reason}
use Rattle.ae_driver.specs.Problems.{HasNoProblem, IsProblemOf}
use Rattle.ae_driver.proofs.OneProblem as problems

demo_problem : (n : ℕ) (h : HasProblem n) → IsProblemOf (demo_text n) h.problem
demo_problem n h = record { file = h.file; is_file = record { tokens = h.tokens; tokenized = h.tokenized; parsed = h.parsed }; typed = h.typed }

pub demo_has_problem : (n : ℕ) (why : Reason) → n < 2 ^ 64 → HasNoProblem (demo_text n) why → ⊥
demo_has_problem n why lt none = let h = has_problem n lt in problems.has_problem (demo_text n) h.problem why (demo_problem n h) none
