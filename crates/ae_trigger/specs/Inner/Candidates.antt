-- Candidates as they are collected: of a term under inner variables, of the term itself, and of a body behind what is there.
use Rattle.std.specs.Prelude.{ℕ, ◌+◌, Bool, false, cond, not, ◌&&◌, List, [], ◌∷◌, ◌++◌, map, length, Option}
use Rattle.std.specs.List.{flat_map}
use Rattle.ae_base.specs.Options.{all_known}
use Rattle.ae_rules.specs.Linear.{form, is_number}
use Rattle.ae_core.specs.declared.terms.Term.{Term}
use Rattle.ae_core.specs.declared.terms.Head.{Head}
use Rattle.ae_core.specs.declared.formulas.Formula.{Formula, fold-Formula}
use Rattle.ae_core.specs.declared.formulas.Quant.{Quant-F}
use Rattle.ae_core.specs.declared.problems.Signature.{Signature}
use Rattle.ae_journal.specs.Triggers.{is_candidate, outer, known_ones, candidates, body_step}

abbrev pub are_factors : Term → Term → Bool
are_factors a b = not (is_number (form a)) && not (is_number (form b))

abbrev pub is_product : List Term → Bool
is_product (a ∷ b ∷ []) = are_factors a b
is_product _ = false

abbrev pub outers : ℕ → List Term → Option (List Term)
outers d ts = all_known (map (outer d) ts)

unfoldable pub outer_candidates : Signature → ℕ → Term → List Term
outer_candidates sig d t = known_ones (map (outer d) (candidates sig t))

abbrev pub outer_candidates_of : Signature → ℕ → List Term → List Term
outer_candidates_of sig d ts = flat_map (outer_candidates sig d) ts

-- the application itself, where it is one of them
abbrev pub whole_candidate : Signature → ℕ → Term → Head → List Term → List Term
whole_candidate sig d t h us = cond (is_candidate sig h us) (known_ones (outer d t ∷ [])) []

abbrev pub with_two : Signature → ℕ → Term → Term → List Term → List Term
with_two sig d a b found = (found ++ outer_candidates sig d a) ++ outer_candidates sig d b

abbrev pub block_step : Quant-F (ℕ → List Term) (ℕ → List Term) → ℕ → List Term
block_step q d = q.body (d + length q.sorts)

abbrev pub in_body : Signature → Formula → ℕ → List Term
in_body sig = fold-Formula (ℕ → List Term) (ℕ → List Term) (body_step sig) block_step

-- the candidates of a formula under d inner variables, behind what is there
unfoldable pub with_body : Signature → ℕ → Formula → List Term → List Term
with_body sig d f found = found ++ in_body sig f d
