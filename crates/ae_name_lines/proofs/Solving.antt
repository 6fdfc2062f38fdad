-- What more lines make of values, and which names they solve.
use Rattle.std.specs.Prelude.{◌<◌, false, List, [], ◌∷◌, ◌++◌, ◌≡◌}
use Rattle.std.proofs.Common.{refl, sym, ap, ◌∙◌, subst, arith, inl, inr}
use Rattle.std.proofs.lemmas.List.Elements.{Contains-push_cases}
use Rattle.ae_base.proofs.Tests.{true_false}
use Rattle.ae_journal.specs.Values.{Val, meaning}
use Rattle.ae_journal.specs.TermValues.{put_leaf, solved}
use Rattle.ae_journal.specs.declared.lines.Oriented.TheVariants as oriented
use Rattle.ae_journal.specs.declared.lines.Line.{Line}
use Rattle.ae_journal.specs.declared.lines.Line.TheVariants as line
use Rattle.ae_name_lines.specs.InStep.{is_solve}
use Rattle.ae_name_lines.specs.Laws.{OtherLinesKeepValues, OtherLinesKeepStep, MoreNamesKeepSolves, SolvesGrow, OtherLinesSolveNothing}
use Rattle.ae_name_lines.proofs.Values.{values_by_lines}

pub solved-append : (js ls : List Line) (w : Val) → solved (js ++ ls) w ≡ solved ls (solved js w)
solved-append [] ls w = refl
solved-append (line.Orient (oriented.Named m v) ∷ js) ls w = solved-append js ls (put_leaf m (meaning v) w)
solved-append (line.Orient (oriented.Rule u l r) ∷ js) ls w = solved-append js ls w
solved-append (line.Decide l ∷ js) ls w = solved-append js ls w
solved-append (line.Drop o ∷ js) ls w = solved-append js ls w
solved-append (line.Pair u a b ∷ js) ls w = solved-append js ls w
solved-append (line.Learn c ∷ js) ls w = solved-append js ls w
solved-append (line.TypeInstance k ss ∷ js) ls w = solved-append js ls w
solved-append (line.TermInstance f ts ∷ js) ls w = solved-append js ls w
solved-append (line.Combine b g ∷ js) ls w = solved-append js ls w
solved-append (line.Back n ∷ js) ls w = solved-append js ls w

solved_other : (j : Line) (w : Val) → is_solve j ≡ false → solved (j ∷ []) w ≡ w
solved_other (line.Orient (oriented.Named m v)) w e = true_false e
solved_other (line.Orient (oriented.Rule u l r)) w e = refl
solved_other (line.Decide l) w e = refl
solved_other (line.Drop o) w e = refl
solved_other (line.Pair u a b) w e = refl
solved_other (line.Learn c) w e = refl
solved_other (line.TypeInstance k ss) w e = refl
solved_other (line.TermInstance f ts) w e = refl
solved_other (line.Combine b g) w e = refl
solved_other (line.Back n) w e = refl

pub other_lines_keep_values : OtherLinesKeepValues
other_lines_keep_values sig ts js j t e = values_by_lines sig ts (js ++ j ∷ []) js (λ w. solved-append js (j ∷ []) w ∙ solved_other j (solved js w) e) t

pub other_lines_keep_step : OtherLinesKeepStep
other_lines_keep_step sig ts values js j e step n t v i a = step n t v i a ∙ sym (other_lines_keep_values sig ts js j t e)

-- ---- which names are solved
pub more_names_keep_solves : MoreNamesKeepSolves
more_names_keep_solves k m js l below n v c = omega (arith, l, below n v c)

pub solves_grow : SolvesGrow
solves_grow k n v js l below m w c = elim (Contains-push_cases js (line.Orient (oriented.Named n v)) (line.Orient (oriented.Named m w)) c) [
  | inl h ↦ below m w h
  | inr e ↦ let z : n ≡ m = cc in subst (λ i. i < k) z l
]

pub other_lines_solve_nothing : OtherLinesSolveNothing
other_lines_solve_nothing k js j e below n v c = elim (Contains-push_cases js j (line.Orient (oriented.Named n v)) c) [
  | inl h ↦ below n v h
  | inr z ↦ true_false (sym (ap is_solve z) ∙ e)
]
