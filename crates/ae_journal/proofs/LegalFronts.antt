-- Legal lines: their fronts, and the rule that each line met.
use Rattle.std.proofs.Common.{ℕ, List, [], ◌∷◌, ◌++◌, sym, subst, append_assoc}
use Rattle.std.proofs.lemmas.List.{append-nil}
use Rattle.ae_journal.specs.declared.lines.Line.{Line}
use Rattle.ae_journal.specs.Standing.{Setting}
use Rattle.ae_journal.specs.Legal.{IsLegalLine, AreLegal}
use Rattle.ae_journal.specs.Laws.{FrontsAreLegal}

module _ (x : Setting) (bound : ℕ) where
  pub front : (before js ls : List Line) → AreLegal x bound before (js ++ ls) → AreLegal x bound before js
  front before [] ls a = tt
  front before (j ∷ js) ls a = (a.0, front (before ++ j ∷ []) js ls a.1)

  pub line_at : (before js ls : List Line) (j : Line) → AreLegal x bound before (js ++ j ∷ ls) → IsLegalLine x bound (before ++ js) j
  line_at before [] ls j a = subst (λ (w : List Line). IsLegalLine x bound w j) (sym (append-nil before)) a.0
  line_at before (k ∷ js) ls j a =
      subst (λ (w : List Line). IsLegalLine x bound w j) (append_assoc before (k ∷ []) js) (line_at (before ++ k ∷ []) js ls j a.1)

pub fronts_are_legal : FrontsAreLegal
fronts_are_legal x bound js ls a = front x bound [] js ls a
