-- What `learn` leaves as it was.
use Rattle.std.specs.Prelude.{ℕ, List, [], ◌≡◌}
use Rattle.std.proofs.Common.{refl, sym, ap, ◌∙◌, subst}
use Rattle.std.proofs.lemmas.List.{append-nil}
use Rattle.ae_journal.specs.declared.lines.Line.{Line}
use Rattle.ae_store.specs.Growing.{IsFront}
use Rattle.ae_state.specs.declared.holding.Holding.{Holding}
use Rattle.ae_state.specs.declared.holding.Mark.{Mark}
use Rattle.ae_state.specs.Names.{assumed_in}
use Rattle.ae_state.specs.Right.{IsRight}
use Rattle.ae_state.specs.Marks.{FitsMark}
use Rattle.ae_state.specs.Stepping.{IsInStep}
use Rattle.ae_state.specs.Complete.{IsOwnConflict}
use Rattle.ae_state.proofs.Learning.{step_grown, conflict_grown}
use Rattle.ae_state.proofs.Lasting.{marks_last}

module _ (o p : Holding) (front : IsFront o.shapes p.shapes) (others : p ≡ record o { shapes = p.shapes }) where
  -- what stands beside the names is the same
  pub others_learnt : p ≡ record o { shapes = p.shapes; assumed = p.assumed; said = p.said; next = p.next }
  others_learnt = others ∙ (λ i. record o { shapes = p.shapes; assumed = (sym others i).assumed; said = (sym others i).said; next = (sym others i).next })

  pub assumed_learnt : assumed_in p ≡ assumed_in o
  assumed_learnt = ap assumed_in others

  pub marks_learnt : (m : Mark) (then : Holding) → FitsMark o m then → FitsMark p m then
  marks_learnt m then h =
      subst (λ (x : Holding). FitsMark x m then) (sym others)
      (marks_last o (record o { shapes = p.shapes })
      (record {
        values = λ shared c s. s;
        equations = λ shared c s. s;
        assumed = λ root map s. s;
        said = λ root map s. s;
        signature = refl;
        shapes = front;
        justs = ([], sym (append-nil o.justs));
        conflicts = ([], sym (append-nil o.conflicts));
      }) m then h)

  module _ (right : IsRight o) where
    pub step_learnt : (js : List Line) → IsInStep o js → IsInStep p js
    step_learnt js s = subst (λ (x : Holding). IsInStep x js) (sym others) (step_grown o p.shapes front right js s)

    pub conflict_learnt : (k : ℕ) → IsOwnConflict o k → IsOwnConflict p k
    conflict_learnt k c = subst (λ (x : Holding). IsOwnConflict x k) (sym others) (conflict_grown o p.shapes front right k c)
