-- A `Combine` line changes no value.
use Rattle.std.specs.Prelude.{ℕ, zero, suc, Bool, List, [], ◌∷◌, ◌++◌, ◌≡◌, length, Some, None}
use Rattle.std.proofs.Common.{refl, ap, ◌∙◌}
use Rattle.ae_base.specs.Options.{or_else}
use Rattle.ae_core.specs.Sorts.{sort_of}
use Rattle.ae_core.specs.declared.terms.Sort.{Sort, Bool as BoolSort}
use Rattle.ae_core.specs.declared.terms.Term.{Term, Term-F, Apply, para-Term, Fresh}
use Rattle.ae_core.specs.declared.terms.Term.TheOpen as layer
use Rattle.ae_core.specs.declared.terms.Head.{Head}
use Rattle.ae_core.specs.declared.terms.Head.TheVariants as head
use Rattle.ae_core.specs.declared.problems.Signature.{Signature}
use Rattle.ae_num.specs.declared.forms.Lin.{Lin}
use Rattle.ae_journal.specs.Values.{Val, fields, meaning}
use Rattle.ae_journal.specs.Systems.{own, linear, record_fields, field_terms}
use Rattle.ae_journal.specs.Evaluation.{depth_of}
use Rattle.ae_journal.specs.TermValues.{put_leaf, solved, leaf_of, each_field, opaque_at, opaque, value_step, value_by}
use Rattle.ae_journal.specs.Journals.{live}
use Rattle.ae_journal.specs.Standing.{Setting, value_now}
use Rattle.ae_journal.proofs.Living.{live_push}
use Rattle.ae_journal.specs.declared.lines.Oriented.TheVariants as oriented
use Rattle.ae_journal.specs.declared.lines.Line.{Line}
use Rattle.ae_journal.specs.declared.lines.Line.TheVariants as line

solved_more : (js : List Line) (strict : Bool) (f : Lin) (w : Val) → solved (js ++ line.Combine strict f ∷ []) w ≡ solved js w
solved_more [] strict f w = refl
solved_more (line.Orient (oriented.Named m v) ∷ js) strict f w = solved_more js strict f (put_leaf m (meaning v) w)
solved_more (line.Orient (oriented.Rule u l r) ∷ js) strict f w = solved_more js strict f w
solved_more (line.Decide l ∷ js) strict f w = solved_more js strict f w
solved_more (line.Drop o ∷ js) strict f w = solved_more js strict f w
solved_more (line.Pair u a b ∷ js) strict f w = solved_more js strict f w
solved_more (line.Learn c ∷ js) strict f w = solved_more js strict f w
solved_more (line.TypeInstance k ss ∷ js) strict f w = solved_more js strict f w
solved_more (line.TermInstance g ts ∷ js) strict f w = solved_more js strict f w
solved_more (line.Combine b g ∷ js) strict f w = solved_more js strict f w
solved_more (line.Back n ∷ js) strict f w = solved_more js strict f w

module _ (sig : Signature) (names : List Term) (js : List Line) (strict : Bool) (f : Lin) where
  abbrev More : List Line
  More = js ++ line.Combine strict f ∷ []

  opaque_at_more : (d : ℕ) (s : Sort) (t : Term) → opaque_at sig names (js ++ line.Combine strict f ∷ []) d s t ≡ opaque_at sig names js d s t
  opaque_at_more zero s t = solved_more js strict f (own s (leaf_of names t))
  opaque_at_more (suc d) s t =
      λ i. elim (record_fields sig s) [
        | None ↦ solved_more js strict f (own s (leaf_of names t)) i
        | Some ss ↦ fields (each_field sig names (λ r u. opaque_at_more d r u i) ss (field_terms s t (length ss)))
      ]

  opaque_more : (t : Term) → opaque sig names (js ++ line.Combine strict f ∷ []) t ≡ opaque sig names js t
  opaque_more t = let s = or_else (sort_of sig t) BoolSort in opaque_at_more (depth_of sig s) s t

  applied_more : (h : Head) (ss : List Sort) (ts : List (Term × Val)) (u : Term)
      → or_else (linear h ts) (opaque sig names (js ++ line.Combine strict f ∷ []) u) ≡ or_else (linear h ts) (opaque sig names js u)
  applied_more h ss ts u = ap (λ v. or_else (linear h ts) v) (opaque_more u)

  step_more : (l : Term-F (Term × Val)) → value_step sig names (js ++ line.Combine strict f ∷ []) l ≡ value_step sig names js l
  step_more (layer.Bound n) = refl
  step_more (layer.Num a b real) = refl
  step_more (layer.Fresh n s) = opaque_more (Fresh n s)
  step_more (layer.Apply (head.Build n) ss ts) = refl
  step_more (layer.Apply (head.Field n i) ss (a ∷ [])) = refl
  step_more (layer.Apply (head.Field n i) ss []) = applied_more (head.Field n i) ss [] _
  step_more (layer.Apply (head.Field n i) ss (a ∷ b ∷ ts)) = applied_more (head.Field n i) ss (a ∷ b ∷ ts) _
  step_more (layer.Apply (head.Symbol n) ss ts) = applied_more (head.Symbol n) ss ts _
  step_more (layer.Apply (head.Int o) ss ts) = applied_more (head.Int o) ss ts _
  step_more (layer.Apply (head.Real o) ss ts) = applied_more (head.Real o) ss ts _
  step_more (layer.Apply head.True ss ts) = applied_more head.True ss ts _
  step_more (layer.Apply head.False ss ts) = applied_more head.False ss ts _
  step_more (layer.Apply head.Void ss ts) = applied_more head.Void ss ts _

  value_more : (t : Term) → value_by sig names (js ++ line.Combine strict f ∷ []) t ≡ value_by sig names js t
  unfolding value_by
  value_more t = ap (λ (g : Term-F (Term × Val) → Val). para-Term Val g t) (λ i l. step_more l i)

pub values_stay : (x : Setting) (js : List Line) (strict : Bool) (f : Lin) (t : Term) → value_now x (js ++ line.Combine strict f ∷ []) t ≡ value_now x js t
values_stay x js strict f t =
    ap (λ (ls : List Line). value_by x.problem.signature x.names ls t) (live_push js (line.Combine strict f)) ∙ value_more x.problem.signature x.names (live js) strict f t
