-- No line of an instance comes in where each line is legal at a number below none.
use Rattle.std.proofs.Common.{◌≡◌, ℕ, List, [], ◌∷◌, ◌++◌, ◌⊎◌, sym, ap, subst, arith, inl, inr, append-nil}
use Rattle.std.specs.List.{Contains}
use Rattle.ae_journal.proofs.Refusals.{no_instance_at_bound}
use Rattle.ae_journal.proofs.Splits.{contains_cases, contains_one}
use Rattle.ae_journal.specs.Legal.{AreLegal, IsLegalLine}
use Rattle.ae_journal.specs.Noted.{Noted}
use Rattle.ae_journal.specs.Standing.{Setting}
use Rattle.ae_journal.specs.declared.lines.Line.{Line}
use Rattle.ae_journal.specs.declared.lines.Line.TheVariants as line
use Rattle.ae_sat.specs.Search.{NotesLegally}
use Rattle.ae_searching.specs.Steps.{IsInstanceLine, NotesNoInstance}

module _ (x : Setting) where
  none_legal : (js : List Line) (j : Line) → IsLegalLine x 0 js j → ¬ IsInstanceLine j
  none_legal js (line.TypeInstance k ss) m h = no_instance_at_bound x js (line.TypeInstance k ss) m
  none_legal js (line.TermInstance f ts) m h = no_instance_at_bound x js (line.TermInstance f ts) m
  none_legal js (line.Learn c) m h = h
  none_legal js (line.Decide l) m h = h
  none_legal js (line.Orient o) m h = h
  none_legal js (line.Drop o) m h = h
  none_legal js (line.Pair u a b) m h = h
  none_legal js (line.Combine b f) m h = h
  none_legal js (line.Back n) m h = h

  none_among : (js ls : List Line) → AreLegal x 0 js ls → (j : Line) → Contains ls j → ¬ IsInstanceLine j
  none_among js [] a j c h = omega (arith, c.1)
  none_among js (i ∷ ls) a j c h =
      elim (contains_cases i ls j c) as (λ _. ⊥) [ inl e ↦ none_legal js i a.0 (subst IsInstanceLine (sym e) h) | inr r ↦ none_among (js ++ i ∷ []) ls a.1 j r h ]

  pub notes_no_instance : (old new : List Line) → NotesLegally x 0 old new → NotesNoInstance old new
  notes_no_instance old new n = record { added = n.added; is = n.is; none = none_among old n.added n.legal }

pub no_line : (js : List Line) → NotesNoInstance js js
no_line js = record { added = []; is = sym (append-nil js); none = λ j c h. omega (arith, c.1) }

pub back_alone : (old new : Noted) (n : ℕ) → (new ≡ old) ⊎ (new ≡ record old { lines = old.lines ++ line.Back n ∷ [] }) → NotesNoInstance old.lines new.lines
back_alone old new n (inl q) = subst (NotesNoInstance old.lines) (sym (ap (λ (k : Noted). k.lines) q)) (no_line old.lines)
back_alone old new n (inr q) = record { added = line.Back n ∷ []; is = ap (λ (k : Noted). k.lines) q; none = λ j c h. subst IsInstanceLine (sym (contains_one (line.Back n) j c)) h }
