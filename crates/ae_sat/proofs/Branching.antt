-- What a decision notes and leaves.
use Rattle.std.proofs.Common.{◌≡◌, ℕ, ◌≤◌, List, [], ◌∷◌, ◌++◌, refl, sym, ap, subst, arith, ◌⊎◌, inl, inr}
use Rattle.ae_core.specs.declared.formulas.Lit.{Lit}
use Rattle.ae_journal.specs.Noted.{Noted}
use Rattle.ae_journal.specs.declared.lines.Line.{Line}
use Rattle.ae_journal.specs.declared.lines.Line.TheVariants as line
use Rattle.ae_journal.specs.Journals.{counted_in}
use Rattle.ae_journal.proofs.Counting.{counted_push}
use Rattle.ae_sat.specs.Search.{NotesLegally, Keeps, Progresses}
use Rattle.ae_sat.proofs.Searching.{notes_none, keeps_same}
use Rattle.ae_journal.specs.SolverLines.{MayDecide}
use Rattle.ae_journal.specs.Standing.{Setting}

pub progresses : (old new : Noted) (l : Lit) → new ≡ record old { lines = old.lines ++ line.Decide l ∷ [] } → counted_in new.lines ≤ new.limit → Progresses old new
progresses old new l e h = record {
  limit = ap (λ (n : Noted). n.limit) e;
  more = omega (arith, counted_push old.lines (line.Decide l), ap (λ (n : Noted). counted_in n.lines) e);
  within = h;
}

pub keeps_one : (old new : Noted) (l : Lit) → new ≡ record old { lines = old.lines ++ line.Decide l ∷ [] } → Keeps old new
keeps_one old new l e = record {
  limit = ap (λ (n : Noted). n.limit) e;
  more = omega (arith, counted_push old.lines (line.Decide l), ap (λ (n : Noted). counted_in n.lines) e);
  own = (line.Decide l ∷ [], ap (λ (n : Noted). n.lines) e, (refl, tt));
}

pub keeps_either : (old new : Noted) (l : Lit) → (new ≡ old) ⊎ (new ≡ record old { lines = old.lines ++ line.Decide l ∷ [] }) → Keeps old new
keeps_either old new l (inl e) = subst (Keeps old) (sym e) (keeps_same old)
keeps_either old new l (inr e) = keeps_one old new l e

pub notes_one : (setting : Setting) (bound : ℕ) (js new : List Line) (l : Lit) → MayDecide setting js l → new ≡ js ++ line.Decide l ∷ [] → NotesLegally setting bound js new
notes_one setting bound js new l d e = record { added = line.Decide l ∷ []; is = e; legal = (d, tt) }

pub notes_either : (setting : Setting) (bound : ℕ) (old new : Noted) (l : Lit) → MayDecide setting old.lines l → (new ≡ old) ⊎ (new ≡ record old { lines = old.lines ++ line.Decide l ∷ [] })
    → NotesLegally setting bound old.lines new.lines
notes_either setting bound old new l d (inl e) = subst (λ (w : Noted). NotesLegally setting bound old.lines w.lines) (sym e) (notes_none setting bound old.lines)
notes_either setting bound old new l d (inr e) = notes_one setting bound old.lines new.lines l d (ap (λ (n : Noted). n.lines) e)
