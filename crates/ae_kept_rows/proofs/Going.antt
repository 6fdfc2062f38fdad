-- Rows that are gone on with.
use Rattle.std.specs.Prelude.{ℕ, ◌≡◌, ◌≢◌, Bool, List, length, Option, Some, None}
use Rattle.std.proofs.Common.{refl, sym, ap, ◌∙◌, subst}
use Rattle.ae_agreed_rows.specs.Kept.{NoneCombined}
use Rattle.ae_explain.specs.declared.trail.Assigned.{Assigned}
use Rattle.ae_inequalities.specs.Held.{Held, AreOfTags, Fits}
use Rattle.ae_journal.specs.Standing.{Setting}
use Rattle.ae_journal.specs.declared.lines.Line.{Line}
use Rattle.ae_kept_rows.specs.Kept.{AgreeAt, AreKeptAt, StandBeside}
use Rattle.ae_kept_rows.specs.Inner.Going.{GoesOnFrom}
use Rattle.ae_kept_rows.specs.Inner.Going.GoesOnFrom.{same, anew}
use Rattle.ae_kept_rows.specs.declared.kept.KeptRows.{KeptRows}
use Rattle.ae_kept_rows.proofs.Adding.{AreAll, going_on, beginning}
use Rattle.ae_literal_rows.proofs.Telling.{of_no_tags}
use Rattle.ae_literal_rows.specs.Trails.{AreAdded}
use Rattle.ae_sat.specs.Marked.{atoms}
use Rattle.ae_state.specs.Names.{assumed_in}
use Rattle.ae_state.specs.declared.holding.Holding.{Holding}
use Rattle.ae_store.specs.Stores.{Stored}

-- ---- what there is before rows are added
pub fits_so_far : (s : Stored) (t : List Assigned) (lines : ℕ) (kept : Option KeptRows) (now : KeptRows) → AreKeptAt s t lines kept → GoesOnFrom lines kept now → Fits s now.bounds
fits_so_far s t lines kept now right (same k is at e) =
    subst (λ (z : KeptRows). Fits s z.bounds) (sym e) (subst (AreKeptAt s t lines) is right at).fits
fits_so_far s t lines kept now right (anew none empty fits zero) = fits s

pub tags_so_far : (o : Holding) (s : Stored) (t : List Assigned) (lines : ℕ) (kept : Option KeptRows) (now : KeptRows) → assumed_in o ≡ atoms t → AreKeptAt s t lines kept → GoesOnFrom lines kept now
    → AreOfTags (assumed_in o) now.bounds
tags_so_far o s t lines kept now told right (same k is at e) =
    subst (λ (ts : _). AreOfTags ts now.bounds) (sym told) (subst (λ (z : KeptRows). AreOfTags (atoms t) z.bounds) (sym e) (subst (AreKeptAt s t lines) is right at).tags)
tags_so_far o s t lines kept now told right (anew none empty fits zero) = of_no_tags o now.bounds empty

pub even_so_far : (s : Stored) (t : List Assigned) (lines : ℕ) (kept : Option KeptRows) (now : KeptRows) → AreKeptAt s t lines kept → GoesOnFrom lines kept now → length now.bounds.tags ≡ length now.bounds.given
even_so_far s t lines kept now right (same k is at e) =
    subst (λ (z : KeptRows). length z.bounds.tags ≡ length z.bounds.given) (sym e) (subst (AreKeptAt s t lines) is right at).even
even_so_far s t lines kept now right (anew none empty fits zero) = ap (λ (b : Held). length b.tags) empty ∙ sym (ap (λ (b : Held). length b.given) empty)

-- ---- beside a journal with so many lines
none_combined : (x : Setting) (js : List Line) (t : List Assigned) (kept : Option KeptRows) → AgreeAt x js t kept → ((k : KeptRows) → kept ≡ Some k → k.lines ≢ length js) → NoneCombined js
none_combined x js t None agree none = agree
none_combined x js t (Some k) agree none = agree.1 (none k refl)

pub all_agree : (x : Setting) (js : List Line) (s : Stored) (o : Holding) (t : List Assigned) (marks : List Bool) (lines : ℕ) (kept : Option KeptRows) (now : KeptRows) (new : Held) → length js ≡ lines
    → StandBeside x js s o t marks kept → GoesOnFrom lines kept now → AreAdded s o t marks now.literals (length t) now.bounds new → AreAll x js t new.rows
all_agree x js s o t marks lines kept now new long b (same k is at e) added =
    let agree = subst (AgreeAt x js t) is b.agree in
    going_on x js s o t marks b.beside b.marked b.stand k new (agree.0 (at ∙ sym long)) (subst (λ (z : KeptRows). AreAdded s o t marks z.literals (length t) z.bounds new) e added)
all_agree x js s o t marks lines kept now new long b (anew none empty fits zero) added =
    beginning x js s o t marks b.beside b.marked b.stand now.bounds new empty (none_combined x js t kept b.agree (λ k is at. none k is (at ∙ long)))
    (subst (λ (n : ℕ). AreAdded s o t marks n (length t) now.bounds new) zero added)
