-- A legal journal of a lawful problem whose numerals are in lowest terms can be written.
use Rattle.std.specs.Prelude.{ℕ, ◌≡◌, slice_get, Some}
use Rattle.std.specs.List.{AllByRecursion, flat_map}
use Rattle.ae_base.proofs.AllOf.{all_append, all_from_places, all_weaker}
use Rattle.ae_core.specs.Signatures.{IsLawfulProblem}
use Rattle.ae_core.specs.declared.problems.Problem.{Problem}
use Rattle.ae_core.specs.declared.terms.Term.{Term}
use Rattle.ae_journal.specs.Legal.{IsLegalJournal, setting}
use Rattle.ae_journal.specs.Standing.{Setting}
use Rattle.ae_journal.specs.declared.lines.Line.{Line}
use Rattle.ae_journal.specs.declared.lines.Line.TheVariants as line
use Rattle.ae_journal.specs.declared.lines.Oriented.TheVariants as oriented
use Rattle.ae_journal.specs.declared.lines.Story.{Story}
use Rattle.ae_legal_stories.specs.Writable.{IsSortedName}
use Rattle.ae_legal_texts.proofs.Heads.{all_flat}
use Rattle.ae_legal_texts.specs.Numbers.{formula_numbers, literal_numbers, term_numbers}
use Rattle.ae_numerals_kept.specs.Lowest.{IsLowestTerm}
use Rattle.ae_writable.specs.Numbers.{HasLowestNumerals, IsValueWithin}
use Rattle.ae_writable.specs.Writable.{IsWritableLine, IsWritableStory}
use Rattle.ae_writable_journals.proofs.Fit.{IsFit}
use Rattle.ae_writable_journals.proofs.Lines.{legal_fit}
use Rattle.ae_writable_journals.proofs.Names.{name_fit}

fit_writable : (x : Setting) (j : Line) → IsFit x j → IsWritableLine j
fit_writable x (line.Decide l) h = h
fit_writable x (line.Orient (oriented.Named n v)) h = tt
fit_writable x (line.Orient (oriented.Rule u l r)) h = h
fit_writable x (line.Drop (oriented.Named n v)) h = tt
fit_writable x (line.Drop (oriented.Rule u l r)) h = h
fit_writable x (line.Pair u l m) h = h
fit_writable x (line.Learn c) h = all_flat IsValueWithin literal_numbers c h
fit_writable x (line.TypeInstance k ss) h = tt
fit_writable x (line.TermInstance f ts) h = all_append IsValueWithin (formula_numbers f) (flat_map term_numbers ts) h.0 (all_flat IsValueWithin term_numbers ts h.1)
fit_writable x (line.Combine strict f) h = tt
fit_writable x (line.Back n) h = tt

pub journals_are_writable : (p : Problem) (g bound : ℕ) (s : Story) → IsLawfulProblem p → HasLowestNumerals p → IsLegalJournal p g bound s → IsWritableStory p.signature s
journals_are_writable p g bound s lawful lowest legal = record {
  sorted = all_from_places (IsSortedName p.signature) s.names (λ k t e. (named k t e).1);
  names = all_flat IsValueWithin term_numbers s.names (all_from_places IsLowestTerm s.names (λ k t e. (named k t e).0));
  lines = all_weaker (IsFit (setting p g s legal.fresh)) IsWritableLine (fit_writable (setting p g s legal.fresh)) s.lines fit;
}
  where
    fit : AllByRecursion (IsFit (setting p g s legal.fresh)) s.lines
    fit = legal_fit (setting p g s legal.fresh) bound lawful lowest legal.apart s.lines legal.lines

    named : (k : ℕ) (t : Term) → slice_get s.names k ≡ Some t → IsLowestTerm t × IsSortedName p.signature t
    named k t e = name_fit (setting p g s legal.fresh) bound lawful lowest legal.apart s.lines legal.lines fit t (legal.entered k t e)
