-- What a theory notes, and what it explains.
use Rattle.std.specs.Prelude.{ℕ, Bool, true, false, List, [], ◌∷◌, ◌++◌, ◌≡◌, map}
use Rattle.std.specs.List.{Contains, AllByRecursion}
use Rattle.ae_core.specs.declared.formulas.Lit.{Lit}
use Rattle.ae_journal.specs.Noted.{Noted}
use Rattle.ae_journal.specs.Standing.{Setting, MayStand}
use Rattle.ae_journal.specs.Legal.{AreLegal}
use Rattle.ae_journal.specs.declared.lines.Line.{Line}
use Rattle.ae_journal.specs.declared.lines.Line.TheVariants as line
use Rattle.ae_theory.specs.Tagged.{Tagged}

abbrev pub literals : List Tagged → List Lit
literals ts = map (λ t. t.lit) ts

-- ---- lines
-- a line of a theory
abbrev pub is_theory_line : Line → Bool
is_theory_line (line.Orient o) = true
is_theory_line (line.Drop o) = true
is_theory_line (line.Pair u l m) = true
is_theory_line _ = false

-- a line that leaves values, rules and pairs as they are, and undoes nothing
abbrev pub is_silent : Line → Bool
is_silent (line.Decide l) = true
is_silent (line.Learn c) = true
is_silent (line.TypeInstance k ss) = true
is_silent (line.TermInstance f ts) = true
is_silent (line.Combine strict f) = true
is_silent _ = false

-- only lines of a theory were noted
pub record HasNoted (old new : Noted) : Type 0 where
  pub added : List Line
  pub is : new.lines ≡ old.lines ++ added
  pub limit : new.limit ≡ old.limit
  pub theory : AllByRecursion (λ j. is_theory_line j ≡ true) added

-- each line that was noted is legal after the lines before it
abbrev pub NotesLegal : Setting → ℕ → List Line → List Line → Type 0
NotesLegal x bound old new = (added : List Line) → new ≡ old ++ added → AreLegal x bound old added

-- each of the literals may stand
abbrev pub MayAll : Setting → List Lit → List Line → Type 0
MayAll x ls js = (l : Lit) → Contains ls l → MayStand x js l

-- ---- explanations
-- each hypothesis is the literal of the tag at its place
abbrev pub IsBlockOf : List Tagged → List Lit → List ℕ → Type 0
IsBlockOf assumed [] [] = Unit {0}
IsBlockOf assumed (l ∷ ls) (k ∷ ks) = Contains assumed (record { lit = l; tag = k }) × IsBlockOf assumed ls ks
IsBlockOf assumed _ _ = ⊥
