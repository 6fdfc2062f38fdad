-- Where rules and equations come from. `ts` are terms, each at its name, and `js` are lines that stand in a journal.
use Rattle.std.specs.Prelude.{ℕ, List, [], ◌∷◌, ◌++◌, ◌≡◌, ◌⊎◌, slice_get, Option, Some}
use Rattle.std.specs.List.{Contains}
use Rattle.ae_core.specs.declared.terms.Term.{Term, Apply}
use Rattle.ae_core.specs.declared.problems.Signature.{Signature}
use Rattle.ae_core.specs.declared.problems.AcSymbol.{AcSymbol}
use Rattle.ae_multiset.specs.Rewriting.{overlap_first, overlap_second}
use Rattle.ae_descents.specs.Descents.{Descends}
use Rattle.ae_journal.specs.Systems.{IsJoin}
use Rattle.ae_journal.specs.Journals.{live}
use Rattle.ae_journal.specs.TermValues.{IsLeast}
use Rattle.ae_journal.specs.RuleLines.{WasNoted}
use Rattle.ae_journal.specs.declared.systems.RuleEntry.{RuleEntry}
use Rattle.ae_journal.specs.declared.lines.Oriented.TheVariants as oriented
use Rattle.ae_journal.specs.declared.lines.Line.{Line}
use Rattle.ae_journal.specs.declared.lines.Line.TheVariants as line
use Rattle.ae_settled.specs.Held.{HasRule}

-- r is the representative of name n by the lines, or was it by the first of them
abbrev pub HadRepresentative : Signature → List Term → List Line → ℕ → ℕ → Type 0
HadRepresentative sig ts js n r = (before : List Line) × (after : List Line) × (js ≡ before ++ after) × IsLeast sig ts before n r

-- b descends from a by representatives that names have or had, and by rules that were noted, dropped since or not
abbrev pub DescendsIn : Signature → List Term → List Line → AcSymbol → List ℕ → List ℕ → Type 0
DescendsIn sig ts js u = Descends (HadRepresentative sig ts js) (WasNoted js u)

-- b descends from a by the representatives `rep` and by the rules
abbrev pub DescendsBy : (ℕ → ℕ) → (ℕ → Option RuleEntry) → AcSymbol → List ℕ → List ℕ → Type 0
DescendsBy rep rules u = Descends (λ n r. rep n ≡ r) (HasRule rules u)

-- each name stands for itself, or has or had the representative by the lines
abbrev pub AreOfLines : Signature → List Term → List Line → (ℕ → ℕ) → Type 0
AreOfLines sig ts js rep = (n : ℕ) → (rep n ≡ n) ⊎ HadRepresentative sig ts js n (rep n)

-- a source: the two arguments of a name that applies the symbol, against that name; the two results of Deduce of a pair; the two sides of a dropped rule
pub data IsSourceOf (sig : Signature) (ts : List Term) (js : List Line) (u : AcSymbol) : List ℕ → List ℕ → Type 0 where
  of_name : (n i j : ℕ) (a b : Term) → slice_get ts n ≡ Some (Apply u.head u.sorts (a ∷ b ∷ [])) → IsJoin sig u.head a b → slice_get ts i ≡ Some a → slice_get ts j ≡ Some b
      → IsSourceOf sig ts js u (i ∷ j ∷ []) (n ∷ [])
  of_pair : (l m q r : List ℕ) → Contains (live js) (line.Pair u l m) → WasNoted js u l q → WasNoted js u m r → IsSourceOf sig ts js u (overlap_first l q m) (overlap_second l m r)
  of_drop : (l d r : List ℕ) → Contains (live js) (line.Drop (oriented.Rule u l d)) → WasNoted js u l r → IsSourceOf sig ts js u l r
