-- When `Orient` of a name, `Decide` and `Learn` may come.
use Rattle.std.specs.Prelude.{ℕ, ◌<◌, List, [], ◌∷◌, ◌++◌, ◌≡◌, ◌≢◌, Some}
use Rattle.std.specs.List.{AllByRecursion, Contains}
use Rattle.ae_math.specs.Fractions.{zero_ℚ}
use Rattle.ae_rules.specs.Clauses.{Clause, opposite}
use Rattle.ae_rules.specs.Derivations.{conclusion, AreAllowed}
use Rattle.ae_core.specs.declared.terms.Term.{Term}
use Rattle.ae_core.specs.declared.formulas.Lit.{Lit}
use Rattle.ae_core.specs.declared.proofs.ClauseLine.{ClauseLine}
use Rattle.ae_core.specs.declared.proofs.ClauseLine.TheVariants as clause_line
use Rattle.ae_num.specs.declared.forms.Value.{Value}
use Rattle.ae_journal.specs.Values.{Val, Sum, number, leaf, leaf_factor, minus_val, sum_in, meaning, constant_val}
use Rattle.ae_journal.specs.Systems.{IsNormalValue}
use Rattle.ae_journal.specs.Journals.{MayLearnAgain}
use Rattle.ae_journal.specs.TermValues.{put_leaf, IsLargest}
use Rattle.ae_journal.specs.Standing.{Setting, IsGiven, IsEntered, IsPossible, MayStand, SurelyStands, MayFollow, value_now}
use Rattle.ae_journal.specs.declared.lines.Line.{Line}

module _ (x : Setting) where
  -- two values that differ are made equal: of two numbers the largest name in their difference gets the value at which the difference is zero, of two leaves the larger one gets the smaller
  pub data Solves : ℕ → Val → Val → Val → Type 0 where
    a_number : (n : ℕ) (f : Sum) (v w : Val) → IsLargest x.names n (sum_in (minus_val v w)) → leaf_factor f.parts n ≡ zero_ℚ → put_leaf n (number f) (minus_val v w) ≡ constant_val zero_ℚ → Solves n (number f) v w
    a_leaf : (m n : ℕ) → m < n → Solves n (leaf m) (leaf m) (leaf n)
    other_leaf : (m n : ℕ) → m < n → Solves n (leaf m) (leaf n) (leaf m)

  -- an `Orient` line of a name solves two names whose values differ and whose equation follows from those that may stand
  pub record MayOrientName (js : List Line) (n : ℕ) (v : Value) : Type 0 where
    pub left : Term
    pub right : Term
    pub entered : IsEntered x js left × IsEntered x js right
    pub differ : value_now x js left ≢ value_now x js right
    pub follows : MayFollow x js left right
    pub normal : IsNormalValue v
    pub solves : Solves n (meaning v) (value_now x js left) (value_now x js right)

  -- a `Decide` line takes a literal of which neither it nor its opposite surely stands, from a possible clause of which no literal surely stands
  pub record MayDecide (js : List Line) (l : Lit) : Type 0 where
    pub open_still : ¬ SurelyStands x js l
    pub open_other : ¬ SurelyStands x js (opposite l)
    pub clause : Clause
    pub possible : IsPossible x js clause
    pub of_it : Contains clause l
    pub unmet : (m : Lit) → Contains clause m → ¬ SurelyStands x js m

  -- a line of a derivation of what is learnt: a block, unit propagation, or a line that states a possible clause
  abbrev pub IsSourceLine : List Line → ClauseLine → Type 0
  IsSourceLine js (clause_line.Block b) = Unit {0}
  IsSourceLine js (clause_line.Rup c ks) = Unit {0}
  IsSourceLine js k = (c : Clause) × (conclusion x.problem x.goal k ≡ Some c) × IsPossible x js c

  -- a `Learn` line has a clause that isn't empty and that such lines derive. The opposite of each of its literals may stand, and no given clause is a part of it.
  pub record MayLearn (js : List Line) (c : Clause) : Type 0 where
    pub some : c ≢ []
    pub before : List ClauseLine
    pub last : ClauseLine
    pub allowed : AreAllowed x.problem x.goal [] (before ++ last ∷ [])
    pub from : AllByRecursion (IsSourceLine js) (before ++ last ∷ [])
    pub states : conclusion x.problem x.goal last ≡ Some c
    pub fails : (l : Lit) → Contains c l → MayStand x js (opposite l)
    pub new : (d : Clause) → IsGiven x js d → ¬ ((m : Lit) → Contains d m → Contains c m)
    pub again : MayLearnAgain js
