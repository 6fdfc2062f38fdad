-- How many lines may be noted where no AC symbol is applied: one for each name that is left to solve.
use Rattle.std.specs.Prelude.{ℕ, ◌+◌, ◌<◌, ◌≤◌, List, [], ◌∷◌, ◌≡◌, slice_get, Some, None, Result, Err, OnOk}
use Rattle.std.specs.List.{Contains}
use Rattle.ae_core.specs.Sorts.{sort_of}
use Rattle.ae_core.specs.declared.terms.Head.{Head}
use Rattle.ae_core.specs.declared.terms.Sort.{Sort}
use Rattle.ae_core.specs.declared.terms.Term.{Term, Apply}
use Rattle.ae_journal.specs.Journals.{counted_in}
use Rattle.ae_journal.specs.Systems.{IsJoin}
use Rattle.ae_journal.specs.declared.lines.Line.{Line}
use Rattle.ae_store.specs.Stores.{Stored}
use Rattle.ae_settled.specs.Valued.{IsOwnNumber, IsOwnLeaf}
use Rattle.ae_monoid.specs.Reductions.{AreAtMost}
use Rattle.ae_monoid.specs.Rules.{rule_at}
use Rattle.ae_equations.specs.Held.{Contents as Equations}
use Rattle.ae_equations.specs.Queued.{waiting}
use Rattle.ae_theory.specs.Names.{terms_in}
use Rattle.ae_theory.specs.declared.theory.Fail.{Fail}
use Rattle.ae_theory.specs.declared.theory.Fail.TheVariants.{Steps as OutOfSteps}
use Rattle.ae_value_table.specs.Table.{Contents}
use Rattle.ae_value_fitting.specs.Fitting.{system_in}
use Rattle.ae_state.specs.declared.holding.Holding.{Holding}

-- ---- names that are left to solve
-- a name of a well-sorted term, so of no predicate's application
pub record HasSort (s : Stored) (n : ℕ) : Type 0 where
  pub term : Term
  pub is : slice_get (terms_in s) n ≡ Some term
  pub sort : Sort
  pub sorted : sort_of s.signature term ≡ Some sort

-- a name that is its own value, a number or of another sort; no record is
pub data IsLeaf (s : Stored) (c : Contents) (n : ℕ) : Type 0 where
  own_number : (sort : Sort) → IsOwnNumber s.signature (system_in (terms_in s) c) sort n → IsLeaf s c n
  own_leaf : (sort : Sort) → IsOwnLeaf s.signature (system_in (terms_in s) c) sort n → IsLeaf s c n

-- so is it, or it has no value yet
pub data IsUnsolved (s : Stored) (c : Contents) (n : ℕ) : Type 0 where
  a_leaf : IsLeaf s c n → IsUnsolved s c n
  a_new_name : c.taken ≤ n → HasSort s n → IsUnsolved s c n

-- ---- what may be noted
-- no term of the store applies an AC symbol; a product does where neither factor is constant
abbrev pub HasNoJoins : Stored → Type 0
HasNoJoins s = (h : Head) (ss : List Sort) (a b : Term) → Contains (terms_in s) (Apply h ss (a ∷ b ∷ [])) → ¬ IsJoin s.signature h a b

-- no AC symbol is applied, no rule is held and no equation waits, and at most n names are left to solve
pub record HasLeft (s : Stored) (c : Contents) (e : Equations) (n : ℕ) : Type 0 where
  pub no_joins : HasNoJoins s
  pub no_rules : (k : ℕ) → rule_at e.rules k ≡ None
  pub none_waits : waiting e.queue ≡ []
  pub unsolved : AreAtMost n (IsUnsolved s c)

-- then at most n more lines are noted
abbrev pub MayNote : Holding → Stored → ℕ → Type 0
MayNote o s n = HasLeft s o.values o.equations n

-- ---- what steps note, each from `o` and the lines `before` to `p` and the lines `after`
-- each line that was noted is one less of those that may be
abbrev pub Spends : Stored → Holding → List Line → Holding → List Line → Type 0
Spends s o before p after = (n : ℕ) → MayNote o s n → (m : ℕ) × MayNote p s m × (counted_in after + m ≤ counted_in before + n)

-- no more lines were noted than may be; without a refusal each is one less of those; where one more was asked for, fewer were noted
pub record KeepsWithin (T : Type 0) (s : Stored) (o : Holding) (before : List Line) (result : Result T Fail) (p : Holding) (after : List Line) : Type 0 where
  pub most : (n : ℕ) → MayNote o s n → counted_in after ≤ counted_in before + n
  pub left : OnOk result (Spends s o before p after)
  pub fewer : result ≡ Err OutOfSteps → (n : ℕ) → MayNote o s n → counted_in after < counted_in before + n
