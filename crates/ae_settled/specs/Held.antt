-- What a state holds of the names of a store: a value and a representative of each, and rules.
use Rattle.std.specs.Prelude.{ℕ, zero, suc, List, [], ◌∷◌, ◌++◌, ◌≡◌, Option, Some, None}
use Rattle.ae_core.specs.declared.terms.Term.{Term}
use Rattle.ae_core.specs.declared.problems.Signature.{Signature}
use Rattle.ae_core.specs.declared.problems.AcSymbol.{AcSymbol}
use Rattle.ae_num.specs.declared.forms.Value.{Value}
use Rattle.ae_journal.specs.declared.systems.RuleEntry.{RuleEntry}
use Rattle.ae_journal.specs.declared.systems.System.{System}
use Rattle.ae_store.specs.Shapes.{shapes}
use Rattle.ae_store.specs.Terms.{terms}
use Rattle.ae_store.specs.declared.nodes.Node.{Node}

pub record Held : Type 0 where
  pub signature : Signature
  -- the names with their terms
  pub nodes : List Node
  -- a value for each
  pub values : List Value
  -- the representative of each
  pub rep : ℕ → ℕ
  -- the rules by their numbers, which are below `next`
  pub rules : ℕ → Option RuleEntry
  pub next : ℕ

-- the terms of the names
abbrev pub terms_of : Held → List Term
terms_of x = terms (shapes x.nodes)

-- the rules of numbers below n, in the order of their numbers
abbrev pub entry_in : Option RuleEntry → List RuleEntry
entry_in None = []
entry_in (Some e) = e ∷ []

abbrev pub entries : (ℕ → Option RuleEntry) → ℕ → List RuleEntry
entries rules zero = []
entries rules (suc n) = entries rules n ++ entry_in (rules n)

-- the system that it shows
abbrev pub system_of : Held → System
system_of x = record { names = terms_of x; values = x.values; rules = entries x.rules x.next }

-- a rule of the symbol has these sides
pub record HasRule (rules : ℕ → Option RuleEntry) (u : AcSymbol) (l r : List ℕ) : Type 0 where
  pub number : ℕ
  pub there : rules number ≡ Some (record { symbol = u; left = l; right = r })
