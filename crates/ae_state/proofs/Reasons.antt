-- The steps that a holding rests on.
use Rattle.std.specs.Prelude.{ℕ, ◌<◌, List, ◌≡◌, length, Some}
use Rattle.std.specs.List.{Contains, AllByRecursion}
use Rattle.std.proofs.Common.{sym, ap, ◌∙◌, subst}
use Rattle.std.proofs.lemmas.Option.{slice_get_within}
use Rattle.ae_core.specs.declared.terms.Term.{Term}
use Rattle.ae_core.specs.declared.problems.Signature.{Signature}
use Rattle.ae_linear.specs.declared.rows.Row.{Row}
use Rattle.ae_pmap.specs.Pairs.{found}
use Rattle.ae_journal.proofs.Splits.{all_contained}
use Rattle.ae_just.specs.declared.steps.Step.{Step}
use Rattle.ae_equations.specs.declared.queue.Waiting.{Waiting}
use Rattle.ae_equations.specs.Held.{Contents as Equations}
use Rattle.ae_equations.specs.Queued.{waiting}
use Rattle.ae_equations.specs.Versions.{IsAs as EquationsAs}
use Rattle.ae_equation_turns.specs.Said.{IsWaitingSaid, IsHeld}
use Rattle.ae_value_table.specs.Table.{Contents as Values, just_at}
use Rattle.ae_value_table.specs.Versions.{IsAs as ValuesAs}
use Rattle.ae_value_fitting.specs.Fitting.{AreSaid, IsNumberSaid, IsLeafSaid}
use Rattle.ae_value_fitting.specs.Sources.{IsPutFor, by_number, by_leaf, SaysValue}
use Rattle.ae_value_fitting.proofs.Resting.{says_within}
use Rattle.ae_state.specs.declared.holding.Holding.{Holding}
use Rattle.ae_state.specs.Names.{terms_now}
use Rattle.ae_state.specs.Right.{IsReason, of_value, of_rule, of_equation, IsRight}

-- ---- the same values, rules and equations have the same
module _ (c then : Values) (alike : ValuesAs c then) where
  same_just : (n id : ℕ) → just_at c n ≡ Some id → just_at then n ≡ Some id
  same_just n id e = ap (λ ps. found ps n) (sym alike.justs) ∙ e

  put_before : (n : ℕ) → IsPutFor c n → IsPutFor then n
  put_before n (by_number row e) = by_number row (sym (alike.rows n) ∙ e)
  put_before n (by_leaf m e) = by_leaf m (ap (λ ps. found ps n) (sym alike.leaves) ∙ e)

  pub says_before : (id : ℕ) → SaysValue c id → SaysValue then id
  says_before id s = record { name = s.name; put = put_before s.name s.put; just = same_just s.name id s.just }

  module _ (sig : Signature) (ts : List Term) (steps : List Step) where
    number_as : (n : ℕ) (row : Row) → IsNumberSaid sig ts steps then n row → IsNumberSaid sig ts steps c n row
    number_as n row a = record { real = a.real; step = a.step; just = ap (λ ps. found ps n) alike.justs ∙ a.just; stated = a.stated }

    leaf_as : (n m : ℕ) → IsLeafSaid sig ts steps then n m → IsLeafSaid sig ts steps c n m
    leaf_as n m a = record { sort = a.sort; sorted = a.sorted; other = a.other; step = a.step; just = ap (λ ps. found ps n) alike.justs ∙ a.just; equal = a.equal }

    pub said_as : AreSaid sig ts steps then → AreSaid sig ts steps c
    said_as a =
        record {
          numbers = λ n row e. number_as n row (a.numbers n row (sym (alike.rows n) ∙ e));
          leaves = λ n m e. leaf_as n m (a.leaves n m (ap (λ ps. found ps n) (sym alike.leaves) ∙ e));
        }

module _ (c then : Equations) (alike : EquationsAs c then) (sig : Signature) (ts : List Term) (steps : List Step) where
  pub held_as : IsHeld sig ts steps then → IsHeld sig ts steps c
  held_as a =
      record {
        rules = record { each = λ n rule e. (a.rules).each n rule (sym (alike.rules n) ∙ e) };
        waiting = subst (λ (ws : List Waiting). AllByRecursion (IsWaitingSaid sig ts steps) ws) (sym alike.waiting) a.waiting;
      }

module _ (o then : Holding) (values : ValuesAs o.values then.values) (equations : EquationsAs o.equations then.equations) where
  pub reason_before : (id : ℕ) → IsReason o id → IsReason then id
  reason_before id (of_value s) = of_value (says_before o.values then.values values id s)
  reason_before id (of_rule n rule e j) = of_rule n rule (sym (equations.rules n) ∙ e) j
  reason_before id (of_equation w e j) = of_equation w (subst (λ (ws : List Waiting). Contains ws w) equations.waiting e) j

module _ (o : Holding) (right : IsRight o) where
  pub reason_within : (id : ℕ) → IsReason o id → id < length o.justs
  reason_within id (of_value s) = says_within o.signature (terms_now o) o.justs o.values right.said id s
  reason_within id (of_rule n rule e j) =
      subst (λ (k : ℕ). k < length o.justs) j (slice_get_within o.justs rule.just _ ((((right.ruled).rules).each n rule e).states).there)
  reason_within id (of_equation w e j) =
      subst (λ (k : ℕ). k < length o.justs) j (slice_get_within o.justs w.step _ ((all_contained (IsWaitingSaid o.signature _ o.justs) (waiting (o.equations).queue) w (right.ruled).waiting e).states).there)
