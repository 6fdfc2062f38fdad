-- Each rule that is held can be written.
use Rattle.std.specs.Prelude.{ℕ, true, List, [], ◌∷◌, ◌++◌, ◌≡◌, Option, Some, None}
use Rattle.std.specs.List.{AllByRecursion, list_all}
use Rattle.std.proofs.Common.{refl, subst}
use Rattle.std.proofs.lemmas.Option.{none-some, same_Some}
use Rattle.ae_base.proofs.AllOf.{all_both}
use Rattle.ae_core.specs.Sorts.{is_closed_sort}
use Rattle.ae_core.specs.declared.problems.Signature.{Signature}
use Rattle.ae_core.specs.declared.terms.Term.{Term}
use Rattle.ae_journal.specs.declared.systems.RuleEntry.{RuleEntry}
use Rattle.ae_legal_states.specs.Writable.{SortsFor}
use Rattle.ae_legal_stories.proofs.Symbols.{sorts_for}
use Rattle.ae_monoid.specs.Rules.{rule_at}
use Rattle.ae_monoid.specs.declared.rules.Kept.{Kept}
use Rattle.ae_multiset_steps.specs.Equating.{AreNamesOf}
use Rattle.ae_state.specs.declared.holding.Holding.{Holding}
use Rattle.ae_state.specs.Names.{IsWrittenRising, terms_now, rules_now, system_now}
use Rattle.ae_state.specs.Right.{IsRight}
use Rattle.ae_state.proofs.Shown.{entries_all}
use Rattle.ae_sweeps.specs.Given.{entry_of}
use Rattle.ae_writable.specs.Writable.{IsWritableRule}

-- the symbol of the rule has the sorts that it takes, which are closed
record HasClosedSorts (sig : Signature) (e : RuleEntry) : Type 0 where
  pub sorts : SortsFor sig e.symbol.head e.symbol.sorts
  pub closed : list_all (is_closed_sort sig) e.symbol.sorts ≡ true

of_names : (sig : Signature) (ts : List Term) (e : RuleEntry) (names : List ℕ) → AreNamesOf sig ts e.symbol names → HasClosedSorts sig e
of_names sig ts e names n =
    let u = n.symbol in
    record { sorts = sorts_for sig e.symbol.head e.symbol.sorts (n.sort ∷ n.sort ∷ []) n.sort u.ac u.headed; closed = u.closed }

written : (sig : Signature) (e : RuleEntry) → HasClosedSorts sig e → IsWrittenRising e → IsWritableRule sig e
written sig e s r = record { sorts = s.sorts; closed = s.closed; left = r.0; right = r.1 }

pub rules_writable : (o : Holding) → IsRight o → AllByRecursion IsWrittenRising (system_now o).rules → AllByRecursion (IsWritableRule o.signature) (system_now o).rules
rules_writable o right rise =
    all_both (HasClosedSorts o.signature) IsWrittenRising (IsWritableRule o.signature) (written o.signature) (system_now o).rules
    (entries_all (HasClosedSorts o.signature) (rules_now o) (λ n e at. of_kept n e (rule_at o.equations.rules n) refl at) o.equations.rules.next) rise
  where
    of_kept : (n : ℕ) (e : RuleEntry) (k : Option Kept) → rule_at o.equations.rules n ≡ k → entry_of k ≡ Some e → HasClosedSorts o.signature e
    of_kept n e None at q = absurd (none-some e q)
    of_kept n e (Some k) at q =
        subst (HasClosedSorts o.signature) (same_Some k.entry e q)
        (of_names o.signature (terms_now o) k.entry (k.entry.left ++ k.entry.right) (((right.ruled).rules).each n k at).names)
