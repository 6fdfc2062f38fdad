-- The sides of rules are multisets of representatives.
use Rattle.std.specs.Prelude.{ℕ, List, ◌≡◌, slice_get, Some}
use Rattle.std.specs.List.{AllByRecursion}
use Rattle.std.proofs.Common.{subst, arith}
use Rattle.std.proofs.lemmas.Option.{slice_get_within}
use Rattle.ae_base.proofs.ListFacts.{value_at as there}
use Rattle.ae_base.proofs.AllOf.{all_both, all_front, all_back}
use Rattle.ae_core.specs.declared.terms.Sort.{Sort}
use Rattle.ae_journal.specs.Values.{meaning}
use Rattle.ae_journal.specs.Systems.{IsRepresentative, IsRuleFit, Represents}
use Rattle.ae_journal.specs.declared.systems.RuleEntry.{RuleEntry}
use Rattle.ae_settled.specs.Held.{Held, entries, system_of, terms_of}
use Rattle.ae_settled.specs.Ruled.{IsOfSort}
use Rattle.ae_settled.specs.Settled.{IsSettled}
use Rattle.ae_settled.proofs.Written.{value_of_written}
use Rattle.ae_settled.proofs.Alike.{has}
use Rattle.ae_settled.proofs.Entries.{entry_of}

module _ (x : Held) (settled : IsSettled x) where
  -- a name that is its own representative is one of its sort
  own_represents : (s : Sort) (n : ℕ) → IsOfSort x.signature (system_of x) s n → x.rep n ≡ n → IsRepresentative x.signature (system_of x) s n
  own_represents s n o own =
      let l = slice_get_within (terms_of x) n o.term o.is in
      let w = there x.values n (omega (arith, l, settled.values.one_each)) in
      let h = has x settled s o.term (meaning w.0) o.sort (n, o.is, value_of_written (system_of x) n w.0 w.1) in
      (meaning w.0, subst (Represents x.signature (system_of x) s (meaning w.0)) own (settled.representatives s (meaning w.0) n h))

  all_represent : (s : Sort) (names : List ℕ) → AllByRecursion (IsOfSort x.signature (system_of x) s) names → AllByRecursion (λ n. x.rep n ≡ n) names → AllByRecursion (IsRepresentative x.signature (system_of x) s) names
  all_represent s names a b = all_both (IsOfSort x.signature (system_of x) s) (λ n. x.rep n ≡ n) (IsRepresentative x.signature (system_of x) s) (λ n o own. own_represents s n o own) names a b

  pub rules_fit : (k : ℕ) (e : RuleEntry) → slice_get (entries x.rules x.next) k ≡ Some e → IsRuleFit x.signature (system_of x) e
  rules_fit k e h =
      let n = entry_of x.rules x.next k e h in
      let r = settled.rules.each n.number e n.there in
      record {
        sort = r.sort;
        symbol = r.symbol;
        ac = r.ac;
        left = all_represent r.sort e.left (all_front (IsOfSort x.signature (system_of x) r.sort) e.left e.right r.names) (settled.swept.left_own n.number e n.there);
        right = all_represent r.sort e.right (all_back (IsOfSort x.signature (system_of x) r.sort) e.left e.right r.names) (settled.swept.right_own n.number e n.there);
        some = r.some;
        two = r.two;
        falls = r.falls;
      }
