-- The rules of the system that a state shows, and their numbers.
use Rattle.std.specs.Prelude.{ℕ, zero, suc, ◌<◌, List, ◌++◌, ◌≡◌, length, slice_get, Option, Some, None}
use Rattle.std.proofs.lemmas.Bool.{cases_eq}
use Rattle.std.proofs.Common.{refl, sym, ap, ◌∙◌, arith, inl, inr}
use Rattle.std.proofs.lemmas.Option.{none-some}
use Rattle.std.proofs.lemmas.List.{append-nil}
use Rattle.ae_core.specs.declared.terms.Sort.{Sort}
use Rattle.ae_core.specs.declared.terms.Head.{Head}
use Rattle.ae_multiset.specs.Rewriting.{ReducesTo, Joins}
use Rattle.ae_multiset.specs.Rewriting.ReducesTo.{done, more}
use Rattle.ae_journal.specs.Systems.{IsRule}
use Rattle.ae_journal.specs.declared.systems.RuleEntry.{RuleEntry}
use Rattle.ae_store.proofs.Gets.{get_last, get_pushed}
use Rattle.ae_base.proofs.ListFacts.{get_append}
use Rattle.ae_settled.specs.Held.{Held, HasRule, entries, entry_in, system_of}

-- an entry in a place is the rule of a number, which tells the place
pub record IsEntryOf (rules : ℕ → Option RuleEntry) (k : ℕ) (e : RuleEntry) : Type 0 where
  pub number : ℕ
  pub there : rules number ≡ Some e
  pub place : k ≡ length (entries rules number)

by_last : (rules : ℕ → Option RuleEntry) (m k : ℕ) (e : RuleEntry) (o : Option RuleEntry) → rules m ≡ o → (slice_get (entries rules m) k ≡ Some e → IsEntryOf rules k e)
    → slice_get (entries rules m ++ entry_in o) k ≡ Some e → IsEntryOf rules k e
by_last rules m k e None q f h = f (ap (λ (l : List RuleEntry). slice_get l k) (sym (append-nil (entries rules m))) ∙ h)
by_last rules m k e (Some d) q f h =
    elim (get_pushed (entries rules m) d k e h) [ inl i ↦ f i | inr i ↦ record { number = m; there = q ∙ ap (λ z. Some z) i.1; place = i.0 } ]

pub entry_of : (rules : ℕ → Option RuleEntry) (next k : ℕ) (e : RuleEntry) → slice_get (entries rules next) k ≡ Some e → IsEntryOf rules k e
entry_of rules zero k e h = absurd (none-some e h)
entry_of rules (suc m) k e h = by_last rules m k e (rules m) refl (λ i. entry_of rules m k e i) h

-- each rule has an entry
entry_last : (rules : ℕ → Option RuleEntry) (m : ℕ) (e : RuleEntry) (o : Option RuleEntry) → rules m ≡ o → rules m ≡ Some e → slice_get (entries rules m ++ entry_in o) (length (entries rules m)) ≡ Some e
entry_last rules m e None q h = absurd (none-some e (sym q ∙ h))
entry_last rules m e (Some d) q h = get_last (entries rules m) d ∙ sym q ∙ h

pub entry_there : (rules : ℕ → Option RuleEntry) (next n : ℕ) (e : RuleEntry) → rules n ≡ Some e → n < next → (k : ℕ) × (slice_get (entries rules next) k ≡ Some e)
entry_there rules zero n e h l = absurd (omega (arith, l))
entry_there rules (suc m) n e h l =
    elim (cases_eq n m) [
      | inl i ↦ (length (entries rules m), entry_last rules m e (rules m) refl (ap rules (sym i) ∙ h))
      | inr d ↦ let r = entry_there rules m n e h (omega (arith, l, d)) in (r.0, get_append (entries rules m) (entry_in (rules m)) r.0 e r.1)
    ]

-- ---- a rule of the system is one of the rules
pub to_rule : (x : Held) (h : Head) (ss : List Sort) (l r : List ℕ) → IsRule (system_of x) h ss l r → HasRule x.rules (record { head = h; sorts = ss }) l r
to_rule x h ss l r i = let e = entry_of x.rules x.next i.0 (record { symbol = record { head = h; sorts = ss }; left = l; right = r }) i.1 in record { number = e.number; there = e.there }

pub from_rule : (x : Held) → ((n : ℕ) (e : RuleEntry) → x.rules n ≡ Some e → n < x.next) → (h : Head) (ss : List Sort) (l r : List ℕ) → HasRule x.rules (record { head = h; sorts = ss }) l r → IsRule (system_of x) h ss l r
from_rule x below h ss l r i = entry_there x.rules x.next i.number (record { symbol = record { head = h; sorts = ss }; left = l; right = r }) i.there (below i.number (record { symbol = record { head = h; sorts = ss }; left = l; right = r }) i.there)

-- ---- reduction by more rules
module _ (R S : List ℕ → List ℕ → Type 0) (to : (l r : List ℕ) → R l r → S l r) where
  pub follows_by : {a b : List ℕ} → ReducesTo R a b → ReducesTo S a b
  follows_by (done p) = done p
  follows_by (more s f) = more (record { left = s.left; right = s.right; rule = to s.left s.right s.rule; rest = s.rest; before = s.before; after = s.after }) (follows_by f)

  pub joins_by : (a b : List ℕ) → Joins R a b → Joins S a b
  joins_by a b j = record { at = j.at; first = follows_by j.first; second = follows_by j.second }
