-- One instance that is owed: owners by their places, and the search before and after it is made.
use Rattle.std.specs.Prelude.{ℕ, ◌<◌, ◌≤◌, ◌≡◌, List, [], ◌∷◌, ◌++◌, length, map, Option, Some, None}
use Rattle.std.proofs.Common.{sym, ap, ◌∙◌, subst, arith, append-nil}
use Rattle.ae_between_rounds.specs.Between.{Holds}
use Rattle.ae_between_rounds.specs.Held.{HaveInstances, taken_of}
use Rattle.ae_between_rounds.specs.declared.search.Instance.{Instance}
use Rattle.ae_between_rounds.specs.declared.search.Instantiated.{Instantiated}
use Rattle.ae_between_rounds.specs.declared.search.Owed.{Owed}
use Rattle.ae_between_rounds.specs.declared.search.Search.{Search}
use Rattle.ae_core.specs.declared.problems.Problem.{Problem}
use Rattle.ae_goal_names.proofs.Joining.{as_many}
use Rattle.ae_inst.specs.declared.instances.Taken.{Taken}
use Rattle.ae_journal.specs.Journals.{counted_in}
use Rattle.ae_journal.specs.Noted.{Noted}
use Rattle.ae_journal.specs.States.{Owner, of_axiom, of_literal}
use Rattle.ae_made_instances.proofs.Besides.{beside_of, holds_of}
use Rattle.ae_made_instances.proofs.Holding.{instances_made}
use Rattle.ae_made_instances.proofs.Joining.{due_grows}
use Rattle.ae_made_instances.specs.Inner.Beside.{IsBeside, IsInBatch}
use Rattle.ae_made_instances.specs.Inner.Making.{IsDue, IsDueOwed, IsMade}
use Rattle.ae_made_instances.specs.Inner.Noting.{Came, GoesOn}
use Rattle.ae_made_instances.specs.Inner.Noting.Came.{nothing, some}
use Rattle.ae_owners.specs.Owners.{owner_of}
use Rattle.ae_owners.specs.declared.owners.Owner.{Owner as OwnerEntry}
use Rattle.ae_searching.specs.Steps.{HasNews}
use Rattle.ae_store.specs.Shapes.{shapes}
use Rattle.ae_store.specs.Terms.{named, terms}
use Rattle.ae_theory.specs.Names.{Extends}
use Rattle.ae_trigger.specs.declared.patterns.Subst.{Subst}

-- ---- owners
owner_by : OwnerEntry → Option ℕ → Owner
owner_by o z = elim z as (λ _. Owner) [ Some k ↦ of_axiom k | None ↦ of_literal (record { positive = o.positive; formula = o.formula }) ]

pub owner_literal : (o : OwnerEntry) → o.place ≡ None → owner_of o ≡ of_literal (record { positive = o.positive; formula = o.formula })
unfolding owner_by
owner_literal o e = ap (owner_by o) e

pub owner_axiom : (o : OwnerEntry) (k : ℕ) → o.place ≡ Some k → owner_of o ≡ of_axiom k
unfolding owner_by
owner_axiom o k e = ap (owner_by o) e

-- ---- other instances
module _ (p : Problem) (g : ℕ) (o : Search) (i : Instantiated) where
  pub beside_other : IsBeside p g o → IsBeside p g (record o { instances = i })
  beside_other h = record { store = h.store; firsts = h.firsts; constants = h.constants; choices = h.choices; heads = h.heads; fine = h.fine; orderless = h.orderless }

  pub due_other : (n : ℕ) (w : Owed) → IsDueOwed p g o n w → IsDueOwed p g (record o { instances = i }) n w
  due_other n w d = record { owner = d.owner; at = d.at; within = d.within; due = record { there = d.due.there; names = d.due.names; matched = d.due.matched } }

  pub goes_other : (o2 : Search) → GoesOn (record o { instances = i }) o2 → GoesOn o o2
  goes_other o2 y = record { extends = y.extends; trail = y.trail; theory = y.theory; blocks = y.blocks; owners = y.owners; limit = y.limit; added = y.added; is = y.is; forth = y.forth; plain = y.plain }

  pub came_other : (o2 : Search) → Came (record o { instances = i }) o2 → Came o o2
  came_other o2 (nothing s j l e t) = nothing s j l e t
  came_other o2 (some news later more counted) = some news later more counted

  pub goes_to_other : (first : Search) → GoesOn first o → GoesOn first (record o { instances = i })
  goes_to_other first y = record { extends = y.extends; trail = y.trail; theory = y.theory; blocks = y.blocks; owners = y.owners; limit = y.limit; added = y.added; is = y.is; forth = y.forth; plain = y.plain }

  pub came_to_other : (first : Search) → Came first o → Came first (record o { instances = i })
  came_to_other first (nothing s j l e t) = nothing s j l e t
  came_to_other first (some news later more counted) = some news later more counted

  pub batch_other : (bound level : ℕ) → i.made ≡ o.instances.made → i.taken.taken ≡ o.instances.taken.taken → IsInBatch p g bound level o → IsInBatch p g bound level (record o { instances = i })
  batch_other bound level em et b = record {
    searching = b.searching;
    looked = b.looked;
    holds = holds_of p g bound (record o { instances = i }) (beside_other (beside_of p g bound o b.holds))
        (subst (λ (z : List Instance). HaveInstances p g bound o.store o.blocks.opened o.owners z i.taken.taken o.ages o.journal.lines) (sym em)
        (subst (λ (z : List Taken). HaveInstances p g bound o.store o.blocks.opened o.owners o.instances.made z o.ages o.journal.lines) (sym et) b.holds.instances));
  }

-- ---- what is held, once the instance is made and kept
module _ (p : Problem) (g bound n : ℕ) (lt : n < bound) (o : Search) (i : Instantiated) (o2 : Search) (j : Instantiated) (k : ℕ) (s : Subst) (d : IsDueOwed p g o n (record { owner = k; subst = s }))
    (m : IsMade p g n (owner_of d.owner) s.sorts (map (named (terms (shapes o.store.nodes))) s.terms) (record o { instances = i }) o2) (same : p.signature ≡ o.store.signature)
    (h : HaveInstances p g bound o.store o.blocks.opened o.owners o.instances.made o.instances.taken.taken o.ages o.journal.lines) where
  abbrev inst : Instance
  inst = record { owner = k; subst = s; number = n }

  due : IsDue p g o2 n (owner_of d.owner) s.sorts (map (named (terms (shapes o.store.nodes))) s.terms)
  due =
      due_grows p g n (record o { instances = i }) o2 m.goes_on (owner_of d.owner) s.sorts (map (named (terms (shapes o.store.nodes))) s.terms)
      (record { there = d.due.there; names = d.due.names; matched = d.due.matched })

  pub holds_made : j.made ≡ o.instances.made ++ inst ∷ [] → j.taken.taken ≡ o.instances.taken.taken ++ taken_of inst ∷ [] → Holds p g bound (record o2 { instances = j })
  holds_made em et =
      holds_of p g bound (record o2 { instances = j }) (beside_other p g o2 j m.beside)
      (subst (λ (z : List Instance). HaveInstances p g bound o2.store o2.blocks.opened o2.owners z j.taken.taken o2.ages o2.journal.lines) (sym em)
      (subst (λ (z : List Taken). HaveInstances p g bound o2.store o2.blocks.opened o2.owners (o.instances.made ++ inst ∷ []) z o2.ages o2.journal.lines) (sym et)
      (instances_made p g bound n lt (record o { instances = i }) o2 d.owner k s d.at d.within m due same o.instances.made o.instances.taken.taken h)))

-- ---- names that enter
pub came_entered : (first o o2 : Search) → o.looked ≡ length first.store.nodes → o.looked < length o.store.nodes → o2.journal ≡ o.journal → length o.lines.items ≤ length o2.lines.items → Came first o → Came first o2
came_entered first o o2 looked less ej more (nothing s j l e t) =
    absurd (let a = as_many o.store in let b = as_many first.store in let c = ap length t in omega (arith, looked, less, a, b, c))
came_entered first o o2 looked less ej more (some news later lt counted) =
    some (subst (λ (z : Noted). HasNews z.lines) (sym ej) news) (omega (arith, ap (λ (z : Noted). length z.lines) ej, later)) (omega (arith, more, lt))
    (omega (arith, ap (λ (z : Noted). counted_in z.lines) ej, counted))

pub goes_entered : (o o2 : Search) → Extends o.store o2.store → o2.solver.propagation.trail ≡ o.solver.propagation.trail → o2.solver.theory ≡ o.solver.theory → o2.journal ≡ o.journal → o2.blocks ≡ o.blocks → o2.owners ≡ o.owners
    → GoesOn o o2
goes_entered o o2 extends trail theory journal blocks owners = record {
  extends = extends;
  trail = trail;
  theory = theory;
  blocks = blocks;
  owners = owners;
  limit = ap (λ (z : Noted). z.limit) journal;
  added = [];
  is = ap (λ (z : Noted). z.lines) journal ∙ sym (append-nil o.journal.lines);
  forth = tt;
  plain = tt;
}
