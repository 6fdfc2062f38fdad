-- A batch that is being made: one more that is owed.
use Rattle.std.specs.Prelude.{ℕ, suc, ◌<◌, ◌≤◌, ◌≡◌, false, List, [], length, take, drop, slice_get, Some}
use Rattle.std.specs.List.{AllByRecursion, list_any, remove}
use Rattle.std.proofs.Common.{sym, ap, ◌∙◌, subst, arith}
use Rattle.std.proofs.lemmas.List.{take-append-drop}
use Rattle.ae_base.proofs.AllOf.{all_append, all_at, all_back, all_front, all_weaker}
use Rattle.ae_between_rounds.specs.declared.search.Instance.{Instance}
use Rattle.ae_between_rounds.specs.declared.search.Instantiated.{Instantiated}
use Rattle.ae_between_rounds.specs.declared.search.Owed.{Owed}
use Rattle.ae_between_rounds.specs.declared.search.Search.{Search}
use Rattle.ae_core.specs.declared.problems.Problem.{Problem}
use Rattle.ae_inst.specs.Matches.{is_match}
use Rattle.ae_inst.specs.declared.instances.Taken.{Taken}
use Rattle.ae_made_instances.proofs.Joining.{came_join, goes_join, owed_grows}
use Rattle.ae_made_instances.proofs.One.{batch_other, came_to_other, due_other, goes_to_other}
use Rattle.ae_made_instances.specs.Inner.Beside.{IsInBatch}
use Rattle.ae_made_instances.specs.Inner.Making.{HasMade, IsBeingMade, IsDueOwed}
use Rattle.ae_made_instances.specs.Inner.Making.HasMade.{more, not_yet}
use Rattle.ae_made_instances.specs.Inner.Noting.{Came, GoesOn}
use Rattle.ae_value_table.specs.Alike.{alike}

-- what holds of all holds of all but one
pub all_without : {X : Type 0} (P : X → Type 0) (xs : List X) (k : ℕ) → AllByRecursion P xs → AllByRecursion P (remove xs k)
all_without P xs k a =
    all_append P (take k xs) (drop (suc k) xs) (all_front P (take k xs) (drop k xs) (subst (AllByRecursion P) (sym (take-append-drop k xs)) a))
    (all_back P (take (suc k) xs) (drop (suc k) xs) (subst (AllByRecursion P) (sym (take-append-drop (suc k) xs)) a))

module _ (p : Problem) (g bound n level : ℕ) (first o o2 : Search) (left : List Owed) (k : ℕ) (w : Owed) (at : slice_get left k ≡ Some w) (b : IsBeingMade p g bound n level first o left) where
  pub its_due : IsDueOwed p g o n w
  its_due = all_at (IsDueOwed p g o n) left k w b.due at

  -- ---- once it is made, or one that is the same was
  module _ (least : ℕ) (batch : IsInBatch p g bound least o2) (goes_on : GoesOn o o2) (came : Came o o2) (rise : length o.instances.made ≤ length o2.instances.made)
      (own : list_any (is_match (alike o.solver.theory.values) w.owner w.subst) o.instances.taken.taken ≡ false → length o.instances.made < length o2.instances.made) where
    made_more : HasMade first o left → length first.instances.made < length o2.instances.made
    made_more (more lt) = omega (arith, lt, rise)
    made_more (not_yet same some none) =
        let lt = own (all_at (λ (v : Owed). list_any (is_match (alike o.solver.theory.values) v.owner v.subst) o.instances.taken.taken ≡ false) left k w none at) in
        let e : length o.instances.made ≡ length first.instances.made = ap (λ (z : List Instance). length z) same in
        omega (arith, lt, e)

    pub one_made : IsBeingMade p g bound n least first o2 (remove left k)
    one_made = record {
      batch = batch;
      goes_on = goes_join first o o2 b.goes_on goes_on;
      came = came_join first o o2 b.came came;
      due = all_weaker (IsDueOwed p g o n) (IsDueOwed p g o2 n) (λ v d. owed_grows p g n o o2 goes_on v d) (remove left k) (all_without (IsDueOwed p g o n) left k b.due);
      made = more (made_more b.made);
    }

-- where none is left, some were made
pub some_made : (first o : Search) (left : List Owed) → left ≡ [] → HasMade first o left → length first.instances.made < length o.instances.made
some_made first o left e (more lt) = lt
some_made first o left e (not_yet same some none) = absurd (some e)

-- the turn of the rank is nothing that is held
pub being_other : (p : Problem) (g bound n level : ℕ) (first o : Search) (i : Instantiated) (left : List Owed) → i.made ≡ o.instances.made → i.taken.taken ≡ o.instances.taken.taken
    → IsBeingMade p g bound n level first o left → IsBeingMade p g bound n level first (record o { instances = i }) left
being_other p g bound n level first o i left em et b = record {
  batch = batch_other p g o i bound level em et b.batch;
  goes_on = goes_to_other p g o i first b.goes_on;
  came = came_to_other p g o i first b.came;
  due = all_weaker (IsDueOwed p g o n) (IsDueOwed p g (record o { instances = i }) n) (λ w d. due_other p g o i n w d) left b.due;
  made = made_other b.made;
}
  where
    made_other : HasMade first o left → HasMade first (record o { instances = i }) left
    made_other (more lt) = more (let e : length i.made ≡ length o.instances.made = ap (λ (z : List Instance). length z) em in omega (arith, e, lt))
    made_other (not_yet same some none) =
        not_yet (em ∙ same) some
        (subst (λ (z : List Taken). AllByRecursion (λ (w : Owed). list_any (is_match (alike o.solver.theory.values) w.owner w.subst) z ≡ false) left) (sym et) none)
