-- What a filter keeps.
use Rattle.std.specs.Prelude.{Bool, true, false, cond, List, [], ◌∷◌, ◌≡◌, filter}
use Rattle.std.specs.List.{AllByRecursion, Contains}
use Rattle.std.proofs.Common.{sym, ap, ◌∙◌, subst, inl, inr}
use Rattle.ae_base.proofs.Tests.{by_bool}
use Rattle.ae_journal.proofs.Splits.{contains_cases, contains_here, contains_later}

module _ {X : Type 0} (test : X → Bool) where
  here : (x : X) (xs : List X) → test x ≡ true → filter test (x ∷ xs) ≡ x ∷ filter test xs
  here x xs e = ap (λ b. cond b (x ∷ filter test xs) (filter test xs)) e

  left_out : (x : X) (xs : List X) → test x ≡ false → filter test (x ∷ xs) ≡ filter test xs
  left_out x xs e = ap (λ b. cond b (x ∷ filter test xs) (filter test xs)) e

  pub kept : (xs : List X) (x : X) → Contains xs x → test x ≡ true → Contains (filter test xs) x
  kept [] x h e = h
  kept (y ∷ ys) x h e = elim (contains_cases y ys x h) as (λ _. Contains (filter test (y ∷ ys)) x) [
    | inl q ↦ subst (λ (zs : List X). Contains zs x) (sym (here y ys (ap test q ∙ e))) (subst (Contains (y ∷ filter test ys)) q (contains_here y (filter test ys)))
    | inr r ↦
        by_bool (test y) (λ t. subst (λ (zs : List X). Contains zs x) (sym (here y ys t)) (contains_later y (filter test ys) x (kept ys x r e)))
        (λ f. subst (λ (zs : List X). Contains zs x) (sym (left_out y ys f)) (kept ys x r e))
  ]

  pub was_there : (xs : List X) (x : X) → Contains (filter test xs) x → Contains xs x
  was_there [] x h = h
  was_there (y ∷ ys) x h =
      by_bool (test y)
      (λ t. elim (contains_cases y (filter test ys) x (subst (λ (zs : List X). Contains zs x) (here y ys t) h)) as (λ _. Contains (y ∷ ys) x) [
        | inl q ↦ subst (Contains (y ∷ ys)) q (contains_here y ys)
        | inr r ↦ contains_later y ys x (was_there ys x r)
      ])
      (λ f. contains_later y ys x (was_there ys x (subst (λ (zs : List X). Contains zs x) (left_out y ys f) h)))

  pub passed : (P : X → Type 0) (xs : List X) → AllByRecursion P xs → AllByRecursion (λ x. P x × (test x ≡ true)) (filter test xs)
  passed P [] a = tt
  passed P (x ∷ xs) a =
      by_bool (test x) (λ t. subst (AllByRecursion (λ x. P x × (test x ≡ true))) (sym (here x xs t)) ((a.0, t), passed P xs a.1))
      (λ f. subst (AllByRecursion (λ x. P x × (test x ≡ true))) (sym (left_out x xs f)) (passed P xs a.1))
