-- Lists that grow by one where a test says so: each term once, and those that pass.
use Rattle.std.specs.Prelude.{ℕ, ◌+◌, ◌<◌, ◌≡◌, Bool, true, false, cond, ◌||◌, List, [], ◌∷◌, ◌++◌, take, length}
use Rattle.std.proofs.Common.{refl, sym, ap, ◌∙◌, get_or}
use Rattle.std.proofs.lemmas.List.{take_more, append-nil}
use Rattle.ae_core.specs.declared.terms.Term.{Term}
use Rattle.ae_journal.specs.Triggers.{is_among, once_each, kept}
use Rattle.ae_trigger.specs.Inner.Kept.{is_term, with_new, with_one}

-- ---- each once
or_false : (b : Bool) → b || false ≡ b
or_false true = refl
or_false false = refl

or_turn : (a b c : Bool) → a || b || c ≡ b || (a || c)
or_turn true true c = refl
or_turn true false c = refl
or_turn false true c = refl
or_turn false false c = refl

abbrev OnceMore : List Term → List Term → Term → Type 0
OnceMore seen xs x = once_each seen (xs ++ x ∷ []) ≡ once_each seen xs ++ cond (is_among seen x || is_among (once_each seen xs) x) [] (x ∷ [])

once_more : (seen xs : List Term) (x : Term) → OnceMore seen xs x
once_more seen [] x = ap (λ b. cond b [] (x ∷ [])) (sym (or_false (is_among seen x)))
once_more seen (y ∷ xs) x = go (once_more seen xs x) (once_more (y ∷ seen) xs x) (is_among seen y)
  where
    go : OnceMore seen xs x → OnceMore (y ∷ seen) xs x → (b : Bool) → cond b (once_each seen (xs ++ x ∷ [])) (y ∷ once_each (y ∷ seen) (xs ++ x ∷ []))
        ≡ cond b (once_each seen xs) (y ∷ once_each (y ∷ seen) xs) ++ cond (is_among seen x || is_among (cond b (once_each seen xs) (y ∷ once_each (y ∷ seen) xs)) x) [] (x ∷ [])
    go there new true = there
    go there new false =
        let rest = once_each (y ∷ seen) xs in
        ap (λ w. y ∷ w) (new ∙ ap (λ b. rest ++ cond b [] (x ∷ [])) (or_turn (is_term y x) (is_among seen x) (is_among rest x)))

new_is : (ks : List Term) (x : Term) → with_new ks x ≡ ks ++ cond (is_among ks x) [] (x ∷ [])
unfolding with_new
new_is ks x = go (is_among ks x)
  where
    go : (b : Bool) → cond b ks (ks ++ x ∷ []) ≡ ks ++ cond b [] (x ∷ [])
    go true = sym (append-nil ks)
    go false = refl

pub once_step : (xs : List Term) (i : ℕ) (d x : Term) (ks more : List Term) → i < length xs → ks ≡ once_each [] (take i xs) → x ≡ get_or xs i d → more ≡ with_new ks x → more ≡ once_each [] (take (i + 1) xs)
once_step xs i d x ks more b k g e =
    e ∙ (λ j. with_new (k j) (g j)) ∙ new_is (once_each [] (take i xs)) (get_or xs i d)
    ∙ sym (ap (once_each []) (take_more xs i d b) ∙ once_more [] (take i xs) (get_or xs i d))

-- ---- those that pass
kept_more : (f : Term → Bool) (xs : List Term) (x : Term) → kept f (xs ++ x ∷ []) ≡ kept f xs ++ cond (f x) (x ∷ []) []
kept_more f [] x = refl
kept_more f (y ∷ xs) x = go (kept_more f xs x) (f y)
  where
    go : kept f (xs ++ x ∷ []) ≡ kept f xs ++ cond (f x) (x ∷ []) [] → (b : Bool) → cond b (y ∷ kept f (xs ++ x ∷ [])) (kept f (xs ++ x ∷ [])) ≡ cond b (y ∷ kept f xs) (kept f xs) ++ cond (f x) (x ∷ []) []
    go more true = ap (λ w. y ∷ w) more
    go more false = more

pub one_is : (b : Bool) (ks : List Term) (x : Term) → with_one b ks x ≡ ks ++ cond b (x ∷ []) []
unfolding with_one
one_is true ks x = refl
one_is false ks x = sym (append-nil ks)

pub kept_step : (f : Term → Bool) (xs : List Term) (i : ℕ) (d x : Term) (b : Bool) (ks more : List Term) → i < length xs → ks ≡ kept f (take i xs) → x ≡ get_or xs i d → b ≡ f x → more ≡ with_one b ks x
    → more ≡ kept f (take (i + 1) xs)
kept_step f xs i d x b ks more l k g t e =
    e ∙ (λ j. with_one ((t ∙ ap f g) j) (k j) (g j)) ∙ one_is (f (get_or xs i d)) (kept f (take i xs)) (get_or xs i d)
    ∙ sym (ap (kept f) (take_more xs i d l) ∙ kept_more f (take i xs) (get_or xs i d))
