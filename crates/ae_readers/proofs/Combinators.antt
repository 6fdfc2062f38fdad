-- What the combinators of codes read, without the proofs that they carry.
use Rattle.std.specs.Prelude.{ℕ, ◌⊎◌, Bool, true, false, List, [], ◌∷◌, ◌++◌, ◌≡◌, IsTrue}
use mathlib.Core.Path.{refl}
use mathlib.Core.Logic.{inl, inr}
use Rattle.ae_codes.specs.Codes.{Read, got, stops, wide, Code, Begins, StartsNumeral, too_wide, both, then_read, after, one, pick_side, to_left, to_right, mapped, sent}
use Rattle.ae_codes.specs.Machines.{checked, checked_read}
use Rattle.ae_readers.specs.Readers.{after_read, wide_or}

pub after_after : {A B C : Type 0} (r : Read A) (f : A → List ℕ → Read B) (g : B → List ℕ → Read C) → after_read (after_read r f) g ≡ after_read r (λ a rest. after_read (f a rest) g)
after_after (got a rest) f g = refl
after_after (stops r) f g = refl
after_after (wide r) f g = refl

-- what is done after each value is the same
pub after_same : {A B : Type 0} (r : Read A) (f g : A → List ℕ → Read B) → ((a : A) (rest : List ℕ) → f a rest ≡ g a rest) → after_read r f ≡ after_read r g
after_same (got a rest) f g e = e a rest
after_same (stops r) f g e = refl
after_same (wide r) f g e = refl

pub mapped_is : {A B : Type 0} (to : A → B) (from : B → A) (c : Code A) (back : (a : A) → c.Fits a → from (to a) ≡ a) (bytes : List ℕ)
    → (mapped to from c back).read bytes ≡ after_read (c.read bytes) (λ a rest. got (to a) rest)
unfolding mapped
mapped_is {A} {B} to from c back bytes = go (c.read bytes)
  where
    go : (r : Read A) → sent to from c back r ≡ after_read r (λ a rest. got (to a) rest)
    go (got a rest) = refl
    go (stops r) = refl
    go (wide r) = refl

module _ {A : Type 0} {B : A → Type 0} (p : Code A) (q : (a : A) → Code (B a)) where
  abbrev pub paired : (a : A) → B a → List ℕ → Read ((a : A) × B a)
  paired a b rest = got (a, b) rest

  both_inner : (a : A) (r : Read (B a)) → after p q a r ≡ after_read r (paired a)
  both_inner a (got b rest) = refl
  both_inner a (stops r) = refl
  both_inner a (wide r) = refl

  both_outer : (r : Read A) → then_read p q r ≡ after_read r (λ a rest. after_read ((q a).read rest) (paired a))
  both_outer (got a rest) = both_inner a ((q a).read rest)
  both_outer (stops r) = refl
  both_outer (wide r) = refl

  pub both_is : (bytes : List ℕ) → (both p q).read bytes ≡ after_read (p.read bytes) (λ a rest. after_read ((q a).read rest) (paired a))
  unfolding both
  both_is bytes = both_outer (p.read bytes)

abbrev pub on_side : {A B : Type 0} → Bool → Read A → Read B → Read (A ⊎ B)
on_side true p q = after_read p (λ a rest. got (inl a) rest)
on_side false p q = after_read q (λ b rest. got (inr b) rest)

module _ {A B : Type 0} (test : ℕ → Bool) (p : Code A) (q : Code B) (ps : Begins p test true) (qs : Begins q test false) where
  left_is : (r : Read A) → to_left test p q ps qs r ≡ after_read r (λ a rest. got (inl a) rest)
  left_is (got a rest) = refl
  left_is (stops r) = refl
  left_is (wide r) = refl

  right_is : (r : Read B) → to_right test p q ps qs r ≡ after_read r (λ b rest. got (inr b) rest)
  right_is (got a rest) = refl
  right_is (stops r) = refl
  right_is (wide r) = refl

  side_is : (b : Bool) (bytes : List ℕ) → pick_side test p q ps qs b bytes ≡ on_side b (p.read bytes) (q.read bytes)
  side_is true bytes = left_is (p.read bytes)
  side_is false bytes = right_is (q.read bytes)

  pub one_none : (one test p q ps qs).read [] ≡ stops []
  unfolding one
  one_none = refl

  pub one_is : (x : ℕ) (xs : List ℕ) → (one test p q ps qs).read (x ∷ xs) ≡ on_side (test x) (p.read (x ∷ xs)) (q.read (x ∷ xs))
  unfolding one
  one_is x xs = side_is (test x) (x ∷ xs)

module _ {A : Type 0} (is_wide : List ℕ → Bool) (c : Code A) (narrow : (a : A) (rest : List ℕ) → c.Fits a → is_wide (c.text a ++ rest) ≡ false)
    (is_so : (bytes : List ℕ) → is_wide bytes ≡ true → IsTrue (too_wide bytes)) (starts : (a : A) → c.Fits a → StartsNumeral (c.text a)) where
  checked_by : (b : Bool) (bytes : List ℕ) → checked_read is_wide c narrow is_so starts b bytes ≡ wide_or b bytes (c.read bytes)
  checked_by true bytes = refl
  checked_by false bytes = refl

  pub checked_is : (bytes : List ℕ) → (checked is_wide c narrow is_so starts).read bytes ≡ wide_or (is_wide bytes) bytes (c.read bytes)
  unfolding checked
  checked_is bytes = checked_by (is_wide bytes) bytes
