-- One of two codes by the first byte, where the first of them may be missing.
use Rattle.std.specs.Prelude.{ℕ, ◌⊎◌, Bool, true, false, ◌≡◌}
use mathlib.Core.Path.{refl}
use mathlib.Core.Logic.{inl, inr}
use Rattle.ae_codes.specs.Codes.{Code, Begins, one, mapped}

module _ {S A B : Type 0} (test : ℕ → Bool) (p : S → Code A) (q : Code B) (ps : (s : S) → Begins (p s) test true) (qs : Begins q test false) where
  abbrev pub right_of : A ⊎ B → B
  right_of (inl a) = q.some.0
  right_of (inr b) = b

  unfoldable pub if_some : Dec S → Code (A ⊎ B)
  if_some (yes s) = one test (p s) q (ps s) qs
  if_some (no n) = mapped inr right_of q (λ b f. refl)

  no_left : (a : A) (b : B) → inr b ≡ inl a → ⊥
  no_left a b e = cc

  pub left_fits : (d : Dec S) (a : A) → (if_some d).Fits (inl a) → (s : S) × (p s).Fits a × ((if_some d).text (inl a) ≡ (p s).text a)
  unfolding if_some one mapped
  left_fits (yes s) a f = (s, f, refl)
  left_fits (no n) a f = absurd (no_left a q.some.0 f.1)

  pub right_fits : (d : Dec S) (b : B) → (if_some d).Fits (inr b) → q.Fits b × ((if_some d).text (inr b) ≡ q.text b)
  unfolding if_some one mapped
  right_fits (yes s) b f = (f, refl)
  right_fits (no n) b f = (f.0, refl)

  pub fits_left : (d : Dec S) (a : A) (s : S) → ((s' : S) → (p s').Fits a) → (if_some d).Fits (inl a)
  unfolding if_some one
  fits_left (yes s') a s f = f s'
  fits_left (no n) a s f = absurd (n s)

  pub fits_right : (d : Dec S) (b : B) → q.Fits b → (if_some d).Fits (inr b)
  unfolding if_some one mapped
  fits_right (yes s) b f = f
  fits_right (no n) b f = (f, refl)
