-- The forms of names are those of the grammar.
use Rattle.std.specs.Prelude.{ℕ, List, [], ◌∷◌, ◌≡◌}
use mathlib.Core.Path.{refl}
use Rattle.ae_prooftext.specs.SortTexts.{fine}
use Rattle.ae_prooftext.specs.TermTexts.{head_fine}
use Rattle.ae_readers.specs.Names.{form_of}
use Rattle.ae_readers.specs.declared.names.Form.TheVariants as form

lone_at : (w : List ℕ) → fine w ≡ form_of form.Lone w
lone_at [] = refl
lone_at (x ∷ xs) = refl

pub lone_is : fine ≡ form_of form.Lone
lone_is i w = lone_at w i

head_at : (w : List ℕ) → head_fine w ≡ form_of form.Head w
head_at [] = refl
head_at (x ∷ xs) = refl

pub head_is : head_fine ≡ form_of form.Head
head_is i w = head_at w i
