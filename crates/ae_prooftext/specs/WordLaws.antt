-- What the tables of words give back: the word of what a word names is that word.
use Rattle.std.specs.Prelude.{ℕ, ◌⊎◌, Bool, true, false, not, cond, List, [], ◌∷◌, ◌≡◌, map, Some}
use Rattle.std.specs.List.{find, filter}
use Rattle.std.specs.Str.{bytes_eq}
use Rattle.std.proofs.lemmas.Bool.{not-true}
use Rattle.std.proofs.lemmas.Slice.Eq.{bytes_eq-Decides}
use mathlib.Core.Path.{refl, sym}
use mathlib.Core.Logic.{inl, inr}
use Rattle.ae_base.specs.Options.{or_else}
use Rattle.ae_codes.specs.Names.{In}
use Rattle.ae_core.specs.declared.problems.Signature.{Signature}
use Rattle.ae_core.specs.declared.terms.Head.{Head}
use Rattle.ae_core.specs.declared.terms.Head.TheVariants as head
use Rattle.ae_prooftext.specs.Words.{head_word, takes_sorts, named, head_of, lone_head_of, symbol_of, lone_symbol_of, bracket_heads, lone_heads, lone_symbols, symbols, symbol_name, has_variables}

-- an operation on `real` where `real` is so
abbrev pub at_real : Bool → Head → Head
at_real true (head.Int o) = head.Real o
at_real _ h = h

pub same_word : (sig : Signature) (b : Bool) (h : Head) → head_word sig (at_real b h) ≡ head_word sig h
unfolding head_word
same_word sig true (head.Symbol n) = refl
same_word sig true (head.Build n) = refl
same_word sig true (head.Field n p) = refl
same_word sig true (head.Int o) = refl
same_word sig true (head.Real o) = refl
same_word sig true head.True = refl
same_word sig true head.False = refl
same_word sig true head.Void = refl
same_word sig false h = refl

pub same_takes : (sig : Signature) (b : Bool) (h : Head) → takes_sorts sig (at_real b h) ≡ takes_sorts sig h
unfolding takes_sorts
same_takes sig true (head.Symbol n) = refl
same_takes sig true (head.Build n) = refl
same_takes sig true (head.Field n p) = refl
same_takes sig true (head.Int o) = refl
same_takes sig true (head.Real o) = refl
same_takes sig true head.True = refl
same_takes sig true head.False = refl
same_takes sig true head.Void = refl
same_takes sig false h = refl

module _ {A : Type 0} (fine : List ℕ → Bool) (table : List (List ℕ)) (ends : ℕ → Bool) (word : A → List ℕ) (other : A) where
  named_step : (b : Bool) (a : A) (xs : List A) (w : List ℕ) → bytes_eq (word a) w ≡ b → (w ≡ word a) ⊎ In fine table ends (map word xs) w
      → (In fine table ends (map word xs) w → word (named word other xs w) ≡ w) → word (or_else (cond b (Some a) (find (λ x. bytes_eq (word x) w) xs)) other) ≡ w
  named_step true a xs w e i ih = (bytes_eq-Decides (word a) w).0 e
  named_step false a xs w e (inl q) ih = let t : bytes_eq (word a) w ≡ true = (bytes_eq-Decides (word a) w).1 (sym q) in absurd cc
  named_step false a xs w e (inr i) ih = ih i

  -- the word of what a word of the table names
  pub named_back : (xs : List A) (w : List ℕ) → In fine table ends (map word xs) w → word (named word other xs w) ≡ w
  named_back [] w i = absurd i
  named_back (a ∷ xs) w i = named_step (bytes_eq (word a) w) a xs w refl i (named_back xs w)

  all_step : (test : A → Bool) (b : Bool) (a : A) (xs : List A) (w : List ℕ) → bytes_eq (word a) w ≡ b → test a ≡ true → (w ≡ word a) ⊎ In fine table ends (map word xs) w
      → (In fine table ends (map word xs) w → test (named word other xs w) ≡ true) → test (or_else (cond b (Some a) (find (λ x. bytes_eq (word x) w) xs)) other) ≡ true
  all_step test true a xs w e t i ih = t
  all_step test false a xs w e t (inl q) ih = let u : bytes_eq (word a) w ≡ true = (bytes_eq-Decides (word a) w).1 (sym q) in absurd cc
  all_step test false a xs w e t (inr i) ih = ih i

  -- what a word names passes a test that all of the table pass
  abbrev pub AllPass : (A → Bool) → List A → Type 0
  AllPass test [] = Unit {0}
  AllPass test (a ∷ xs) = (test a ≡ true) × AllPass test xs

  pub named_passes : (test : A → Bool) (xs : List A) (w : List ℕ) → AllPass test xs → In fine table ends (map word xs) w → test (named word other xs w) ≡ true
  named_passes test [] w p i = absurd i
  named_passes test (a ∷ xs) w p i = all_step test (bytes_eq (word a) w) a xs w refl p.0 i (named_passes test xs w p.1)

  pub pass_cons : (test : A → Bool) (b : Bool) (a : A) (xs : List A) → test a ≡ b → AllPass test xs → AllPass test (cond b (a ∷ xs) xs)
  pass_cons test true a xs e p = (e, p)
  pass_cons test false a xs e p = p

  pub filtered_pass : (test : A → Bool) (xs : List A) → AllPass test (filter test xs)
  filtered_pass test [] = tt
  filtered_pass test (a ∷ xs) = pass_cons test (test a) a (filter test xs) refl (filtered_pass test xs)

module _ (sig : Signature) (fine : List ℕ → Bool) (table : List (List ℕ)) (ends : ℕ → Bool) (w : List ℕ) where
  pub head_back : In fine table ends (map (head_word sig) (bracket_heads sig)) w → head_word sig (head_of sig w) ≡ w
  unfolding head_of
  head_back i = named_back fine table ends (head_word sig) head.Void (bracket_heads sig) w i

  pub lone_head_back : In fine table ends (map (head_word sig) (lone_heads sig)) w → (head_word sig (lone_head_of sig w) ≡ w) × (takes_sorts sig (lone_head_of sig w) ≡ false)
  unfolding lone_head_of lone_heads takes_sorts
  lone_head_back i = (
    named_back fine table ends (head_word sig) head.Void (lone_heads sig) w i,
    not-true _ (named_passes fine table ends (head_word sig) head.Void (λ h. not (takes_sorts sig h)) (lone_heads sig) w
        (refl, (refl, (refl, filtered_pass fine table ends (head_word sig) head.Void (λ h. not (takes_sorts sig h)) (map (λ n. head.Symbol n) (symbols sig))))) i),
  )

  pub symbol_back : In fine table ends (map (symbol_name sig) (symbols sig)) w → symbol_name sig (symbol_of sig w) ≡ w
  unfolding symbol_of
  symbol_back i = named_back fine table ends (symbol_name sig) 0 (symbols sig) w i

  pub lone_symbol_back : In fine table ends (map (symbol_name sig) (lone_symbols sig)) w → (symbol_name sig (lone_symbol_of sig w) ≡ w) × (has_variables sig (lone_symbol_of sig w) ≡ false)
  unfolding lone_symbol_of lone_symbols
  lone_symbol_back i = (
    named_back fine table ends (symbol_name sig) 0 (lone_symbols sig) w i,
    not-true _ (named_passes fine table ends (symbol_name sig) 0 (λ n. not (has_variables sig n)) (lone_symbols sig) w
        (filtered_pass fine table ends (symbol_name sig) 0 (λ n. not (has_variables sig n)) (symbols sig)) i),
  )

-- the first words of the tables
pub plus_listed : (sig : Signature) (fine : List ℕ → Bool) (table : List (List ℕ)) (ends : ℕ → Bool) → In fine table ends (map (head_word sig) (bracket_heads sig)) (43 ∷ [])
unfolding bracket_heads head_word
plus_listed sig fine table ends = inl refl

pub true_listed : (sig : Signature) (fine : List ℕ → Bool) (table : List (List ℕ)) (ends : ℕ → Bool) → In fine table ends (map (head_word sig) (lone_heads sig)) (116 ∷ 114 ∷ 117 ∷ 101 ∷ [])
unfolding lone_heads head_word
true_listed sig fine table ends = inl refl
