-- The symbols of one kind are those of the grammar.
use Rattle.std.proofs.Common.{ℕ, Bool, true, false, not, ◌&&◌, cond, List, [], ◌∷◌, ◌≡◌, refl, sym, ap, ◌∙◌}
use Rattle.std.specs.Bool.{beq}
use Rattle.std.specs.List.{filter}
use Rattle.ae_codes.specs.Closers.{by_blank, closers}
use Rattle.ae_core.specs.declared.problems.Signature.{Signature}
use Rattle.ae_prooftext.specs.SortTexts.{fine}
use Rattle.ae_prooftext.specs.Words.{has_variables, symbols}
use Rattle.ae_readers.specs.Names.{form_of}
use Rattle.ae_readers.specs.Readers.{named_read, no_end}
use Rattle.ae_readers.specs.declared.names.Form.TheVariants as form
use Rattle.ae_rulereader.specs.Kinds.{may_name, of_kind, of_kind_all}
use Rattle.ae_stategrammar.specs.Sides.{is_ac, ac_symbols}
use Rattle.ae_termreader.proofs.Forms.{lone_is}

-- one filter behind another
module _ (p q : ℕ → Bool) where
  by_both : (a b : Bool) (n : ℕ) (xs ys : List ℕ) → ys ≡ filter q xs → (q n ≡ b) → cond (a && b) (n ∷ ys) ys ≡ filter q (cond a (n ∷ xs) xs)
  by_both true true n xs ys e f = ap (λ z. n ∷ z) e ∙ ap (λ b. cond b (n ∷ filter q xs) (filter q xs)) (sym f)
  by_both true false n xs ys e f = e ∙ ap (λ b. cond b (n ∷ filter q xs) (filter q xs)) (sym f)
  by_both false b n xs ys e f = e

  pub two_filters : (ns : List ℕ) → filter (λ n. p n && q n) ns ≡ filter q (filter p ns)
  two_filters [] = refl
  two_filters (n ∷ ns) = by_both (p n) (q n) n (filter p ns) (filter (λ n. p n && q n) ns) (two_filters ns) refl

beq_true : (b : Bool) → beq b true ≡ b
beq_true true = refl
beq_true false = refl

beq_false : (b : Bool) → beq b false ≡ not b
beq_false true = refl
beq_false false = refl

pub kind_symbols : (sig : Signature) (sorted : Bool) → filter (of_kind sig sorted) (symbols sig) ≡ of_kind_all sig sorted
kind_symbols sig true = two_filters (is_ac sig) (λ n. beq (has_variables sig n) true) (symbols sig) ∙ ap (λ q. filter q (ac_symbols sig)) (λ i n. beq_true (has_variables sig n) i)
kind_symbols sig false = two_filters (is_ac sig) (λ n. beq (has_variables sig n) false) (symbols sig) ∙ ap (λ q. filter q (ac_symbols sig)) (λ i n. beq_false (has_variables sig n) i)

pub name_may : (w : List ℕ) → form_of form.Lone w && no_end (closers by_blank.one by_blank.two) w ≡ may_name w
name_may w = ap (λ f. f w && no_end (closers by_blank.one by_blank.two) w) (sym lone_is)

-- names before a blank
pub blank_names : (words : List (List ℕ)) (bytes : List ℕ) → named_read fine (closers by_blank.one by_blank.two) words bytes ≡ named_read (form_of form.Lone) (closers by_blank.one by_blank.two) words bytes
blank_names words bytes = ap (λ f. named_read f (closers by_blank.one by_blank.two) words bytes) lone_is
