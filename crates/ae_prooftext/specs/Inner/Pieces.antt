-- What the writers put one after another: the same texts, cut where a writer calls another.
use Rattle.std.specs.Prelude.{ℕ, ℤ, Bool, cond, not, ◌&&◌, length, List, [], ◌∷◌, ◌++◌, map, decimal, codes}
use Rattle.std.specs.List.{flat_map}
use Rattle.std.specs.Fmt.{signed_decimal}
use Rattle.std.specs.Bool.{◌==◌}
use Rattle.ae_core.specs.declared.terms.Head.{Head}
use Rattle.ae_core.specs.declared.formulas.Formula.{Formula}
use Rattle.ae_core.specs.declared.formulas.Quant.{Quant}
use Rattle.ae_core.specs.declared.problems.Signature.{Signature}
use Rattle.ae_core.specs.declared.terms.Sort.{Sort}
use Rattle.ae_core.specs.declared.terms.Term.{Term}
use Rattle.ae_core.specs.declared.formulas.Lit.{Lit}
use Rattle.ae_core.specs.declared.proofs.Scaled.{Scaled}
use Rattle.ae_codes.specs.Listings.{listed_text}
use Rattle.ae_prooftext.specs.Texts.{sort_text, below_text, term_text, applied_text, formula_text, trigger_text, literal_text, scaled_text}
use Rattle.ae_prooftext.specs.Words.{type_names, type_name, head_word, takes_sorts}

-- the sort of a goal's type variable
abbrev pub rigid_bytes : ℕ → List ℕ
rigid_bytes n = codes "'" ++ decimal n

module _ (sig : Signature) where
  abbrev pub sort_bytes : Sort → List ℕ
  sort_bytes s = sort_text (type_names sig) s

  -- a named sort with its arguments
  abbrev pub compound_bytes : ℕ → List Sort → List ℕ
  compound_bytes n ss = codes "(" ++ type_name sig n ++ flat_map (λ s. 32 ∷ sort_text (type_names sig) s) ss ++ codes ")"

  -- a blank before each
  abbrev pub spaced_sorts : List Sort → List ℕ
  spaced_sorts ss = flat_map (λ s. 32 ∷ sort_text (type_names sig) s) ss

  abbrev pub spaced_terms : List Term → List ℕ
  spaced_terms ts = flat_map (λ t. 32 ∷ term_text sig t) ts

  abbrev pub spaced_triggers : List (List Term) → List ℕ
  spaced_triggers ts = flat_map (λ t. 32 ∷ trigger_text sig t) ts

  abbrev pub spaced_literals : List Lit → List ℕ
  spaced_literals xs = flat_map (λ x. 32 ∷ literal_text sig x) xs

  -- lists that a square bracket closes
  abbrev pub sorts_bytes : List Sort → List ℕ
  sorts_bytes ss = listed_text 93 (map (sort_text (type_names sig)) ss)

  abbrev pub terms_bytes : List Term → List ℕ
  terms_bytes ts = listed_text 93 (map (term_text sig) ts)

  abbrev pub triggers_bytes : List (List Term) → List ℕ
  triggers_bytes ts = listed_text 93 (map (trigger_text sig) ts)

  abbrev pub literals_bytes : List Lit → List ℕ
  literals_bytes xs = listed_text 93 (map (literal_text sig) xs)

  -- sorts in square brackets, where they stand
  unfoldable pub sorts_part : Bool → List Sort → List ℕ
  sorts_part b ss = cond b (codes " [" ++ sorts_bytes ss) []

  -- a head with its sorts and arguments
  unfoldable pub application_bytes : Head → List Sort → List Term → List ℕ
  application_bytes h ss ts = applied_text (takes_sorts sig h) (head_word sig h) (map (sort_text (type_names sig)) ss) (map (term_text sig) ts)

  abbrev pub fresh_bytes : ℕ → Sort → List ℕ
  fresh_bytes n s = codes "(! " ++ decimal n ++ codes " " ++ sort_text (type_names sig) s ++ codes ")"

  abbrev pub relation_bytes : List ℕ → Term → Term → List ℕ
  relation_bytes w a b = w ++ term_text sig a ++ codes " " ++ term_text sig b ++ codes ")"

  abbrev pub negation_bytes : Formula → List ℕ
  negation_bytes a = codes "(@not " ++ formula_text sig a ++ codes ")"

  -- the two halves of a connective
  abbrev pub left_bytes : List ℕ → Formula → List ℕ
  left_bytes w a = w ++ formula_text sig a ++ codes " "

  abbrev pub right_bytes : Formula → List ℕ
  right_bytes a = formula_text sig a ++ codes ")"

  abbrev pub quant_bytes : List ℕ → Quant → List ℕ
  quant_bytes w q = w ++ sorts_bytes q.sorts ++ codes " [" ++ triggers_bytes q.triggers ++ codes " " ++ formula_text sig q.body ++ codes ")"

  -- the relation of a derived line and its two terms
  abbrev pub sides_bytes : List ℕ → Term → Term → List ℕ
  sides_bytes w s t = w ++ term_text sig s ++ codes " " ++ term_text sig t ++ codes " "

  -- a head whose word stands alone: no sorts behind it, and no arguments
  abbrev pub is_lone : Head → List Term → Bool
  is_lone h ts = not (takes_sorts sig h) && (length ts == 0)

  -- what stands before the arguments, and they
  unfoldable pub opening_bytes : Head → List Sort → List ℕ
  opening_bytes h ss = codes "(" ++ head_word sig h ++ sorts_part (takes_sorts sig h) ss

  abbrev pub args_bytes : List Term → List ℕ
  args_bytes ts = spaced_terms ts ++ codes ")"

abbrev pub spaced_numbers : List ℕ → List ℕ
spaced_numbers ns = flat_map (λ n. 32 ∷ decimal n) ns

abbrev pub spaced_scaled : List Scaled → List ℕ
spaced_scaled xs = flat_map (λ x. 32 ∷ scaled_text x) xs

abbrev pub bound_bytes : ℕ → List ℕ
bound_bytes n = codes "#" ++ decimal n

abbrev pub numeral_bytes : ℤ → ℤ → Bool → List ℕ
numeral_bytes a b r = signed_decimal a ++ below_text b r

-- numbers that a square bracket closes
abbrev pub numbers_bytes : List ℕ → List ℕ
numbers_bytes ns = listed_text 93 (map decimal ns)
