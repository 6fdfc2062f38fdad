-- What is wanted of a trigger's terms, as the program and the definition write it.
use Rattle.std.specs.Prelude.{ℕ, Bool, true, false, cond, not, ◌&&◌, List, [], ◌∷◌}
use Rattle.std.specs.List.{list_any, list_all}
use Rattle.ae_core.specs.declared.terms.Term.{Term}
use Rattle.ae_journal.specs.Triggers as definition
use Rattle.ae_trigger.specs.declared.choice.Wanted.{Wanted}
use Rattle.ae_trigger.specs.declared.choice.Wanted.TheVariants.{Variable, TypeVariable}

abbrev pub meant : Wanted → Bool × ℕ
meant (Variable i) = (false, i)
meant (TypeVariable i) = (true, i)

abbrev pub occurs_in : Wanted → Term → Bool
occurs_in w t = definition.occurs (meant w) t

abbrev pub has_all : List Wanted → Term → Bool
has_all ws t = list_all (λ w. occurs_in w t) ws

abbrev pub adds : List Wanted → List Term → Term → Bool
adds ws taken t = list_any (λ w. occurs_in w t && not (list_any (occurs_in w) taken)) ws

abbrev pub have_all : List Wanted → List Term → Bool
have_all ws ts = list_all (λ w. list_any (occurs_in w) ts) ws

abbrev pub joint : List Wanted → List Term → List (List Term)
joint ws [] = []
joint ws (t ∷ ts) = cond (have_all ws (t ∷ ts)) ((t ∷ ts) ∷ []) []

abbrev pub is_smallest : List Term → Term → Bool
is_smallest ts t = not (list_any (λ u. definition.stands_inside u t) ts)

-- the triggers that are made of all candidates
abbrev pub made_of : List (Bool × ℕ) → List Term → List (List Term)
made_of want all = definition.made_by want all (definition.smallest (definition.kept (definition.has_all want) all))
