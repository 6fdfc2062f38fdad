-- Which entries something stands in.
use Rattle.std.specs.Prelude.{ℕ, Bool, true, false, ◌&&◌, ◌||◌, nat_eq, List, slice_get, Option, Some, None}
use Rattle.std.specs.List.{list_any}
use Rattle.ae_expressions.specs.declared.marks.Sought.{Sought}
use Rattle.ae_expressions.specs.declared.marks.Sought.TheVariants.{Variable, Choice}
use Rattle.ae_elab.specs.declared.nodes.Node.{Node}
use Rattle.ae_elab.specs.declared.nodes.Node.TheVariants as node
use Rattle.ae_elab.specs.Nodes.{Entry, a_tree, a_claim}
use Rattle.ae_elab.specs.Trees.{Tree, Trees, variables_in, variables_among, has_choice, have_choice}

-- whether it stands in a term, and in one of several
abbrev pub found_in : Sought → Tree → Bool
found_in (Variable x) t = list_any (nat_eq x) (variables_in t)
found_in Choice t = has_choice t

abbrev pub has_mark : Sought → Trees → Bool
has_mark (Variable x) us = list_any (nat_eq x) (variables_among us)
has_mark Choice us = have_choice us

-- an `if` between terms, from its branches
abbrev pub choice_mark : Sought → Bool → Bool → Bool
choice_mark (Variable x) a b = a || b
choice_mark Choice a b = true

-- a record that is changed: where all its fields are given, no variable of it is left
abbrev pub base_mark : Sought → Bool → Bool → Bool
base_mark (Variable x) is_left b = is_left && b
base_mark Choice is_left b = b

-- it stands in no formula
abbrev pub mark_of : Sought → Entry → Bool
mark_of s (a_tree t) = found_in s t
mark_of s (a_claim f) = false

abbrev pub mark_in : Option Bool → Bool
mark_in (Some b) = b
mark_in None = false

abbrev pub marked : List Bool → ℕ → Bool
marked bs n = mark_in (slice_get bs n)

-- a node that is no variable and no numeral
abbrev pub applies : Node → Bool
applies (node.Variable x) = false
applies (node.Numeral a b r) = false
applies _ = true
