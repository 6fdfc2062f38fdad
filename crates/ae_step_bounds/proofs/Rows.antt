-- The rows of clap's matches: where nothing is refused, each value of the bound on steps is accepted.
use Rattle.std.specs.Prelude.{ℕ, ◌+◌, Bool, true, false, List, [], ◌∷◌, ◌++◌, ◌≡◌, length, min, Option, Some, None, codes, find, fold, if◌then◌else◌}
use Rattle.std.specs.List.{AllByRecursion}
use Rattle.std.specs.Option.{option_map_or}
use Rattle.std.specs.Str.{bytes_eq}
use Rattle.std.proofs.Common.{refl, sym, ap, ◌∙◌, subst}
use Rattle.std.proofs.lemmas.Slice.Eq.{bytes_eq-Decides}
use Rattle.ae_base.proofs.AllOf.{all_append}
use Rattle.clap.specs.Facts.{unwrap_or_range}
use Rattle.clap.specs.Faults.{action_fault, repeat_fault, set_fault, use_fault, values_fault}
use Rattle.clap.specs.Kinds.{Kinds, or_else, range_kinds, value_kinds, values_kinds}
use Rattle.clap.specs.ValueTests.{accepts}
use Rattle.clap.specs.Walk.{Row, Rule, Text, action_of, arg_by_id, at_row, count_of, counted, default_rows, has_row, more_values, most_values, new_count, reading_by, settled_rows, used, used_as, used_by_id, values_or_missing, with_count, with_default, with_values, without}
use Rattle.clap.specs.declared.builder.action.ArgAction.{ArgAction}
use Rattle.clap.specs.declared.builder.action.ArgAction.TheVariants as action
use Rattle.clap.specs.declared.builder.value_parser.Reading.{Reading}
use Rattle.clap.specs.declared.builder.value_parser.Reading.TheVariants.{AsWritten}
use Rattle.clap.specs.declared.builder.value_parser.ValueParser.TheVariants.{Unsigned}
use Rattle.clap.specs.declared.parser.matches.ValueSource.{ValueSource}
use Rattle.clap.specs.declared.parser.matches.ValueSource.TheVariants.{CommandLine, DefaultValue}

abbrev pub IsOfSteps : Text → Type 0
IsOfSteps id = bytes_eq id (codes "steps-bound") ≡ true

abbrev pub IsAccepted : Text → Type 0
IsAccepted v = accepts false (Unsigned 1 1000000) v ≡ true

-- what is said of values under an id, where it is that of the bound on steps
abbrev ReadsAccepted : Reading → List Text → Type 0
ReadsAccepted how vs = (how ≡ AsWritten) × AllByRecursion IsAccepted vs

abbrev pub Passes : Row → Type 0
Passes r = IsOfSteps r.id → ReadsAccepted r.reading r.values

abbrev pub AllPass : List Row → Type 0
AllPass = AllByRecursion Passes

-- the rule of that id keeps the values of its one use, and asks that they are accepted
abbrev IsStepsRule : Rule → Type 0
IsStepsRule a = (action_of a ≡ action.Set) × (reading_by a ≡ AsWritten) × (a.missing ≡ []) × (a.defaults ≡ []) × ((vs : List Text) → values_fault a vs ≡ [] → AllByRecursion IsAccepted vs)

abbrev pub Fits : Rule → Type 0
Fits a = IsOfSteps a.id → IsStepsRule a

abbrev pub IfFits : Option Rule → Type 0
IfFits None = Unit {0}
IfFits (Some a) = Fits a

pub none_both : (a b : Kinds) → or_else a b ≡ [] → (a ≡ []) × (b ≡ [])
none_both [] b e = (refl, e)
none_both (k ∷ ks) b e = absurd cc

-- ---- values
one_accepted : (v : Text) (b : Bool) (k : Kinds) → accepts false (Unsigned 1 1000000) v ≡ b → (if b then [] else k) ≡ [] → (k ≡ [] → ⊥) → IsAccepted v
one_accepted v true k is e n = is
one_accepted v false k is e n = absurd (n e)

pub all_accepted : (vs : List Text) → values_kinds false (Unsigned 1 1000000) vs ≡ [] → AllByRecursion IsAccepted vs
all_accepted [] e = tt
all_accepted (v ∷ vs) e =
    let parts = none_both (value_kinds false (Unsigned 1 1000000) v) (values_kinds false (Unsigned 1 1000000) vs) e in
    (one_accepted v (accepts false (Unsigned 1 1000000) v) _ refl parts.0 (λ bad. cc), all_accepted vs parts.1)

-- ---- rows
row_changed : (id : Text) (change : Row → List Row) (missing : List Row) (r : Row) (rs : List Row) (b : Bool) → bytes_eq r.id id ≡ b → AllPass (r ∷ rs)
    → (bytes_eq r.id id ≡ true → Passes r → AllPass (change r)) → AllPass (at_row id change missing rs) → AllPass (if b then change r ++ rs else r ∷ at_row id change missing rs)
row_changed id change missing r rs true is a f g = all_append Passes (change r) rs (f is a.0) a.1
row_changed id change missing r rs false is a f g = (a.0, g)

changed : (id : Text) (change : Row → List Row) (missing rs : List Row) → AllPass rs → ((r : Row) → bytes_eq r.id id ≡ true → Passes r → AllPass (change r)) → AllPass missing
    → AllPass (at_row id change missing rs)
changed id change missing [] a f m = m
changed id change missing (r ∷ rs) a f m = row_changed id change missing r rs (bytes_eq r.id id) refl a (f r) (changed id change missing rs a.1 f m)

gone : (id : Text) (rs : List Row) → AllPass rs → AllPass (without id rs)
gone id rs a = changed id (λ r. []) [] rs a (λ r e p. tt) tt

-- rows of one id
same_id : (r : Row) (id : Text) → bytes_eq r.id id ≡ true → IsOfSteps r.id → IsOfSteps id
same_id r id e o = subst IsOfSteps ((bytes_eq-Decides r.id id).0 e) o

-- values under an id
valued : (id : Text) (how : Reading) (s : ValueSource) (vs : List Text) (rs : List Row) → (IsOfSteps id → ReadsAccepted how vs) → AllPass rs → AllPass (with_values id how s vs rs)
valued id how s vs rs h a =
    changed id (more_values s vs) _ rs a
    (λ r e p. ((λ o. let here = p o in let now = h (same_id r id e o) in (here.0, all_append IsAccepted r.values vs here.1 now.1)), tt))
    (h, tt)

-- a count under an id that isn't that one
tallied : (id : Text) (how : Reading) (s : ValueSource) (n : ℕ) (rs : List Row) → (IsOfSteps id → ⊥) → AllPass rs → AllPass (with_count id how s n rs)
tallied id how s n rs other a = changed id (new_count s n) _ rs a (λ r e p. ((λ o. absurd (other (same_id r id e o))), tt)) ((λ o. absurd (other o)), tt)

counts : (id : Text) (how : Reading) (vs : List Text) (rs : List Row) → (IsOfSteps id → ⊥) → AllPass rs → AllPass (counted id how vs rs)
counts id how [] rs other a = tallied id how CommandLine (min (count_of id rs + 1) 255) (without id rs) other (gone id rs a)
counts id how (v ∷ vs) rs other a = valued id how CommandLine (v ∷ vs) (without id rs) (λ o. absurd (other o)) (gone id rs a)

-- ---- a use
by_action : (x : ArgAction) (id : Text) (how : Reading) (vs : List Text) (rs : List Row) → (IsOfSteps id → x ≡ action.Set) → (IsOfSteps id → ReadsAccepted how vs) → AllPass rs → AllPass (used_as x id how vs rs)
by_action action.Set id how vs rs is h a = valued id how CommandLine vs (without id rs) h (gone id rs a)
by_action action.SetTrue id how vs rs is h a = valued id how CommandLine vs (without id rs) h (gone id rs a)
by_action action.SetFalse id how vs rs is h a = valued id how CommandLine vs (without id rs) h (gone id rs a)
by_action action.Append id how vs rs is h a = valued id how CommandLine vs rs h a
by_action action.Count id how vs rs is h a = counts id how vs rs (λ o. let bad = is o in cc) a
by_action action.Help id how vs rs is h a = a
by_action action.HelpShort id how vs rs is h a = a
by_action action.HelpLong id how vs rs is h a = a
by_action action.Version id how vs rs is h a = a

-- the values of a use, where nothing is refused
given_values : (a : Rule) (vs : List Text) → a.missing ≡ [] → AllByRecursion IsAccepted vs → AllByRecursion IsAccepted (values_or_missing a vs)
given_values a [] m h = subst (AllByRecursion IsAccepted) (sym m) tt
given_values a (v ∷ vs) m h = h

use_accepted : (again : Bool) (a : Rule) (vs : List Text) (rs : List Row) → IsStepsRule a → use_fault again a vs rs ≡ [] → AllByRecursion IsAccepted (values_or_missing a vs)
use_accepted again a vs rs r e =
    let raw = values_or_missing a vs in
    let asked = none_both (range_kinds (unwrap_or_range a.range).start_inclusive (most_values a) (length vs)) (action_fault (action_of a) again a raw rs) e in
    let set : set_fault again a raw rs ≡ [] = ap (λ x. action_fault x again a raw rs) (sym r.0) ∙ asked.1 in
    r.4 raw (none_both (repeat_fault again a.id rs) (values_fault a raw) set).1

pub used_passes : (again : Bool) (a : Rule) (vs : List Text) (rs : List Row) → Fits a → use_fault again a vs rs ≡ [] → AllPass rs → AllPass (used a vs rs)
used_passes again a vs rs f e p =
    by_action (action_of a) a.id (reading_by a) (values_or_missing a vs) rs (λ o. (f o).0) (λ o. ((f o).1, use_accepted again a vs rs (f o) e)) p

-- ---- what is pending
found_by : (b : Bool) (a : Rule) (o : Option Rule) → Fits a → IfFits o → IfFits (if b then Some a else o)
found_by true a o f g = f
found_by false a o f g = g

pub found : (test : Rule → Bool) (c : List Rule) → AllByRecursion Fits c → IfFits (find test c)
found test [] f = tt
found test (a ∷ c) f = found_by (test a) a (find test c) f.0 (found test c f.1)

used_where : (again : Bool) (o : Option Rule) (vs : List Text) (rs : List Row) → IfFits o → option_map_or (λ a. use_fault again a vs rs) o [] ≡ [] → AllPass rs → AllPass (used_by_id o vs rs)
used_where again None vs rs f e p = p
used_where again (Some a) vs rs f e p = used_passes again a vs rs f e p

pub settled_pass : (c : List Rule) (again : Bool) (held : Option (Text × List Text)) (rs : List Row) → AllByRecursion Fits c
    → option_map_or (λ p. option_map_or (λ a. use_fault again a p.1 rs) (arg_by_id c p.0) []) held [] ≡ [] → AllPass rs → AllPass (settled_rows c held rs)
settled_pass c again None rs f e p = p
settled_pass c again (Some h) rs f e p = used_where again (arg_by_id c h.0) h.1 rs (found (λ a. bytes_eq a.id h.0) c f) e p

-- ---- defaults
defaulted : (id : Text) (how : Reading) (vs : List Text) (rs : List Row) → (IsOfSteps id → vs ≡ []) → AllPass rs → AllPass (default_rows id how vs rs)
defaulted id how [] rs none p = p
defaulted id how (v ∷ vs) rs none p = valued id how DefaultValue (v ∷ vs) rs (λ o. let bad = none o in absurd cc) p

with_default_passes : (a : Rule) (rs : List Row) → Fits a → AllPass rs → AllPass (with_default rs a)
with_default_passes a rs f p = here (has_row a.id rs)
  where
    here : (b : Bool) → AllPass (if b then rs else default_rows a.id (reading_by a) a.defaults rs)
    here true = p
    here false = defaulted a.id (reading_by a) a.defaults rs (λ o. (f o).3) p

pub defaults_pass : (c : List Rule) (rs : List Row) → AllByRecursion Fits c → AllPass rs → AllPass (fold with_default rs c)
defaults_pass [] rs f p = p
defaults_pass (a ∷ c) rs f p = defaults_pass c (with_default rs a) f.1 (with_default_passes a rs f.0 p)
