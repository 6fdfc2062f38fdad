-- Terms that equal their own names alone, at each variant; lists of generators.
use Rattle.std.specs.Prelude.{ℕ, suc, ℤ, ◌≡◌, ◌≢◌, ◌≤◌, Bool, true, false, cond, List, [], ◌∷◌, ◌++◌, map, length, slice_get, Option, Some, None}
use Rattle.std.specs.List.{flat_map}
use Rattle.std.proofs.Common.{refl, sym, ap, ◌∙◌}
use Rattle.std.proofs.lemmas.Grind.{flat_map-append}
use Rattle.std.proofs.lemmas.List.{append-nil}
use Rattle.ae_core.proofs.Recursion.{para_bound, para_num, para_fresh, para_apply}
use Rattle.ae_core.specs.declared.terms.Sort.{Sort}
use Rattle.ae_core.specs.declared.terms.Head.{Head}
use Rattle.ae_core.specs.declared.terms.Term.{Term, Bound, Num, Fresh, Apply}
use Rattle.ae_core.specs.declared.problems.Signature.{Signature}
use Rattle.ae_store.specs.declared.nodes.Node.{Node}
use Rattle.ae_matching.specs.Views.{Store}
use Rattle.ae_matching.specs.declared.sorts.SortBinding.{SortBinding}
use Rattle.ae_matching.specs.declared.bindings.Bindings.{Bindings}
use Rattle.ae_matching.specs.SortMatching.{match_sorts}
use Rattle.ae_matching.specs.Generating.{applies, exact_found, with_sorts, Generator, each, sorted_then, bind_exact, own_node, own_step, own}
use Rattle.ae_matching.proofs.Complete.{seconds}
use Rattle.ae_match.specs.Seen.{applied, seen}
use Rattle.ae_finding.specs.Nodes.{own_at, from_each}
use Rattle.ae_finding.proofs.NodeLaws.{seen_missing, seen_at}

module _ (store : Store) where
  pub own_bound : (i n : ℕ) (env : Bindings) → own store (Bound i) n env ≡ bind_exact i n env (exact_found i env.names)
  unfolding own
  own_bound i n env = ap (λ f. f n env) (para_bound Generator (own_step store) i)

  pub own_num : (a b : ℤ) (r : Bool) (n : ℕ) (env : Bindings) → own store (Num a b r) n env ≡ env ∷ []
  unfolding own
  own_num a b r n env = ap (λ f. f n env) (para_num Generator (own_step store) a b r)

  pub own_fresh : (k : ℕ) (s : Sort) (n : ℕ) (env : Bindings) → own store (Fresh k s) n env ≡ env ∷ []
  unfolding own
  own_fresh k s n env = ap (λ f. f n env) (para_fresh Generator (own_step store) k s)

  pub own_apply : (h : Head) (ss : List Sort) (us : List Term) (n : ℕ) (env : Bindings) → own store (Apply h ss us) n env ≡ own_at store h ss us env n
  unfolding own
  own_apply h ss us n env =
      ap (λ f. f n env) (para_apply Generator (own_step store) h ss us) ∙ ap (λ fs. own_node store h ss fs env (slice_get store.nodes n)) (seconds (own store) us)

pub ruleset own_rules = (own_bound, own_num, own_fresh, own_apply)

-- ---- lists of generators
flat_nothing : {A B : Type 0} (xs : List A) → flat_map {X = A} {A = B} (λ x. []) xs ≡ []
flat_nothing [] = refl
flat_nothing (x ∷ xs) = flat_nothing xs

flat_same : {A B : Type 0} (f g : A → List B) → ((x : A) → f x ≡ g x) → (xs : List A) → flat_map f xs ≡ flat_map g xs
flat_same f g e [] = refl
flat_same f g e (x ∷ xs) = λ i. e x i ++ flat_same f g e xs i

lengths_differ : (fs : List Generator) (ns : List ℕ) (env : Bindings) → length fs ≢ length ns → each fs ns env ≡ []
lengths_differ [] [] env d = absurd (d refl)
lengths_differ [] (n ∷ ns) env d = refl
lengths_differ (f ∷ fs) [] env d = refl
lengths_differ (f ∷ fs) (n ∷ ns) env d = flat_same (each fs ns) (λ e. []) (λ e. lengths_differ fs ns e (λ q. d (ap suc q))) (f n env) ∙ flat_nothing (f n env)

flat_flat : {A B C : Type 0} (f : A → List B) (g : B → List C) (xs : List A) → flat_map g (flat_map f xs) ≡ flat_map (λ x. flat_map g (f x)) xs
flat_flat f g [] = refl
flat_flat f g (x ∷ xs) = flat_map-append g (f x) (flat_map f xs) ∙ ap (λ l. flat_map g (f x) ++ l) (flat_flat f g xs)

-- from one list of bindings
all_ends : (found : List Bindings) → found ≡ flat_map (each [] []) found
all_ends [] = refl
all_ends (b ∷ bs) = ap (λ l. b ∷ l) (all_ends bs)

from_is : (fs : List Generator) (ns : List ℕ) (found : List Bindings) → from_each fs ns found ≡ flat_map (each fs ns) found
from_is [] [] found = all_ends found
from_is [] (n ∷ ns) found = sym (flat_nothing found)
from_is (f ∷ fs) [] found = sym (flat_nothing found)
from_is (f ∷ fs) (n ∷ ns) found = from_is fs ns (flat_map (f n) found) ∙ flat_flat (f n) (each fs ns) found

pub from_start : (fs : List Generator) (ns : List ℕ) (env : Bindings) → from_each fs ns (env ∷ []) ≡ each fs ns env
from_start fs ns env = from_is fs ns (env ∷ []) ∙ append-nil (each fs ns env)

pub from_differ : (fs : List Generator) (ns : List ℕ) (found : List Bindings) → length fs ≢ length ns → from_each fs ns found ≡ []
from_differ fs ns found d = from_is fs ns found ∙ flat_same (each fs ns) (λ e. []) (λ e. lengths_differ fs ns e d) found ∙ flat_nothing found

-- ---- an application at a node
module _ (sig : Signature) (ns : List Node) (h : Head) (ss : List Sort) (us : List Term) (env : Bindings) (n : ℕ) where
  abbrev here : List Bindings
  here = own_at (seen sig ns) h ss us env n

  pub own_missing : length ns ≤ n → here ≡ []
  own_missing l = ap (own_node (seen sig ns) h ss (map (own (seen sig ns)) us) env) (seen_missing sig ns n l)

  module _ (x : Node) (at : slice_get ns n ≡ Some x) where
    abbrev case : Bool → Option (List SortBinding) → List Bindings
    case b o = cond b (sorted_then (map (own (seen sig ns)) us) x.args false env o) []

    own_seen : here ≡ case (applies h (applied x.head)) (match_sorts ss x.sorts env.sorts)
    own_seen = ap (own_node (seen sig ns) h ss (map (own (seen sig ns)) us) env) (seen_at sig ns n x at)

    pub own_other : applies h (applied x.head) ≡ false → here ≡ []
    own_other e = own_seen ∙ ap (λ b. case b (match_sorts ss x.sorts env.sorts)) e

    pub own_none : applies h (applied x.head) ≡ true → match_sorts ss x.sorts env.sorts ≡ None → here ≡ []
    own_none e m = own_seen ∙ ap (λ b. case b (match_sorts ss x.sorts env.sorts)) e ∙ ap (case true) m

    pub own_some : (bs : List SortBinding) → applies h (applied x.head) ≡ true → match_sorts ss x.sorts env.sorts ≡ Some bs → here ≡ each (map (own (seen sig ns)) us) x.args (with_sorts env bs)
    own_some bs e m = own_seen ∙ ap (λ b. case b (match_sorts ss x.sorts env.sorts)) e ∙ ap (case true) m ∙ append-nil (each (map (own (seen sig ns)) us) x.args (with_sorts env bs))
