-- A name more in the index.
use Rattle.std.specs.Prelude.{ℕ, zero, suc, ◌+◌, ◌<◌, ◌≡◌, Bool, true, false, cond, take, List, [], ◌∷◌, ◌++◌, length, slice_get, Option, Some}
use Rattle.std.specs.List.{AllByRecursion, filter}
use Rattle.std.proofs.Common.{refl, sym, ap, ◌∙◌, subst, arith, length-append}
use Rattle.std.proofs.lemmas.List.{length-take-le, take_more}
use Rattle.std.proofs.lemmas.Option.{get_or_from_slice_get, slice_get_within}
use Rattle.ae_base.specs.Options.{or_else, ◌>>=◌}
use Rattle.ae_base.proofs.AllOf.{all_push, all_weaker}
use Rattle.ae_base.proofs.ListFacts.{get_before, get_seam}
use Rattle.ae_journal.specs.Triggers.{numbers_below}
use Rattle.ae_known.specs.Index.{has_head, passes_at, is_listed, with_name, with_head, with_argument, HasHeads}
use Rattle.ae_known.specs.declared.known.Known.{Known}
use Rattle.ae_known.proofs.IndexLaws.{AreEntered, HaveArguments, one_more, arguments_more}
use Rattle.ae_store.specs.declared.nodes.Node.{Node}
use Rattle.ae_store.specs.declared.nodes.NodeHead.{NodeHead}

filter_agrees : (f e : ℕ → Bool) (xs : List ℕ) → AllByRecursion (λ m. f m ≡ e m) xs → filter f xs ≡ filter e xs
filter_agrees f e [] a = refl
filter_agrees f e (x ∷ xs) a = λ i. cond (a.0 i) (x ∷ filter_agrees f e xs a.1 i) (filter_agrees f e xs a.1 i)

all_below : (n : ℕ) → AllByRecursion (λ m. m < n) (numbers_below n)
all_below zero = tt
all_below (suc n) = all_push (λ m. m < suc n) (numbers_below n) n (all_weaker (λ m. m < n) (λ m. m < suc n) (λ m l. omega (arith, l)) (numbers_below n) (all_below n)) (omega arith)

module _ (ns : List Node) (x : Node) where
  abbrev more : List Node
  more = ns ++ x ∷ []

  passes_before : (h : NodeHead) (m : ℕ) → m < length ns → passes_at (has_head h) ns m ≡ passes_at (has_head h) more m
  passes_before h m lt = ap (λ (o : Option Node). or_else (o >>= λ y. Some (has_head h y)) false) (sym (get_before ns (x ∷ []) m lt))

  entered_before : (k : Known) → HasHeads ns k → AreEntered more (length ns) k
  entered_before k has h =
      has.heads h
      ∙ filter_agrees (passes_at (has_head h) ns) (passes_at (has_head h) more) (numbers_below (length ns))
      (all_weaker (λ m. m < length ns) (λ m. passes_at (has_head h) ns m ≡ passes_at (has_head h) more m) (λ m lt. passes_before h m lt) (numbers_below (length ns)) (all_below (length ns)))

  arguments_before : (k : Known) → HasHeads ns k → HaveArguments more (length ns) k
  arguments_before k has m y lt at place a arg = has.arguments m y (sym (get_before ns (x ∷ []) m lt) ∙ at) place a arg

  pub heads_more : (old new : Known) → HasHeads ns old → ((h : NodeHead) → with_head new h ≡ cond (has_head h x) (with_name (length ns) (with_head old h)) (with_head old h))
      → ((place a : ℕ) → slice_get x.args place ≡ Some a → is_listed (length ns) (with_argument new x.head place a) ≡ true)
      → ((h : NodeHead) (place a m : ℕ) → is_listed m (with_argument old h place a) ≡ true → is_listed m (with_argument new h place a) ≡ true) → HasHeads (ns ++ x ∷ []) new
  heads_more old new has heads own offered =
      let at : slice_get more (length ns) ≡ Some x = get_seam ns [] x in
      let count : length more ≡ length ns + 1 = length-append ns (x ∷ []) in
      let all = one_more more (length ns) old new x at (entered_before old has) heads in
      let args = arguments_more more (length ns) old new x at (arguments_before old has) own offered in
      record {
        heads = λ h. all h ∙ ap (λ (n : ℕ). filter (passes_at (has_head h) more) (numbers_below n)) (sym count);
        arguments = λ m y e place a arg. args m y (omega (arith, slice_get_within more m y e, count)) e place a arg;
      }

-- the first names, one more
pub next_entered : (ns : List Node) (n : ℕ) (x : Node) (old new : Known) → slice_get ns n ≡ Some x → HasHeads (take n ns) old
    → ((h : NodeHead) → with_head new h ≡ cond (has_head h x) (with_name n (with_head old h)) (with_head old h))
    → ((place a : ℕ) → slice_get x.args place ≡ Some a → is_listed n (with_argument new x.head place a) ≡ true)
    → ((h : NodeHead) (place a m : ℕ) → is_listed m (with_argument old h place a) ≡ true → is_listed m (with_argument new h place a) ≡ true) → HasHeads (take (n + 1) ns) new
next_entered ns n x old new at has heads own offered =
    let lt : n < length ns = slice_get_within ns n x at in
    let count : n ≡ length (take n ns) = sym (length-take-le n ns (omega (arith, lt))) in
    subst (λ (zs : List Node). HasHeads zs new) (sym (take_more ns n x lt ∙ ap (λ (w : Node). take n ns ++ w ∷ []) (get_or_from_slice_get ns n x x at)))
    (heads_more (take n ns) x old new has
    (λ h. heads h ∙ ap (λ (m : ℕ). cond (has_head h x) (with_name m (with_head old h)) (with_head old h)) count)
    (λ place a e. subst (λ (m : ℕ). is_listed m (with_argument new x.head place a) ≡ true) count (own place a e)) offered)
