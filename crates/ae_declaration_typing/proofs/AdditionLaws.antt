-- Nodes behind others, one after another.
use Rattle.std.proofs.Common.{arith, ◌≡◌, ◌∙◌, ℕ, zero, suc, ◌+◌, ◌<◌, ◌≤◌, List, [], ◌∷◌, ◌++◌, length, map, take, get_or, Some, refl, sym, ap, subst, slice_get}
use Rattle.std.proofs.lemmas.List.{map_push, take_more, take_all}
use Rattle.ae_core.specs.declared.terms.Head.TheVariants as head
use Rattle.ae_core.specs.declared.terms.Sort.{Sort, Rigid}
use Rattle.ae_declaration_typing.specs.Definitions.{applied}
use Rattle.ae_declaration_typing.specs.Inner.Additions.{Adds, AddsTrees, AddsTree, AddsClaim, own_args}
use Rattle.ae_elab.specs.declared.nodes.Pattern.{Pattern}
use Rattle.ae_elab.specs.declared.typings.Bound as code
use Rattle.ae_elab.specs.Declarations.{defining, formal_args, rigids}
use Rattle.ae_elab.specs.Environments.{Bench, entries, locals}
use Rattle.ae_elab.specs.Nodes.{Entry, a_tree, a_claim, AreTrees, IsTree, IsClaim, claim_at, patterns_at, trees_at}
use Rattle.ae_elab.specs.Trees.{Tree, Trees, Claim, trees, variable}
use Rattle.ae_elab.specs.Trees as tree
use Rattle.ae_elab.specs.Typings.{bound_in}
use Rattle.ae_elab.proofs.NodeLaws.{begins_itself, begins_on, claim_is, later_trees, pushed, tree_is, trees_are}
use Rattle.ae_syntax.specs.declared.exprs.Quantifier.TheVariants as quantifier
use Rattle.ae_syntax.specs.declared.spans.Span.{Span}

pub adds_none : (b : Bench) → Adds b b
adds_none b = record { kept = begins_itself (entries b); locals = refl }

pub adds_on : (a b c : Bench) → Adds a b → Adds b c → Adds a c
adds_on a b c x y = record { kept = begins_on (entries a) (entries b) (entries c) x.kept y.kept; locals = y.locals ∙ x.locals }

-- a node behind the others
module _ (old new : Bench) (e : Entry) (n : ℕ) (place : n ≡ length (entries old)) (nodes : entries new ≡ entries old ++ e ∷ []) (same : locals new ≡ locals old) where
  pub adds_one : Adds old new
  adds_one = record { kept = (e ∷ [], nodes); locals = same }

  pub stands_last : slice_get (entries new) n ≡ Some e
  stands_last = ap (slice_get (entries new)) place ∙ ap (λ es. slice_get es (length (entries old))) nodes ∙ pushed (entries old) e

-- ---- one term behind others
pub are_more : (es : List Entry) (ns : List ℕ) (ts : List Tree) (n : ℕ) (t : Tree) → AreTrees es ns (trees ts) → IsTree es n t → AreTrees es (ns ++ n ∷ []) (trees (ts ++ t ∷ []))
are_more es [] [] n t a b = (b, tt)
are_more es (k ∷ ns) (u ∷ ts) n t a b = (a.0, are_more es ns ts n t a.1 b)
are_more es [] (u ∷ ts) n t a b = absurd a
are_more es (k ∷ ns) [] n t a b = absurd a

abbrev pub own : code.Bound → Tree
own b = variable b.number

-- the variables of formal parameters
module _ (start now next : Bench) (bs : List code.Bound) (i : ℕ) (ns : List ℕ) (b : code.Bound) (n : ℕ) where
  pub formals_more : i < length bs → b ≡ get_or bs i b → AddsTrees start now (own_args (take i bs)) ns
      → n ≡ length (entries now) → entries next ≡ entries now ++ a_tree (own b) ∷ [] → locals next ≡ locals now → (ms : List ℕ) → ms ≡ ns ++ n ∷ []
      → AddsTrees start next (own_args (take (i + 1) bs)) ms
  formals_more l is a place nodes same ms longer =
      let one = adds_one now next (a_tree (own b)) n place nodes same in
      let last = stands_last now next (a_tree (own b)) n place nodes same in
      record {
        adds = adds_on start now next a.adds one;
        stand = subst (λ zs. AreTrees (entries next) zs (own_args (take (i + 1) bs))) (sym longer)
            (subst (λ zs. AreTrees (entries next) (ns ++ n ∷ []) (trees zs))
            (sym (ap (map own) (take_more bs i b l ∙ ap (λ z. take i bs ++ z ∷ []) (sym is)) ∙ map_push own (take i bs) b))
            (are_more (entries next) ns (map own (take i bs)) n (own b) (later_trees (entries now) (entries next) one.kept ns (own_args (take i bs)) a.stand) last));
      }

pub formals_all : (start now : Bench) (bs : List code.Bound) (i : ℕ) (ns : List ℕ) → length bs ≤ i → AddsTrees start now (own_args (take i bs)) ns → AddsTrees start now (own_args bs) ns
formals_all start now bs i ns l a = subst (λ zs. AddsTrees start now (own_args zs) ns) (take_all i bs l) a

-- they are the arguments of the definition
pub own_args_are : (text : List ℕ) (bs : List code.Bound) → own_args bs ≡ formal_args (map (bound_in text) bs)
own_args_are text [] = refl
own_args_are text (b ∷ bs) = ap (tree.more (own b)) (own_args_are text bs)

-- ---- type variables
rigids_from : (k i : ℕ) → rigids k (suc i) ≡ rigids k i ++ Rigid (k + i) ∷ []
rigids_from k zero = ap (λ z. Rigid z ∷ []) (let e : k ≡ k + 0 = omega arith in e)
rigids_from k (suc i) = ap (λ z. Rigid k ∷ z) (rigids_from (suc k) i ∙ ap (λ z. rigids (suc k) i ++ Rigid z ∷ []) (let e : suc k + i ≡ k + suc i = omega arith in e))

pub rigids_more : (i : ℕ) → rigids 0 (i + 1) ≡ rigids 0 i ++ Rigid i ∷ []
rigids_more i =
    ap (rigids 0) (let e : i + 1 ≡ suc i = omega arith in e) ∙ rigids_from 0 i ∙ ap (λ z. rigids 0 i ++ Rigid z ∷ []) (let e : 0 + i ≡ i = omega arith in e)

-- ---- the defined symbol applied to them
module _ (old mid new : Bench) (ts : Trees) (us : List ℕ) (a : AddsTrees old mid ts us) (n k : ℕ) (ss rs : List Sort) (sorts : ss ≡ rs) (place : n ≡ length (entries mid)) (same : locals new ≡ locals mid) where
  pub application_adds : entries new ≡ entries mid ++ a_tree (tree.apply (head.Symbol k) ss (trees_at (entries mid) us)) ∷ [] → AddsTree old new (tree.apply (head.Symbol k) rs ts) n
  application_adds nodes =
      let as_given : entries new ≡ entries mid ++ a_tree (tree.apply (head.Symbol k) rs ts) ∷ [] =
      nodes ∙ ap (λ z. entries mid ++ a_tree (tree.apply (head.Symbol k) z (trees_at (entries mid) us)) ∷ []) sorts
      ∙ ap (λ z. entries mid ++ a_tree (tree.apply (head.Symbol k) rs z) ∷ []) (trees_are (entries mid) us ts a.stand) in
      let e = a_tree (tree.apply (head.Symbol k) rs ts) in
      record { adds = adds_on old mid new a.adds (adds_one mid new e n place as_given same); stands = stands_last mid new e n place as_given same }

  pub atom_adds : entries new ≡ entries mid ++ a_claim (tree.predicate k ss (trees_at (entries mid) us)) ∷ [] → AddsClaim old new (tree.predicate k rs ts) n
  atom_adds nodes =
      let as_given : entries new ≡ entries mid ++ a_claim (tree.predicate k rs ts) ∷ [] =
      nodes ∙ ap (λ z. entries mid ++ a_claim (tree.predicate k z (trees_at (entries mid) us)) ∷ []) sorts
      ∙ ap (λ z. entries mid ++ a_claim (tree.predicate k rs z) ∷ []) (trees_are (entries mid) us ts a.stand) in
      let e = a_claim (tree.predicate k rs ts) in
      record { adds = adds_on old mid new a.adds (adds_one mid new e n place as_given same); stands = stands_last mid new e n place as_given same }

-- ---- a formula for all formal parameters
pub none_defined : (text : List ℕ) (bs : List code.Bound) (place : Span) (t : Tree) (f : Claim) → length bs ≡ 0 → defining (map (bound_in text) bs) place t f ≡ f
none_defined text [] place t f e = refl
none_defined text (b ∷ bs) place t f e = absurd (omega (arith, e))

abbrev block_of : List ℕ → List Sort → Span → Tree → Claim → Claim
block_of vs ss place t f = tree.quantified quantifier.Forall vs ss (tree.and_pattern place (tree.more t tree.none) tree.no_pattern) f

some_defined : (text : List ℕ) (bs : List code.Bound) (place : Span) (t : Tree) (f : Claim) → (bs ≡ [] → ⊥)
    → defining (map (bound_in text) bs) place t f ≡ block_of (map (λ b. b.number) (map (bound_in text) bs)) (map (λ b. b.sort) (map (bound_in text) bs)) place t f
some_defined text [] place t f e = absurd (e refl)
some_defined text (b ∷ bs) place t f e = refl

numbers_are : (text : List ℕ) (bs : List code.Bound) → map (λ b. b.number) (map (bound_in text) bs) ≡ map (λ b. b.number) bs
numbers_are text [] = refl
numbers_are text (b ∷ bs) = ap (λ z. b.number ∷ z) (numbers_are text bs)

pub sorts_are : (text : List ℕ) (bs : List code.Bound) → map (λ b. b.sort) (map (bound_in text) bs) ≡ map (λ b. b.sort) bs
sorts_are text [] = refl
sorts_are text (b ∷ bs) = ap (λ z. b.sort ∷ z) (sorts_are text bs)

module _ (old new : Bench) (text : List ℕ) (bs : List code.Bound) (some : bs ≡ [] → ⊥) (place : Span) (i j n : ℕ) (t : Tree) (f : Claim) (a : IsTree (entries old) i t) (b : IsClaim (entries old) j f) where
  pub block_adds : (vs : List ℕ) (ss : List Sort) (ps : List Pattern) → vs ≡ map (λ b. b.number) bs → ss ≡ map (λ b. b.sort) bs → ps ≡ record { place = place; terms = i ∷ [] } ∷ []
      → n ≡ length (entries old) → entries new ≡ entries old ++ a_claim (tree.quantified quantifier.Forall vs ss (patterns_at (entries old) ps) (claim_at (entries old) j)) ∷ [] → locals new ≡ locals old
      → AddsClaim old new (defining (map (bound_in text) bs) place t f) n
  block_adds vs ss ps numbers sorts triggers at_end nodes same =
      let es = entries old in
      let as_given : tree.quantified quantifier.Forall vs ss (patterns_at es ps) (claim_at es j) ≡ defining (map (bound_in text) bs) place t f =
      ap (λ z. tree.quantified quantifier.Forall z ss (patterns_at es ps) (claim_at es j)) (numbers ∙ sym (numbers_are text bs))
      ∙ ap (λ z. tree.quantified quantifier.Forall (map (λ b. b.number) (map (bound_in text) bs)) z (patterns_at es ps) (claim_at es j)) (sorts ∙ sym (sorts_are text bs))
      ∙ ap (λ z. tree.quantified quantifier.Forall (map (λ b. b.number) (map (bound_in text) bs)) (map (λ b. b.sort) (map (bound_in text) bs)) (patterns_at es z) (claim_at es j)) triggers
      ∙ ap (λ z. block_of (map (λ b. b.number) (map (bound_in text) bs)) (map (λ b. b.sort) (map (bound_in text) bs)) place z (claim_at es j)) (tree_is es i t a)
      ∙ ap (λ z. block_of (map (λ b. b.number) (map (bound_in text) bs)) (map (λ b. b.sort) (map (bound_in text) bs)) place t z) (claim_is es j f b)
      ∙ sym (some_defined text bs place t f some) in
      let e = a_claim (defining (map (bound_in text) bs) place t f) in
      let last : entries new ≡ es ++ e ∷ [] = nodes ∙ ap (λ z. es ++ a_claim z ∷ []) as_given in
      record { adds = adds_one old new e n at_end last same; stands = stands_last old new e n at_end last same }

-- ---- what definitions add
module _ (old one two new : Bench) (i j n : ℕ) (f : Claim) where
  -- a formula behind a term, and then a formula of both
  pub claim_on : Adds old one → (g : Claim) → j ≡ length (entries one) → entries two ≡ entries one ++ a_claim g ∷ [] → locals two ≡ locals one → (IsClaim (entries two) j g → AddsClaim two new f n) → AddsClaim old new f n
  claim_on a g place nodes same more =
      let e = a_claim g in
      let last = more (stands_last one two e j place nodes same) in
      record { adds = adds_on old two new (adds_on old one two a (adds_one one two e j place nodes same)) last.adds; stands = last.stands }

-- ---- the defined symbol's application in the definition's words
module _ (text : List ℕ) (old new : Bench) (bs : List code.Bound) (n k vars : ℕ) where
  pub application_of : AddsTree old new (tree.apply (head.Symbol k) (rigids 0 vars) (own_args bs)) n → AddsTree old new (applied k vars (map (bound_in text) bs)) n
  application_of a = subst (λ z. AddsTree old new (tree.apply (head.Symbol k) (rigids 0 vars) z) n) (own_args_are text bs) a

  pub atom_of : AddsClaim old new (tree.predicate k (rigids 0 vars) (own_args bs)) n → AddsClaim old new (tree.predicate k (rigids 0 vars) (formal_args (map (bound_in text) bs))) n
  atom_of a = subst (λ z. AddsClaim old new (tree.predicate k (rigids 0 vars) z) n) (own_args_are text bs) a
