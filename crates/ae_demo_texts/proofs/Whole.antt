-- The whole text: its tokens, its tree and its problem.
use Rattle.std.proofs.Common.{ℕ, zero, suc, ◌+◌, ◌≤◌, ◌<◌, ◌^◌, Bool, true, false, List, [], ◌∷◌, ◌++◌, ◌≡◌, length, map, refl, sym, ap, ◌∙◌, subst, arith, append_assoc, append-nil, nat_lt, Option, Some, None}
use Rattle.std.specs.List.{AllByRecursion}
use Rattle.std.proofs.lemmas.List.Elements.{All-from_recursion}
use Rattle.ae_base.specs.Relations.{Pairwise}
use Rattle.ae_base.proofs.AllOf.{all_push}
use Rattle.ae_core.specs.Signatures.{IsLawfulItem}
use Rattle.ae_core.specs.Sorts.{is_closed_sort, sort_ok}
use Rattle.ae_core.specs.declared.problems.Item.{Item}
use Rattle.ae_core.specs.declared.problems.Item.TheVariants.{Goal as GoalItem}
use Rattle.ae_core.specs.declared.problems.Signature.{Signature}
use Rattle.ae_core.specs.declared.problems.Problem.{Problem}
use Rattle.ae_core.specs.declared.terms.Sort.{Sort, Var}
use Rattle.ae_core.specs.declared.formulas.Formula.{Formula}
use Rattle.ae_gen.specs.Demo.{demo_text, opening, in_turn, goal_line}
use Rattle.ae_lex.specs.Lexis.{IsCut}
use Rattle.ae_lex.specs.declared.kinds.Token.{Token}
use Rattle.ae_syntax.specs.Depth.{depths}
use Rattle.ae_syntax.specs.Files.{IsParsed}
use Rattle.ae_syntax.specs.declared.decls.File.{File}
use Rattle.ae_elab.specs.Conditions.{IsPrincipal, shown}
use Rattle.ae_elab.specs.Declarations.{Declared, Draft, decls_rule, no_declarations}
use Rattle.ae_elab.specs.Elaboration.{formula_in}
use Rattle.ae_elab.specs.Numbering.{numbered_sort, sorts_in, variables_among_sorts, with_sorts}
use Rattle.ae_elab.specs.Problems.{IsTyped, first_large, formula_of_draft, is_small, item_as, item_of}
use Rattle.ae_elab.specs.Sizes.{formula_size, is_within}
use Rattle.ae_elab.specs.Steps.{IsTaken}
use Rattle.ae_elab.proofs.PutLaws.{put_var}
use Rattle.ae_demo_texts.specs.Problems.{HasProblem, IsClosedGoal, IsSimpleGoal}
use Rattle.ae_demo_texts.proofs.Demos.{IsSmallGoal, demo_goal, demo_line, goal_fits, goal_is, goal_small}
use Rattle.ae_demo_texts.proofs.Elaborated.{chain_formula, chain_in, chain_sized}
use Rattle.ae_demo_texts.proofs.Files.{IsDraft, ReadsFile, file_more, start, stating}
use Rattle.ae_demo_texts.proofs.Opening.{demo_signature, opening_pieces, opening_read, opening_right, opening_text}
use Rattle.ae_demo_texts.proofs.Parses.{draft_of, goal_read}
use Rattle.ae_demo_texts.proofs.Phrases.{Goal, goal_pieces, goal_right, joined}
use Rattle.ae_demo_texts.proofs.Pieces.{Piece, text_of, tokens_of, AreRight, AreSpelt, cut, parted, spelt, text_append}
use Rattle.ae_demo_texts.proofs.Simple.{chain_alike, chain_kept, simple_chain}
use Rattle.ae_demo_texts.proofs.Taken.{give_taken}
use Rattle.ae_demo_texts.proofs.Texts.{goal_written}

abbrev goals_to : ℕ → List Goal
goals_to zero = []
goals_to (suc n) = goals_to n ++ (demo_goal n ∷ [])

abbrev pieces_to : ℕ → List Piece
pieces_to zero = opening_pieces
pieces_to (suc n) = pieces_to n ++ goal_pieces (demo_goal n)

-- ---- the text
written_to : (n : ℕ) → text_of (pieces_to n) ≡ opening ++ in_turn goal_line n
written_to zero = opening_text ∙ sym (append-nil opening)
written_to (suc n) =
    text_append (pieces_to n) (goal_pieces (demo_goal n))
    ∙ (λ i. written_to n i ++ (goal_written (demo_goal n) ∙ demo_line n) i)
    ∙ append_assoc opening (in_turn goal_line n) (goal_line n)

text_is : (n : ℕ) → demo_text n ≡ text_of (pieces_to n)
unfolding demo_text
text_is n = sym (written_to n)

right_to : (n : ℕ) → n ≤ 2 ^ 64 → (qs : List Piece) → AreRight qs → AreRight (pieces_to n ++ qs)
right_to zero le qs r = opening_right qs r
right_to (suc n) le qs r = joined (pieces_to n) (goal_pieces (demo_goal n)) qs (right_to n (omega (arith, le)) (goal_pieces (demo_goal n) ++ qs) (goal_right (demo_goal n) qs (goal_is n (omega (arith, le))) r))

right_whole : (n : ℕ) → n ≤ 2 ^ 64 → AreRight (pieces_to n)
right_whole n le = subst AreRight (append-nil (pieces_to n)) (right_to n le [] tt)

-- ---- the file
read_to : (text : List ℕ) (n : ℕ) (ts : List Token) → AreSpelt text ts (pieces_to n) → ReadsFile text ts demo_signature (goals_to n)
read_to text zero ts h = opening_read text ts h
read_to text (suc n) ts h =
    let g = demo_goal n in
    let parts = parted text ts (pieces_to n) (goal_pieces g) h in
    let fits = goal_fits n in
    subst (λ z. ReadsFile text z demo_signature (goals_to (suc n))) (sym parts.cut)
    (file_more text parts.first parts.second demo_signature demo_signature (goals_to n) (g ∷ []) (λ d. draft_of text demo_signature d.span g ∷ []) (length g.given + 2) (read_to text n parts.first parts.front)
    (goal_read text demo_signature g parts.second fits.given fits.then parts.back) (goal_small n).depth (λ d. (record { goal = refl; claim = refl }, tt)))

-- ---- its problem
small_to : (n : ℕ) → AllByRecursion IsSmallGoal (goals_to n)
small_to zero = tt
small_to (suc n) = all_push IsSmallGoal (goals_to n) (demo_goal n) (small_to n) (goal_small n)

formula_is : (m : ℕ → Sort) (d : Draft) (g : Goal) → IsDraft d g → formula_of_draft m d ≡ chain_formula g.given g.then
formula_is m d g h = ap (formula_in m []) h.claim ∙ chain_in m g.given g.then

small_draft : (m : ℕ → Sort) (d : Draft) (g : Goal) → IsDraft d g → IsSmallGoal g → is_small m d ≡ true
small_draft m d g h s = ap (λ f. is_within (formula_size f)) (formula_is m d g h) ∙ ap is_within (chain_sized g.given g.then) ∙ s.size

none_large : (m : ℕ → Sort) (ds : List Draft) (gs : List Goal) → Pairwise IsDraft ds gs → AllByRecursion IsSmallGoal gs → first_large m ds ≡ None
none_large m [] [] p a = refl
none_large m (d ∷ ds) (g ∷ gs) p a =
    ap (λ (b : Bool). elim b as (λ _. Option Draft) [ true ↦ first_large m ds | false ↦ Some d ]) (small_draft m d g p.0 a.0) ∙ none_large m ds gs p.1 a.1
none_large m [] (g ∷ gs) p a = absurd p
none_large m (d ∷ ds) [] p a = absurd p

-- ---- its items
kept_as : (m : ℕ → Sort) (d : Draft) (g : Goal) → IsDraft d g → (vs : List Sort) → with_sorts (numbered_sort true vs) (formula_of_draft m d) ≡ chain_formula g.given g.then
kept_as m d g h vs = ap (with_sorts (numbered_sort true vs)) (formula_is m d g h) ∙ chain_kept (numbered_sort true vs) g.given g.then

-- what holds of the goal with its formula holds of the item
of_item : (P : Item → Type 0) (m : ℕ → Sort) (d : Draft) (g : Goal) → IsDraft d g → ((name : List ℕ) (n : ℕ) → P (GoalItem name n (chain_formula g.given g.then))) → P (item_of m d)
of_item P m d g h p =
    let f = formula_of_draft m d in
    let vs = variables_among_sorts (sorts_in f) in
    subst (λ b. P (item_as b d.name (length vs) (with_sorts (numbered_sort b vs) f))) (sym h.goal)
    (subst (λ (k : Formula). P (GoalItem d.name (length vs) k)) (sym (kept_as m d g h vs)) (p d.name (length vs)))

simple_items : (m : ℕ → Sort) (ds : List Draft) (gs : List Goal) → Pairwise IsDraft ds gs → AllByRecursion IsSimpleGoal (map (item_of m) ds)
simple_items m [] [] p = tt
simple_items m (d ∷ ds) (g ∷ gs) p = (of_item IsSimpleGoal m d g p.0 (λ name n. simple_chain g.given g.then), simple_items m ds gs p.1)
simple_items m [] (g ∷ gs) p = absurd p
simple_items m (d ∷ ds) [] p = absurd p

closed_item : (sig : Signature) (m : ℕ → Sort) (d : Draft) (g : Goal) → IsDraft d g → IsLawfulItem sig (item_of m d) → IsClosedGoal sig (item_of m d)
closed_item sig m d g h =
    of_item (λ i. IsLawfulItem sig i → IsClosedGoal sig i) m d g h
    (λ name n lawful. sym (chain_alike sig (sort_ok sig (λ i. false) (λ i. nat_lt i n)) (is_closed_sort sig) g.given g.then) ∙ lawful.0)

closed_items : (sig : Signature) (m : ℕ → Sort) (ds : List Draft) (gs : List Goal) → Pairwise IsDraft ds gs → AllByRecursion (IsLawfulItem sig) (map (item_of m) ds) → AllByRecursion (IsClosedGoal sig) (map (item_of m) ds)
closed_items sig m [] [] p l = tt
closed_items sig m (d ∷ ds) (g ∷ gs) p l = (closed_item sig m d g p.0 l.0, closed_items sig m ds gs p.1 l.1)
closed_items sig m [] (g ∷ gs) p l = absurd p
closed_items sig m (d ∷ ds) [] p l = absurd p

-- where nothing is asked each sort may be put for each unknown
nothing_asked : IsPrincipal [] Var
nothing_asked = record { typing = tt; general = λ f h n. put_var f n }

module _ (text : List ℕ) (n : ℕ) (ts : List Token) (f : ReadsFile text ts demo_signature (goals_to n)) where
  abbrev tree : File
  tree = record { decls = f.declarations }

  abbrev problem : Problem
  problem = record { signature = demo_signature; items = map (item_of Var) f.drafts }

  parsed : IsParsed ts tree
  parsed = record { is = f.is; shallow = All-from_recursion (λ d. d ≤ 1000) (depths f.is 0) f.shallow }

  taken : IsTaken (decls_rule text no_declarations f.declarations) (start text) f.passed (stating demo_signature f.drafts)
  taken =
      subst (λ ds. IsTaken (decls_rule text no_declarations ds) (start text) f.passed (stating demo_signature f.drafts)) (append-nil f.declarations)
      (subst (λ fs. IsTaken (decls_rule text no_declarations (f.declarations ++ [])) (start text) f.passed (stating demo_signature fs)) (append-nil f.drafts)
      (f.goes [] f.passed demo_signature [] (give_taken (stating demo_signature []) f.passed)))

  typed : IsTyped text tree problem
  typed =
      let w = taken Var in
      record {
        typing = Var;
        principal = w.met [] nothing_asked;
        small = subst (λ (v : Declared). first_large (shown Var) v.drafts ≡ None) (sym w.value) (none_large (shown Var) f.drafts (goals_to n) f.are (small_to n));
        signature = sym (ap (λ (v : Declared). v.signature) w.value);
        items = sym (ap (λ (v : Declared). map (item_of Var) v.drafts) w.value);
      }

pub has_problem : (n : ℕ) → n < 2 ^ 64 → HasProblem n
has_problem n lt =
    let text = demo_text n in
    let ps = pieces_to n in
    let ts = tokens_of 0 ps in
    let f = read_to text n ts (spelt text [] ps (text_is n)) in
    record {
      tokens = ts;
      tokenized = subst (λ t. IsCut 0 t ts None) (sym (text_is n)) (cut 0 ps (right_whole n (omega (arith, lt))));
      file = tree text n ts f;
      parsed = parsed text n ts f;
      problem = problem text n ts f;
      typed = typed text n ts f;
      simple = simple_items Var f.drafts (goals_to n) f.are;
      closed = λ l. closed_items demo_signature Var f.drafts (goals_to n) f.are l.items;
    }
