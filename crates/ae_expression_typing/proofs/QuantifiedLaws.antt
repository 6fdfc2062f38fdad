-- Blocks: their variables, their triggers, their body, and the way out of them.
use Rattle.std.proofs.Common.{◌≡◌, ◌∙◌, ℕ, ◌++◌, List, [], ◌∷◌, map, length, reverse, ◌<◌, Some, None, refl, sym, ap, subst, arith}
use Rattle.std.proofs.lemmas.List.{length-map, length-reverse}
use Rattle.ae_core.specs.declared.terms.Sort.{Sort}
use Rattle.ae_types.specs.Bound.{bound}
use Rattle.ae_syntax.specs.declared.exprs.Expr.{Expr}
use Rattle.ae_syntax.specs.declared.exprs.Group.{Group}
use Rattle.ae_syntax.specs.declared.exprs.Quantifier.{Quantifier}
use Rattle.ae_syntax.specs.declared.exprs.Trigger.{Trigger}
use Rattle.ae_elab.specs.declared.faults.TypeFault.{TypeFault}
use Rattle.ae_elab.specs.declared.nodes.Pattern.{Pattern}
use Rattle.ae_elab.specs.declared.typings.Bound as code
use Rattle.ae_elab.specs.declared.typings.Context.{Context}
use Rattle.ae_elab.specs.declared.typings.Typing.{Typing}
use Rattle.ae_elab.specs.Environments.{Bench, entries, locals}
use Rattle.ae_elab.specs.Expressions.{part_of, trigger_of}
use Rattle.ae_elab.specs.Formulas.{Bound, local_of, with_block, groups_rule, triggers_rule, merged_with, around_body, block_rule}
use Rattle.ae_elab.specs.Nodes.{a_claim, claim_at, patterns_at}
use Rattle.ae_elab.specs.Rules.{Passed, Rule, Around, give, ◌>>◌}
use Rattle.ae_elab.specs.Scope.{Scope, scope_with}
use Rattle.ae_elab.specs.Steps.{IsTaken, IsHalted, IsWalked, IsStopped}
use Rattle.ae_elab.specs.Trees.{Claim, Patterns, quantified}
use Rattle.ae_elab.specs.Typings.{scope_at, Begins, Walks, Stops, TypesClaim, Puts, bound_in, nodes_of, locals_of}
use Rattle.ae_elab.proofs.NodeLaws.{begins_on, claim_is}
use Rattle.ae_elab.proofs.TypingLaws.{walks_give, walks_then, stops_first, stops_later, stands_put}
use Rattle.ae_elab.proofs.WalkLaws.{then_walked, then_stops, then_stops_later}
use Rattle.ae_expression_typing.specs.Inner.PatternsAnswers.{TypesPatterns}
use Rattle.ae_expression_typing.proofs.TriggerLaws.{later_patterns, patterns_are}

-- ---- the numbers and the sorts of a block's variables
pub numbers_are : (text : List ℕ) (bs : List code.Bound) → map (λ b. b.number) (map (bound_in text) bs) ≡ map (λ b. b.number) bs
numbers_are text [] = refl
numbers_are text (b ∷ bs) = ap (λ z. b.number ∷ z) (numbers_are text bs)

pub sorts_are : (text : List ℕ) (bs : List code.Bound) → map (λ b. b.sort) (map (bound_in text) bs) ≡ map (λ b. b.sort) bs
sorts_are text [] = refl
sorts_are text (b ∷ bs) = ap (λ z. b.sort ∷ z) (sorts_are text bs)

pub as_many_bound : (text : List ℕ) (bs : List code.Bound) → length (reverse (map local_of (map (bound_in text) bs))) ≡ length bs
as_many_bound text bs = length-reverse (map local_of (map (bound_in text) bs)) ∙ length-map (map (bound_in text) bs) local_of ∙ length-map bs (bound_in text)

-- ---- the block that a body would be merged with
pub around_triggers : (q : Quantifier) (xs : List ℕ) (ts : List Trigger) (o : Around) → (0 < length ts → o ≡ None) → (length ts ≡ 0 → o ≡ Some (q, xs)) → o ≡ around_body q xs (map trigger_of ts)
around_triggers q xs [] o some none = none refl
around_triggers q xs (t ∷ ts) o some none = some (omega arith)

-- ---- a block
module _ (c : Context) (q : Quantifier) (groups : List Group) (ts : List Trigger) (b : Expr) (around : Around) (old : Typing) where
  abbrev whole : Scope → Rule Claim
  whole sc = block_rule q groups (map trigger_of ts) (part_of b) sc around

  abbrev grouped : Rule (List Bound)
  grouped = groups_rule [] groups (scope_at c old)

  abbrev merged : List Bound → List ℕ
  merged bs = merged_with q around ++ map (λ z. z.number) bs

  abbrev pub triggers_in : List Bound → Scope → Rule Patterns
  triggers_in bs sc = triggers_rule (merged bs) (map trigger_of ts) sc

  abbrev pub body_in : List Bound → Scope → Rule Claim
  body_in bs sc = (part_of b).formula sc (around_body q (merged bs) (map trigger_of ts)) (part_of b).place

  abbrev made : List Bound → Patterns → Claim → Claim
  made bs ps f = quantified q (map (λ z. z.number) bs) (map (λ z. z.sort) bs) ps f

  abbrev after_triggers : List Bound → Scope → Patterns → Rule Claim
  after_triggers bs sc ps = body_in bs sc >> λ f. give (made bs ps f)

  abbrev inside : List Bound → Scope → Rule Claim
  inside bs sc = triggers_in bs sc >> after_triggers bs sc

  abbrev after_groups : List Bound → Rule Claim
  after_groups bs = inside bs (with_block bs (scope_at c old))

  pub block_variables : (e : TypeFault) → IsHalted grouped old.passing e → Stops c whole old e
  block_variables e h = then_stops grouped after_groups (bound old.bindings) old.passing e (h (bound old.bindings))

  module _ (p : Passed) (bs : List Bound) (taken : IsTaken grouped old.passing p bs) (env : Bench) (nodes : entries env ≡ nodes_of old) (bound_names : locals env ≡ reverse (map local_of bs) ++ locals_of old) where
    abbrev mid : Typing
    mid = record { passing = p; bindings = old.bindings; environment = env }

    there : scope_at c mid ≡ with_block bs (scope_at c old)
    there = ap (λ ls. scope_with c.text.now c.known ls) bound_names

    block_inside : (e : TypeFault) → Stops c (inside bs) mid e → Stops c whole old e
    block_inside e h =
        then_stops_later grouped after_groups (bound old.bindings) (bound old.bindings) old.passing p bs e (taken (bound old.bindings))
        (subst (λ z. IsStopped (inside bs z) (bound old.bindings) p e) there h)

    pub block_triggers : (e : TypeFault) → Stops c (triggers_in bs) mid e → Stops c whole old e
    block_triggers e h = block_inside e (stops_first c (triggers_in bs) (after_triggers bs) mid e h)

    module _ (second : Typing) (ps : List Pattern) (triggers : TypesPatterns c (triggers_in bs) mid second ps) where
      pub block_body : (e : TypeFault) → Stops c (body_in bs) second e → Stops c whole old e
      block_body e h =
          block_inside e (stops_later c (triggers_in bs) (after_triggers bs) mid second triggers.patterns e triggers.walks
          (stops_first c (body_in bs) (λ sc f. give (made bs triggers.patterns f)) second e h))

      module _ (third : Typing) (i : ℕ) (body : TypesClaim c (body_in bs) second third i) (left : Bench) (same_nodes : entries left ≡ nodes_of third) (outer : locals left ≡ locals_of old) where
        abbrev last : Typing
        last = record { passing = third.passing; bindings = third.bindings; environment = left }

        walked_inside : Walks c (inside bs) mid third (made bs triggers.patterns body.claim)
        walked_inside =
            walks_then c (triggers_in bs) (after_triggers bs) mid second third triggers.patterns (made bs triggers.patterns body.claim) triggers.walks
            (walks_then c (body_in bs) (λ sc f. give (made bs triggers.patterns f)) second third third body.claim (made bs triggers.patterns body.claim) body.walks (walks_give c third (made bs triggers.patterns body.claim)))

        walked_whole : IsWalked (whole (scope_at c old)) (bound old.bindings) (bound third.bindings) old.passing third.passing (made bs triggers.patterns body.claim)
        walked_whole =
            then_walked grouped after_groups (bound old.bindings) (bound old.bindings) (bound third.bindings) old.passing p third.passing bs (made bs triggers.patterns body.claim) (taken (bound old.bindings))
            (subst (λ z. IsWalked (inside bs z) (bound old.bindings) (bound third.bindings) p third.passing (made bs triggers.patterns body.claim)) there walked_inside.walked)

        patterns_there : patterns_at (entries left) ps ≡ triggers.patterns
        patterns_there = ap (λ es. patterns_at es ps) same_nodes ∙ patterns_are (nodes_of third) ps triggers.patterns (later_patterns (nodes_of second) (nodes_of third) body.walks.kept ps triggers.patterns triggers.stand)

        claim_there : claim_at (entries left) i ≡ body.claim
        claim_there = ap (λ es. claim_at es i) same_nodes ∙ claim_is (nodes_of third) i body.claim body.stands

        pub block_done : (new : Typing) (n : ℕ) (xs : List ℕ) (ss : List Sort) → xs ≡ map (λ z. z.number) bs → ss ≡ map (λ z. z.sort) bs
            → Puts last new (a_claim (quantified q xs ss (patterns_at (entries left) ps) (claim_at (entries left) i))) n → TypesClaim c whole old new n
        block_done new n xs ss numbers sorts put =
            let f = made bs triggers.patterns body.claim in
            let whole_put : Puts last new (a_claim f) n =
            subst (λ z. Puts last new (a_claim (quantified q (map (λ v. v.number) bs) (map (λ v. v.sort) bs) triggers.patterns z)) n) claim_there
            (subst (λ z. Puts last new (a_claim (quantified q (map (λ v. v.number) bs) (map (λ v. v.sort) bs) z (claim_at (entries left) i))) n) patterns_there
            (subst (λ z. Puts last new (a_claim (quantified q (map (λ v. v.number) bs) z (patterns_at (entries left) ps) (claim_at (entries left) i))) n) sorts
            (subst (λ z. Puts last new (a_claim (quantified q z ss (patterns_at (entries left) ps) (claim_at (entries left) i))) n) numbers put))) in
            record {
              claim = f;
              stands = stands_put last new (a_claim f) n whole_put;
              walks = record {
                walked = subst (λ z. IsWalked (whole (scope_at c old)) (bound old.bindings) (bound z) old.passing new.passing f) (sym whole_put.bindings)
                    (subst (λ z. IsWalked (whole (scope_at c old)) (bound old.bindings) (bound third.bindings) old.passing z f) (sym whole_put.passing) walked_whole);
                locals = whole_put.locals ∙ outer;
                kept = subst (λ z. Begins z (nodes_of new)) nodes (begins_on (entries env) (nodes_of third) (nodes_of new) walked_inside.kept
                    (a_claim f ∷ [], whole_put.nodes ∙ ap (λ es. es ++ a_claim f ∷ []) same_nodes));
              };
            }
