-- One law for each way out of the functions that read an expression again and evaluate it.
-- Assumes nothing.
use Rattle.operands.specs.Types.{Evaluated}
use Rattle.std.proofs.Common.{Option, Some, None, Ok, Err}
use mathlib.Core.Logic.{◌⊎◌, inl, inr}
use mathlib.Core.Path.{◌≡◌, refl, sym, ap, subst, ◌∙◌}
use mathlib.Core.Bool.{Bool, true, false, cond}
use mathlib.Core.List.{List, [], ◌∷◌}
use Prim.Native.Nat.{ℕ, suc, ◌+◌, ◌-◌, ◌<◌, ◌≤◌}
use native.Mathlib.Omega.{arith}
use lib.Dec.{leb}
use lib.ListN.{length}
use Rattle.definition.specs.Bytes.{mixed, folded}
use Rattle.definition.specs.Choice.{when}
use Rattle.definition.specs.Tokens as T
use Rattle.definition.specs.Tokens.{token_at, is_sign}
use Rattle.definition.specs.Expressions as E
use Rattle.definition.specs.Expressions.{Reading, read, refused, then, Parsed, parsed, Reader, Tree, binary, Maybe, is, no_operator, infix_of, expect_sign, Named, reference_at, primitive, chain, whole_expression}
use Rattle.definition.specs.Values as Val
use Rattle.definition.specs.World.{World, Res, good}
use Rattle.definition.specs.Evaluate as Ev
use Rattle.definition.specs.Evaluate.{evaluate, meant, plain_name, listed_name}
use Rattle.definition.specs.declared.Why.{Why}
use Rattle.definition.specs.declared.Why.TheVariants.{Syntax, OverLimit}
use Rattle.definition.specs.declared.Operator.{Operator}
use Rattle.meter.specs.declared.Meter.{Meter}
use Rattle.names.specs.Table.{owner_of, identifiers_from}
use Rattle.definition.specs.Lists.{part}
use Rattle.definition.specs.declared.ValueType.{ValueType}
use Rattle.callees.specs.declared.Meant.TheVariants as M
use Rattle.callees.proofs.Naming.{meant_there}
use Rattle.tokens.specs.declared.Lexeme.{Lexeme}
use Rattle.tokens.specs.declared.Kind.{Kind}
use Rattle.tokens.specs.declared.Kind.TheVariants as K
use Rattle.tokens.specs.Answer.{Lexed, written, spelling, content, token_for, is_sign_in}
use Rattle.tokens.proofs.Lexemes as L
use Rattle.expressions.specs.declared.Prefixes.{Prefixes}
use Rattle.expressions.specs.Check.{infix_for, infix_at, prefixes, inside_of, primitive_at, operand_in, levels_in}
use Rattle.operators.specs.declared.Value.{Value}
use Rattle.operators.specs.Stands.{size_for, value_in, top_of}
use Rattle.operators.proofs.Room.{top_in_lem}
use Rattle.operators.proofs.Callers.{below_less}
use Rattle.callees.specs.declared.Meant.{Meant}
use Rattle.callees.specs.Shown.{denotations_from, names_world, world_in, Slots}
use Rattle.callees.specs.Answer.{meant_for}
use Rattle.operands.specs.declared.Scene.{Scene}
use Rattle.operands.specs.Shown.{Shows}
use Rattle.operands.specs.Answer.{Below, res_in, size_of, meter_of, with_end, Gave, run_in, value_of, infix_on, Turns, WithInfix, signs_at, prefixed_by, PrefixesDone, ConstantIs, IntegerIs, string_tree, ClosedIs, Means, is_entry, PlainIs}
use Rattle.evaluating.specs.Cycle.{Evaluates, Chains, NameIs, ListedIs}
use Rattle.operands.proofs.Trees.{never, read_same, IsRead, then_read, levels_first, levels_zero, chain_more, chain_done, chain_none, value_binary, strict, Operand, operand_is, inside_same, inside_none, inside_is, expression_is, expect_is}
use Rattle.operands.proofs.Leaves.{end_is, below_same, below_then, value_below, value_size}

-- ---- what is not there is None
pub none_one : {A : Type 0} (n : Option A) → ((a : A) → n ≡ Some a → ⊥) → n ≡ None
none_one None k = refl
none_one (Some a) k = absurd (k a refl)

-- ---- the scene after an answer
module _ (deck rows names c l h w : List ℕ) (u : ℕ) (x : Scene) (m : Meter) (B : World) (sh : Shows deck rows names c l h w u x m B) where
  pub shows_as : (c' l' h' w' : List ℕ) (v : ℕ) (k : Meter) → Slots B.denotations c' l' h' → length w' ≡ length w → v ≤ 65536 → k.limit ≡ B.limit → Shows deck rows names c' l' h' w' v x k B
  shows_as c' l' h' w' v k s e f g = record { named = sh.named; rowed = sh.rowed; slots = s; work = omega (arith, sh.work, e); taken = f; limit = g; left = sh.left }

-- an answer at a place, above a room that was changed before
pub gave_over : (B : World) (u : ℕ) (w w₁ c l h w₂ : List ℕ) (r : Evaluated) (e : ℕ) (R : Res Why Val.Value) → Below u w w₁ → Gave B u w₁ c l h w₂ r e R → Gave B u w c l h w₂ r e R
gave_over B u w w₁ c l h w₂ r e R b g = record { is = g.is; end = g.end; below = below_then u u w w₁ w₂ b (omega arith) g.below; fits = g.fits; limit = g.limit; slots = g.slots }

pub gave_as : (B : World) (u : ℕ) (w c l h w' : List ℕ) (r : Evaluated) (e f : ℕ) (R S : Res Why Val.Value) → e ≡ f → R ≡ S → Gave B u w c l h w' r e R → Gave B u w c l h w' r f S
gave_as B u w c l h w' r e f R S a b g = record { is = g.is ∙ b; end = rw a at g.end; below = g.below; fits = g.fits; limit = g.limit; slots = g.slots }

-- ---- levels
module _ (deck rows names s c l h w : List ℕ) (at n left u : ℕ) (x : Scene) (m : Meter) where
  pub levels_operand : (c' l' h' w' : List ℕ) (r : Evaluated) → n < 1 → Evaluates deck rows names c l h w u x m c' l' h' w' r (operand_in left s at) → Evaluates deck rows names c l h w u x m c' l' h' w' r (levels_in left s n at)
  levels_operand c' l' h' w' r k g = record { is = λ B sh t e q. g.is B sh t e (sym (levels_zero (operand_in left s) s n at (omega (arith, k))) ∙ q) }

  module _ (big : 1 ≤ n) (c₁ l₁ h₁ w₁ : List ℕ) (y : Evaluated) (g : Evaluates deck rows names c l h w u x m c₁ l₁ h₁ w₁ y (levels_in left s (n - 1) at)) where
    abbrev chained : Tree → ℕ → Reading Parsed
    chained t e = chain mixed (n - 1) (levels_in left s (n - 1)) s (suc (length s)) t e

    first_gave : (B : World) → Shows deck rows names c l h w u x m B → (z : Parsed) → levels_in left s (n - 1) at ≡ read z → Gave B u w c₁ l₁ h₁ w₁ y z.to (value_of x z.tree u (world_in B c l h m.used))
    first_gave B sh z a = g.is B sh z.tree z.to a

    failed_by : (f : Why) (k : Meter) → y ≡ Err (f, k) → (B : World) → Shows deck rows names c l h w u x m B → (t : Tree) (e : ℕ) (z : Parsed) → levels_in left s (n - 1) at ≡ read z → chained z.tree z.to ≡ read (parsed t e) → Gave B u w c₁ l₁ h₁ w₁ (Err (f, k)) e (value_of x t u (world_in B c l h m.used))
    failed_by f k i B sh t e z a b =
        let G : Gave B u w c₁ l₁ h₁ w₁ (Err (f, k)) z.to (value_of x z.tree u (world_in B c l h m.used)) = rw i at (first_gave B sh z a) in
        record {
          is = sym (strict x u (world_in B c l h m.used) (n - 1) (levels_in left s (n - 1)) s (suc (length s)) z.tree z.to (parsed t e) f k.used (sym G.is) b);
          end = refl;
          below = G.below;
          fits = G.fits;
          limit = G.limit;
          slots = G.slots;
        }

    pub levels_failed : (f : Why × Meter) → y ≡ Err f → Evaluates deck rows names c l h w u x m c₁ l₁ h₁ w₁ (Err f) (levels_in left s n at)
    levels_failed (f, k) i = record { is = λ B sh t e q. let j : IsRead (levels_in left s (n - 1) at) (λ r. chained r.tree r.to) (parsed t e) = levels_first (operand_in left s) s n at t e big q in failed_by f k i B sh t e j.first j.is j.rest }

    module _ (v : Value) (q : ℕ) (k : Meter) (i : y ≡ Ok (v, q, k)) (z₁ : length w₁ ≡ length w) (c₂ l₂ h₂ w₂ : List ℕ) (r : Evaluated) (ch : Chains deck rows names s c₁ l₁ h₁ w₁ v q (n - 1) left u x k c₂ l₂ h₂ w₂ r) where
      chain_by : (B : World) → Shows deck rows names c l h w u x m B → (t : Tree) (e : ℕ) (z : Parsed) → levels_in left s (n - 1) at ≡ read z → chained z.tree z.to ≡ read (parsed t e) → Gave B u w c₂ l₂ h₂ w₂ r e (value_of x t u (world_in B c l h m.used))
      chain_by B sh t e z a b =
          let G : Gave B u w c₁ l₁ h₁ w₁ (Ok (v, q, k)) z.to (value_of x z.tree u (world_in B c l h m.used)) = rw i at (first_gave B sh z a) in
          let o : q ≡ z.to = end_is v q z.to k G.end in
          gave_over B u w w₁ c₂ l₂ h₂ w₂ r e (value_of x t u (world_in B c l h m.used)) G.below
          (ch.is B (shows_as deck rows names c l h w u x m B sh c₁ l₁ h₁ w₁ u k G.slots z₁ sh.taken G.limit) G.fits z.tree (world_in B c l h m.used) (sym G.is) t e (rw o b))

      pub levels_chain : Evaluates deck rows names c l h w u x m c₂ l₂ h₂ w₂ r (levels_in left s n at)
      levels_chain = record { is = λ B sh t e p. let j : IsRead (levels_in left s (n - 1) at) (λ r. chained r.tree r.to) (parsed t e) = levels_first (operand_in left s) s n at t e big p in chain_by B sh t e j.first j.is j.rest }

-- ---- a chain
infix_some : (l : ℕ) (s : List ℕ) (at : ℕ) (n : Option (Operator × ℕ)) (o : Operator) (q : ℕ) → n ≡ infix_at l s at → n ≡ Some (o, q) → (infix_of l (token_at mixed s at).token ≡ is o) × (q ≡ (token_at mixed s at).to)
unfolding infix_at
infix_some l s at n o q e f = by (infix_of l (token_at mixed s at).token) (sym f ∙ e)
  where
    by : (x : Maybe Operator) → Some (o, q) ≡ infix_for x (token_at mixed s at).to → (x ≡ is o) × (q ≡ (token_at mixed s at).to)
    by (is p) g = let h : ◌≡◌ {A = Operator × ℕ} (o, q) (p, (token_at mixed s at).to) = cc in (ap (λ (i : Operator × ℕ). is i.0) (sym h), ap (λ (i : Operator × ℕ). i.1) h)
    by no_operator g = absurd (let z : ◌≡◌ {A = ℕ} 0 1 = cc in omega arith)

infix_other : (l : ℕ) (s : List ℕ) (at : ℕ) (n : Option (Operator × ℕ)) → n ≡ infix_at l s at → n ≡ None → infix_of l (token_at mixed s at).token ≡ no_operator
unfolding infix_at
infix_other l s at n e f = by (infix_of l (token_at mixed s at).token) (sym f ∙ e)
  where
    by : (x : Maybe Operator) → None ≡ infix_for x (token_at mixed s at).to → x ≡ no_operator
    by (is p) g = absurd (let z : ◌≡◌ {A = ℕ} 0 1 = cc in omega arith)
    by no_operator g = refl

module _ (deck rows names s c₀ l₀ h₀ w₀ : List ℕ) (v : Value) (from level left u : ℕ) (x : Scene) (m₀ : Meter) where
  abbrev next : Reader
  next = levels_in left s level

  -- the state in the world B, where the chain began with the tree t₀ in the world z₀, and ends with z
  pub record Chained (B z₀ : World) (z : Parsed) (turns : ℕ) (y : Value) (at : ℕ) (m : Meter) (c l h w : List ℕ) : Type 0 where
    pub tree : Tree
    pub value : value_of x tree u z₀ ≡ good (value_in w u y) (world_in B c l h m.used)
    pub same : chain mixed level next s turns tree at ≡ read z
    pub shows : Shows deck rows names c l h w u x m B
    pub fits : u + size_for y ≤ 65536
    pub below : Below u w₀ w

  pub record Chaining (turns : ℕ) (y : Value) (at : ℕ) (m : Meter) (c l h w : List ℕ) : Type 0 where
    pub is : (B : World) → Shows deck rows names c₀ l₀ h₀ w₀ u x m₀ B → u + size_for v ≤ 65536 → (t₀ : Tree) (z₀ : World) → value_of x t₀ u z₀ ≡ good (value_in w₀ u v) (world_in B c₀ l₀ h₀ m₀.used)
        → (t : Tree) (e : ℕ) → chain mixed level next s (suc (length s)) t₀ from ≡ read (parsed t e) → Chained B z₀ (parsed t e) turns y at m c l h w

  pub chaining_start : (n : ℕ) → n ≡ length s + 1 → Chaining n v from m₀ c₀ l₀ h₀ w₀
  chaining_start n e = record {
    is = λ B sh f t₀ z₀ a t q b. let d : n ≡ suc (length s) = omega (arith, e) in record { tree = t₀; value = a; same = rw d b; shows = sh; fits = f; below = below_same u w₀ };
  }

  module _ (turns : ℕ) (y : Value) (at : ℕ) (m : Meter) (c l h w : List ℕ) (k : Chaining turns y at m c l h w) where
    pub chaining_end : turns ≤ 0 → (r : Evaluated) → Chains deck rows names s c₀ l₀ h₀ w₀ v from level left u x m₀ c l h w r
    chaining_end o r = record { is = λ B sh f t₀ z₀ a t e b. by B z₀ t e (k.is B sh f t₀ z₀ a t e b) }
      where
        by : (B z₀ : World) (t : Tree) (e : ℕ) → Chained B z₀ (parsed t e) turns y at m c l h w → Gave B u w₀ c l h w r e (value_of x t u z₀)
        by B z₀ t e j = let d : turns ≡ 0 = omega (arith, o) in chain_none level next s j.tree at (parsed t e) (rw d at j.same)

    module _ (some : 0 < turns) (n : Option (Operator × ℕ)) (ni : n ≡ infix_at level s at) where
      turned : (B z₀ : World) (z : Parsed) → (j : Chained B z₀ z turns y at m c l h w) → chain mixed level next s (suc (turns - 1)) j.tree at ≡ read z
      turned B z₀ z j = let d : turns ≡ suc (turns - 1) = omega (arith, some) in rw d at j.same

      done_by : n ≡ None → (B z₀ : World) (t : Tree) (e : ℕ) → Chained B z₀ (parsed t e) turns y at m c l h w → Gave B u w₀ c l h w (Ok (y, at, m)) e (value_of x t u z₀)
      done_by o B z₀ t e j =
          let d : parsed j.tree at ≡ parsed t e = chain_done level next s (turns - 1) j.tree at (parsed t e) (infix_other level s at n ni o) (turned B z₀ (parsed t e) j) in
          let d₁ : j.tree ≡ t = ap (λ (p : Parsed). p.tree) d in
          let d₂ : at ≡ e = ap (λ (p : Parsed). p.to) d in
          record { is = sym (rw d₁ at j.value); end = rw d₂; below = j.below; fits = j.fits; limit = j.shows.limit; slots = j.shows.slots }

      pub chaining_done : n ≡ None → Chains deck rows names s c₀ l₀ h₀ w₀ v from level left u x m₀ c l h w (Ok (y, at, m))
      chaining_done o = record { is = λ B sh f t₀ z₀ a t e b. done_by o B z₀ t e (k.is B sh f t₀ z₀ a t e b) }

      module _ (o : Operator) (q : ℕ) (no : n ≡ Some (o, q)) (size top : ℕ) (es : size ≡ size_for y) (et : top ≡ top_of u size) (c₁ l₁ h₁ w₁ : List ℕ) (z₁ : length w₁ ≡ length w) (b : Evaluated)
          (g : Evaluates deck rows names c l h w top x m c₁ l₁ h₁ w₁ b (levels_in left s level q)) (w₂ : List ℕ) (r : Evaluated) (wi : WithInfix w₁ u o y b w₂ r) where
        -- the state after the operator with its right side, if the answer is r
        pub record After (B z₀ : World) (z : Parsed) : Type 0 where
          pub tree : Tree
          pub place : ℕ
          pub value : res_in B c₁ l₁ h₁ w₂ u r ≡ value_of x tree u z₀
          pub same : chain mixed level next s (turns - 1) tree place ≡ read z
          pub end : r ≡ with_end r place
          pub below : Below u w w₂
          pub fits : u + size_of r ≤ 65536
          pub limit : (meter_of r).limit ≡ B.limit
          pub slots : Slots B.denotations c₁ l₁ h₁

        top_is : u + size_for y ≤ 65536 → top ≡ u + size_for y
        top_is f = et ∙ ap (top_of u) es ∙ top_in_lem u (size_for y) f

        after_by : (B z₀ : World) (z : Parsed) (j : Chained B z₀ z turns y at m c l h w) (p : Parsed) → next q ≡ read p → chain mixed level next s (turns - 1) (binary o j.tree p.tree) p.to ≡ read z → After B z₀ z
        after_by B z₀ z j p a d =
            let tp : top ≡ u + size_for y = top_is j.fits in
            let sh : Shows deck rows names c l h w top x m B = shows_as deck rows names c l h w u x m B j.shows c l h w top m j.shows.slots refl (omega (arith, tp, j.fits)) j.shows.limit in
            let G₀ : Gave B top w c₁ l₁ h₁ w₁ b p.to (value_of x p.tree top (world_in B c l h m.used)) = g.is B sh p.tree p.to a in
            let G : Gave B (u + size_for y) w c₁ l₁ h₁ w₁ b p.to (value_of x p.tree (u + size_for y) (world_in B c l h m.used)) = subst (λ (i : ℕ). Gave B i w c₁ l₁ h₁ w₁ b p.to (value_of x p.tree i (world_in B c l h m.used))) tp G₀ in
            let T : Turns w₁ u (u + size_for y) b (infix_on u o (value_in w₁ u y)) w₂ r = wi.is (omega (arith, z₁, j.shows.work)) G.fits in
            let Vy : value_in w₁ u y ≡ value_in w u y = value_below y u w w₁ G.below in
            record {
              tree = binary o j.tree p.tree;
              place = p.to;
              value = (T).is B c₁ l₁ h₁ ∙ ap (infix_on u o (value_in w₁ u y)) G.is ∙ ap (λ (i : Val.Value). infix_on u o i (value_of x p.tree (u + size_for y) (world_in B c l h m.used))) Vy
                  ∙ ap (λ (i : ℕ). infix_on u o (value_in w u y) (value_of x p.tree (u + i) (world_in B c l h m.used))) (sym (value_size w u y))
                  ∙ sym (value_binary x u z₀ o j.tree p.tree (value_in w u y) (world_in B c l h m.used) j.value);
              same = d;
              end = (T).end p.to G.end;
              below = (T).below ∙ below_less u (u + size_for y) w w₁ (omega arith) G.below;
              fits = (T).fits;
              limit = (T).limit ∙ G.limit;
              slots = G.slots;
            }

        after : (B z₀ : World) (z : Parsed) → Chained B z₀ z turns y at m c l h w → After B z₀ z
        after B z₀ z j =
            let i : (infix_of level (token_at mixed s at).token ≡ is o) × (q ≡ (token_at mixed s at).to) = infix_some level s at n o q ni no in
            let a : IsRead (next (token_at mixed s at).to) (λ p. chain mixed level next s (turns - 1) (binary o j.tree p.tree) p.to) z = chain_more level next s (turns - 1) j.tree at z o i.0 (turned B z₀ z j) in
            after_by B z₀ z j a.first (ap next i.1 ∙ a.is) a.rest

        failed_with : (f : Why) (i : Meter) → r ≡ Err (f, i) → (B z₀ : World) (t : Tree) (e : ℕ) → Chained B z₀ (parsed t e) turns y at m c l h w → After B z₀ (parsed t e) → Gave B u w₀ c₁ l₁ h₁ w₂ (Err (f, i)) e (value_of x t u z₀)
        failed_with f i ri B z₀ t e j a = record {
          is = sym (strict x u z₀ level next s (turns - 1) a.tree a.place (parsed t e) f i.used (sym (rw ri at a.value)) a.same);
          end = refl;
          below = below_then u u w₀ w w₂ j.below (omega arith) a.below;
          fits = rw ri at a.fits;
          limit = rw ri at a.limit;
          slots = a.slots;
        }

        pub chaining_failed : (f : Why × Meter) → r ≡ Err f → Chains deck rows names s c₀ l₀ h₀ w₀ v from level left u x m₀ c₁ l₁ h₁ w₂ (Err f)
        chaining_failed (f, i) ri = record { is = λ B sh ff t₀ z₀ a t e d. let j : Chained B z₀ (parsed t e) turns y at m c l h w = k.is B sh ff t₀ z₀ a t e d in failed_with f i ri B z₀ t e j (after B z₀ (parsed t e) j) }

        on_with : (y' : Value) (p : ℕ) (i : Meter) → r ≡ Ok (y', p, i) → length w₂ ≡ length w₁ → (B z₀ : World) (z : Parsed) → Chained B z₀ z turns y at m c l h w → After B z₀ z → Chained B z₀ z (turns - 1) y' p i c₁ l₁ h₁ w₂
        on_with y' p i ri z₂ B z₀ z j a =
            let d : p ≡ a.place = end_is y' p a.place i (rw ri at a.end) in
            record {
              tree = a.tree;
              value = sym (rw ri at a.value);
              same = rw d a.same;
              shows = shows_as deck rows names c l h w u x m B j.shows c₁ l₁ h₁ w₂ u i a.slots (z₂ ∙ z₁) j.shows.taken (rw ri at a.limit);
              fits = rw ri at a.fits;
              below = below_then u u w₀ w w₂ j.below (omega arith) a.below;
            }

        pub chaining_more : (y' : Value) (p : ℕ) (i : Meter) → r ≡ Ok (y', p, i) → length w₂ ≡ length w₁ → (fewer : ℕ) → fewer ≡ turns - 1 → Chaining fewer y' p i c₁ l₁ h₁ w₂
        chaining_more y' p i ri z₂ fewer ef = rw ef record {
          is = λ B sh ff t₀ z₀ a t e d. let j : Chained B z₀ (parsed t e) turns y at m c l h w = k.is B sh ff t₀ z₀ a t e d in on_with y' p i ri z₂ B z₀ (parsed t e) j (after B z₀ (parsed t e) j);
        }

-- ---- an operand
module _ (deck rows names s c l h w : List ℕ) (at left u : ℕ) (x : Scene) (m : Meter) (p : Prefixes) (pe : p ≡ prefixes (length s) s at) (c₁ l₁ h₁ w₁ : List ℕ) (z₁ : length w₁ ≡ length w) (y : Evaluated)
    (g : Evaluates deck rows names c l h w u x m c₁ l₁ h₁ w₁ y (primitive_at (inside_of left s) s p.to)) (w₂ : List ℕ) (r : Evaluated) (pd : PrefixesDone s at w₁ u p.count y w₂ r) where
  prefixed_by_lem : (B : World) → Shows deck rows names c l h w u x m B → (t : Tree) (e : ℕ) → Operand (inside_of left s) s (length s) at x t e → Gave B u w c₁ l₁ h₁ w₂ r e (value_of x t u (world_in B c l h m.used))
  prefixed_by_lem B sh t e o =
      let G : Gave B u w c₁ l₁ h₁ w₁ y e (value_of x o.first u (world_in B c l h m.used)) = g.is B sh o.first e (rw pe o.is) in
      let T : Turns w₁ u u y (prefixed_by u (signs_at (length s) s at)) w₂ r = pd.is (omega (arith, z₁, sh.work)) G.fits (rw pe o.count) in
      record {
        is = (T).is B c₁ l₁ h₁ ∙ ap (prefixed_by u (signs_at (length s) s at)) G.is ∙ sym (o.value u (world_in B c l h m.used));
        end = (T).end e G.end;
        below = below_then u u w w₁ w₂ G.below (omega arith) (T).below;
        fits = (T).fits;
        limit = (T).limit ∙ G.limit;
        slots = G.slots;
      }

  pub operand_done : Evaluates deck rows names c l h w u x m c₁ l₁ h₁ w₂ r (operand_in left s at)
  operand_done = record { is = λ B sh t e q. prefixed_by_lem B sh t e (operand_is (inside_of left s) s (length s) at x (parsed t e) q) }

-- ---- inside a parenthesis, and the whole
pub inside_over : (deck rows names s c l h w : List ℕ) (at left u : ℕ) (x : Scene) (m : Meter) (c' l' h' w' : List ℕ) (r : Evaluated) → left < 1 → Evaluates deck rows names c l h w u x m c' l' h' w' r (inside_of left s 0 at)
inside_over deck rows names s c l h w at left u x m c' l' h' w' r k = record { is = λ B sh t e q. inside_none left s 0 at (parsed t e) k q }

pub inside_some : (deck rows names s c l h w : List ℕ) (at left u : ℕ) (x : Scene) (m : Meter) (c' l' h' w' : List ℕ) (r : Evaluated) → 1 ≤ left → Evaluates deck rows names c l h w u x m c' l' h' w' r (levels_in (left - 1) s 6 at) → Evaluates deck rows names c l h w u x m c' l' h' w' r (inside_of left s 0 at)
inside_some deck rows names s c l h w at left u x m c' l' h' w' r k g = record { is = λ B sh t e q. g.is B sh t e (sym (inside_is left s 0 at k) ∙ q) }

pub whole : (deck rows names s c l h w : List ℕ) (at u : ℕ) (x : Scene) (m : Meter) (c' l' h' w' : List ℕ) (r : Evaluated) → Evaluates deck rows names c l h w u x m c' l' h' w' r (levels_in 16 s 6 at) → Evaluates deck rows names c l h w u x m c' l' h' w' r (whole_expression mixed s at)
whole deck rows names s c l h w at u x m c' l' h' w' r g = record { is = λ B sh t e q. g.is B sh t e (sym (expression_is 16 s at) ∙ q) }

-- ---- primitives
constant_gave : (deck rows names c l h w : List ℕ) (u to : ℕ) (x : Scene) (m : Meter) (w' : List ℕ) (r : Evaluated) (t : Tree) → ConstantIs t w u to m w' r → (B : World) → Shows deck rows names c l h w u x m B → Gave B u w c l h w' r to (value_of x t u (world_in B c l h m.used))
constant_gave deck rows names c l h w u to x m w' r t k B sh = record {
  is = k.is sh.work sh.taken x B c l h;
  end = k.end;
  below = k.below;
  fits = k.fits sh.taken;
  limit = ap (λ (i : Meter). i.limit) k.limit ∙ sh.limit;
  slots = sh.slots;
}

module _ (deck rows names s c l h w : List ℕ) (at left u : ℕ) (x : Scene) (m : Meter) (t : Lexeme) (lex : Lexed s at t) where
  abbrev here : Reading Parsed
  here = primitive_at (inside_of left s) s at

  token_of : (k : Kind) → t.kind ≡ k → (token_at mixed s at).token ≡ token_for k (written s t) (content s t.from)
  token_of k e = L.token_is s at t lex ∙ ap (λ (i : Kind). token_for i (written s t) (content s t.from)) e

  here_is : (k : Kind) → t.kind ≡ k → here ≡ primitive mixed (inside_of left s) s (token_for k (written s t) (content s t.from)) t.from t.to
  here_is k e = rw (token_of k e, lex.from, lex.to)

  constant_by : (z : Tree) → here ≡ read (parsed z t.to) → (w' : List ℕ) (r : Evaluated) → ConstantIs z w u t.to m w' r → Evaluates deck rows names c l h w u x m c l h w' r here
  constant_by z e w' r k = record { is = λ B sh y q i. by B sh y q (ap (λ (p : Parsed). p.tree) (read_same (parsed z t.to) (parsed y q) (sym e ∙ i))) (ap (λ (p : Parsed). p.to) (read_same (parsed z t.to) (parsed y q) (sym e ∙ i))) }
    where
      by : (B : World) → Shows deck rows names c l h w u x m B → (y : Tree) (q : ℕ) → z ≡ y → t.to ≡ q → Gave B u w c l h w' r q (value_of x y u (world_in B c l h m.used))
      by B sh y q f g = rw (← f, ← g) (constant_gave deck rows names c l h w u t.to x m w' r z k B sh)

  pub primitive_integer : t.kind ≡ K.Integer → (r : Evaluated) → IntegerIs (written s t) t.to m r → Evaluates deck rows names c l h w u x m c l h w r here
  unfolding primitive
  primitive_integer e r k = constant_by (E.integer_of (written s t)) (here_is K.Integer e) w r (k.is w u)

  pub primitive_string : t.kind ≡ K.String → (w' : List ℕ) (r : Evaluated) → ConstantIs (string_tree false (content s t.from)) w u t.to m w' r → Evaluates deck rows names c l h w u x m c l h w' r here
  unfolding primitive
  primitive_string e w' r k = constant_by (E.string_of (content s t.from)) (here_is K.String e) w' r k

  pub primitive_bits : t.kind ≡ K.Bits → (w' : List ℕ) (r : Evaluated) → ConstantIs (string_tree true (content s t.from)) w u t.to m w' r → Evaluates deck rows names c l h w u x m c l h w' r here
  unfolding primitive
  primitive_bits e w' r k = constant_by (E.bits_of (content s t.from)) (here_is K.Bits e) w' r k

  pub primitive_none : (t.kind ≡ K.Nothing) ⊎ (t.kind ≡ K.Wrong) → (c' l' h' w' : List ℕ) (r : Evaluated) → Evaluates deck rows names c l h w u x m c' l' h' w' r here
  unfolding primitive
  primitive_none (inl e) c' l' h' w' r = record { is = λ B sh y q i. never Syntax t.from (parsed y q) (sym (here_is K.Nothing e) ∙ i) }
  primitive_none (inr e) c' l' h' w' r = record { is = λ B sh y q i. never Syntax t.from (parsed y q) (sym (here_is K.Wrong e) ∙ i) }

  -- a name
  abbrev named : Named
  named = record { spelling = spelling s t; place = t.from; to = t.to }

  word_is : (b : Bool) (z : Parsed) → then (cond b (read named) (refused OverLimit t.from)) (λ n. reference_at mixed (inside_of left s) s n (token_at mixed s t.to)) ≡ read z → reference_at mixed (inside_of left s) s named (token_at mixed s t.to) ≡ read z
  word_is true z e = e
  word_is false z e = never OverLimit t.from z e

  here_word : t.kind ≡ K.Word → (z : Parsed) → here ≡ read z → reference_at mixed (inside_of left s) s named (token_at mixed s t.to) ≡ read z
  unfolding primitive
  here_word e z q = word_is (leb (length (spelling s t)) 31) z (sym (here_is K.Word e) ∙ q)

  pub primitive_word : t.kind ≡ K.Word → (c' l' h' w' : List ℕ) (r : Evaluated) → Evaluates deck rows names c l h w u x m c' l' h' w' r (reference_at mixed (inside_of left s) s named (token_at mixed s t.to)) → Evaluates deck rows names c l h w u x m c' l' h' w' r here
  primitive_word e c' l' h' w' r g = record { is = λ B sh y q i. g.is B sh y q (here_word e (parsed y q) i) }

  -- a parenthesis
  abbrev closing : Parsed → Reading Parsed
  closing p = then (expect_sign mixed ")" s p.to) λ e. read (parsed p.tree e)

  sign_is : (b : Bool) (z : Parsed) → when b (λ _. then (inside_of left s t.from t.to) closing) (λ _. refused Syntax t.from) ≡ read z → IsRead (inside_of left s t.from t.to) closing z
  sign_is true z e = then_read (inside_of left s t.from t.to) closing z e
  sign_is false z e = never Syntax t.from z e

  here_sign : t.kind ≡ K.Sign → (z : Parsed) → here ≡ read z → IsRead (inside_of left s t.from t.to) closing z
  unfolding primitive
  here_sign e z q = sign_is (is_sign "(" (T.sign (written s t))) z (sym (here_is K.Sign e) ∙ q)

  module _ (e : t.kind ≡ K.Sign) (c₁ l₁ h₁ w₁ : List ℕ) (b : Evaluated) (g : Evaluates deck rows names c l h w u x m c₁ l₁ h₁ w₁ b (inside_of left s 0 t.to)) (r : Evaluated) (cl : ClosedIs s b r) where
    end_same : (a : Evaluated) (f : ℕ) → with_end a f ≡ with_end (with_end a f) f
    end_same (Ok (v, q, k)) f = refl
    end_same (Err (v, k)) f = refl

    end_res : (B : World) (a : Evaluated) (f : ℕ) → res_in B c₁ l₁ h₁ w₁ u (with_end a f) ≡ res_in B c₁ l₁ h₁ w₁ u a
    end_res B (Ok (v, q, k)) f = refl
    end_res B (Err (v, k)) f = refl

    end_size : (a : Evaluated) (f : ℕ) → size_of (with_end a f) ≡ size_of a
    end_size (Ok (v, q, k)) f = refl
    end_size (Err (v, k)) f = refl

    end_meter : (a : Evaluated) (f : ℕ) → meter_of (with_end a f) ≡ meter_of a
    end_meter (Ok (v, q, k)) f = refl
    end_meter (Err (v, k)) f = refl

    closed_by : (B : World) → Shows deck rows names c l h w u x m B → (y : Tree) (q : ℕ) (p : Parsed) → inside_of left s t.from t.to ≡ read p → (i : ℕ) → expect_sign mixed ")" s p.to ≡ read i → p.tree ≡ y → i ≡ q → Gave B u w c₁ l₁ h₁ w₁ r q (value_of x y u (world_in B c l h m.used))
    closed_by B sh y q p a i f j k =
        let G : Gave B u w c₁ l₁ h₁ w₁ b p.to (value_of x p.tree u (world_in B c l h m.used)) = g.is B sh p.tree p.to (inside_same left s t.from 0 t.to p a) in
        let z : (token_at mixed s p.to).to ≡ q = sym (expect_is ")" s p.to i f) ∙ k in
        let d : r ≡ with_end b q = cl.is p.to G.end ∙ ap (with_end b) z in
        record {
          is = ap (res_in B c₁ l₁ h₁ w₁ u) d ∙ end_res B b q ∙ G.is ∙ ap (λ (v : Tree). value_of x v u (world_in B c l h m.used)) j;
          end = d ∙ end_same b q ∙ ap (λ (v : Evaluated). with_end v q) (sym d);
          below = G.below;
          fits = rw (d, end_size) G.fits;
          limit = ap (λ (v : Evaluated). (meter_of v).limit) d ∙ ap (λ (v : Meter). v.limit) (end_meter b q) ∙ G.limit;
          slots = G.slots;
        }

    closed_with : (B : World) → Shows deck rows names c l h w u x m B → (y : Tree) (q : ℕ) (p : Parsed) → inside_of left s t.from t.to ≡ read p → IsRead (expect_sign mixed ")" s p.to) (λ e. read (parsed p.tree e)) (parsed y q) → Gave B u w c₁ l₁ h₁ w₁ r q (value_of x y u (world_in B c l h m.used))
    closed_with B sh y q p a k =
        let d : parsed p.tree k.first ≡ parsed y q = read_same (parsed p.tree k.first) (parsed y q) k.rest in
        closed_by B sh y q p a k.first k.is (ap (λ (v : Parsed). v.tree) d) (ap (λ (v : Parsed). v.to) d)

    pub primitive_sign : Evaluates deck rows names c l h w u x m c₁ l₁ h₁ w₁ r here
    primitive_sign = record {
      is = λ B sh y q i.
          let k : IsRead (inside_of left s t.from t.to) closing (parsed y q) = here_sign e (parsed y q) i in
          closed_with B sh y q k.first k.is (then_read (expect_sign mixed ")" s k.first.to) (λ e. read (parsed k.first.tree e)) (parsed y q) k.rest);
    }

-- ---- a name, with a list or without
module _ (deck rows names s c l h w : List ℕ) (left u : ℕ) (x : Scene) (m : Meter) (t : Lexeme) (y : Meant) where
  abbrev name : Named
  name = record { spelling = spelling s t; place = t.from; to = t.to }

  value_reference : (w : World) → value_of x (E.reference (spelling s t)) u w ≡ plain_name (run_in x) (meant (owner_of x.owner) (spelling s t) w) u w
  unfolding value_of evaluate
  value_reference w = refl

  module _ (X : meant_for y ≡ meant (owner_of x.owner) (folded mixed (part (t.to - t.from) t.from s)) (names_world deck names x.names)) where
    meant_in : (w : World) → w.identifiers ≡ identifiers_from deck names 0 x.names → w.denotations ≡ denotations_from names 0 x.names → meant_for y ≡ meant (owner_of x.owner) (spelling s t) w
    unfolding written
    meant_in w e f = X ∙ sym (meant_there deck names x.names w e f (owner_of x.owner) (folded mixed (part (t.to - t.from) t.from s)))

    means : (B : World) → Shows deck rows names c l h w u x m B → Means y B
    means B sh = record { scope = owner_of x.owner; spelling = spelling s t; is = meant_in B sh.named.identifiers sh.named.denotations }

    meant_now : (B : World) → Shows deck rows names c l h w u x m B → meant_for y ≡ meant (owner_of x.owner) (spelling s t) (world_in B c l h m.used)
    meant_now B sh = meant_in (world_in B c l h m.used) sh.named.identifiers sh.named.denotations

    module _ (v : Lexeme) (lex : Lexed s t.to v) (o : Bool) (f : o ≡ is_sign_in s v (40 ∷ [])) where
      opens : (b : Bool) → o ≡ b → is_sign "(" (token_at mixed s t.to).token ≡ b
      opens b g = sym (L.is_sign_lem s t.to v lex "(" (40 ∷ []) refl) ∙ sym f ∙ g

      plain_is : o ≡ false → reference_at mixed (inside_of left s) s name (token_at mixed s t.to) ≡ read (parsed (E.reference (spelling s t)) t.to)
      unfolding reference_at
      plain_is g = rw (opens false g)

      pub reference_plain : o ≡ false → (c' l' h' w' : List ℕ) (r : Evaluated) → NameIs deck rows names c l h w u x m y t.to c' l' h' w' r → Evaluates deck rows names c l h w u x m c' l' h' w' r (reference_at mixed (inside_of left s) s name (token_at mixed s t.to))
      reference_plain g c' l' h' w' r k = record { is = λ B sh z e q. by B sh z e (read_same (parsed (E.reference (spelling s t)) t.to) (parsed z e) (sym (plain_is g) ∙ q)) }
        where
          by : (B : World) → Shows deck rows names c l h w u x m B → (z : Tree) (e : ℕ) → parsed (E.reference (spelling s t)) t.to ≡ parsed z e → Gave B u w c' l' h' w' r e (value_of x z u (world_in B c l h m.used))
          by B sh z e d =
              let G : Gave B u w c' l' h' w' r t.to (plain_name (run_in x) (meant_for y) u (world_in B c l h m.used)) = k.is B sh (means B sh) in
              let R : plain_name (run_in x) (meant_for y) u (world_in B c l h m.used) ≡ value_of x (E.reference (spelling s t)) u (world_in B c l h m.used) = ap (λ (i : Ev.Meant). plain_name (run_in x) i u (world_in B c l h m.used)) (meant_now B sh) ∙ sym (value_reference (world_in B c l h m.used)) in
              gave_as B u w c' l' h' w' r t.to e (plain_name (run_in x) (meant_for y) u (world_in B c l h m.used)) (value_of x z u (world_in B c l h m.used)) (ap (λ (i : Parsed). i.to) d) (R ∙ ap (λ (i : Parsed). value_of x i.tree u (world_in B c l h m.used)) d) G

      abbrev argued : Parsed → Reading Parsed
      argued p = read (parsed (E.call (spelling s t) p.tree) p.to)

      listed_is : o ≡ true → (z : Parsed) → reference_at mixed (inside_of left s) s name (token_at mixed s t.to) ≡ read z → IsRead (E.arguments mixed (inside_of left s (token_at mixed s t.to).from) s (length s) (token_at mixed s t.to).to) argued z
      unfolding reference_at
      listed_is g z e = then_read (E.arguments mixed (inside_of left s (token_at mixed s t.to).from) s (length s) (token_at mixed s t.to).to) argued z (rw (opens true g) at e)

      value_call : (xs : Tree) (w : World) → value_of x (E.call (spelling s t) xs) u w ≡ listed_name (run_in x) (λ ws v z. Ev.arguments (run_in x) (owner_of x.owner) xs ws v z) (Ev.count xs) (meant (owner_of x.owner) (spelling s t) w) u w
      unfolding value_of evaluate
      value_call xs w = refl

      pub reference_listed : o ≡ true → (c' l' h' w' : List ℕ) (r : Evaluated) → ListedIs deck s rows names c l h w v.to left u x m y c' l' h' w' r → Evaluates deck rows names c l h w u x m c' l' h' w' r (reference_at mixed (inside_of left s) s name (token_at mixed s t.to))
      reference_listed g c' l' h' w' r k = record { is = λ B sh z e q. by B sh z e (listed_is g (parsed z e) q) }
        where
          with : (B : World) → Shows deck rows names c l h w u x m B → (z : Tree) (e : ℕ) (p : Parsed) → E.arguments mixed (inside_of left s (token_at mixed s t.to).from) s (length s) v.to ≡ read p → parsed (E.call (spelling s t) p.tree) p.to ≡ parsed z e → Gave B u w c' l' h' w' r e (value_of x z u (world_in B c l h m.used))
          with B sh z e p a d =
              gave_as B u w c' l' h' w' r p.to e _ (value_of x z u (world_in B c l h m.used)) (ap (λ (i : Parsed). i.to) d)
              (ap (λ (i : Ev.Meant). listed_name (run_in x) (λ ws v z. Ev.arguments (run_in x) (owner_of x.owner) p.tree ws v z) (Ev.count p.tree) i u (world_in B c l h m.used)) (meant_now B sh)
              ∙ sym (value_call p.tree (world_in B c l h m.used)) ∙ ap (λ (i : Parsed). value_of x i.tree u (world_in B c l h m.used)) d)
              (k.is B sh (means B sh) (token_at mixed s t.to).from p.tree p.to a)

          by : (B : World) → Shows deck rows names c l h w u x m B → (z : Tree) (e : ℕ) → IsRead (E.arguments mixed (inside_of left s (token_at mixed s t.to).from) s (length s) (token_at mixed s t.to).to) argued (parsed z e) → Gave B u w c' l' h' w' r e (value_of x z u (world_in B c l h m.used))
          by B sh z e i = with B sh z e i.first (rw lex.to i.is) (read_same (parsed (E.call (spelling s t) i.first.tree) i.first.to) (parsed z e) i.rest)

-- ---- what a name without a list gives that is no entry
pub plain_named : (deck rows names c l h w : List ℕ) (u to : ℕ) (x : Scene) (m : Meter) (y : Meant) (w' : List ℕ) (r : Evaluated) → is_entry y ≡ false → PlainIs c l h w u m y to w' r → NameIs deck rows names c l h w u x m y to c l h w' r
plain_named deck rows names c l h w u to x m y w' r e k = record {
  is = λ B sh n. record {
    is = k.is e sh.work sh.taken x B n;
    end = k.end;
    below = k.below;
    fits = k.fits sh.work sh.taken;
    limit = ap (λ (i : Meter). i.limit) k.limit ∙ sh.limit;
    slots = sh.slots;
  };
}

pub named_other : (deck rows names c l h w : List ℕ) (u to : ℕ) (x : Scene) (m : Meter) (y : Meant) (w' : List ℕ) (r : Evaluated) → ((a : ℕ) × (v : ValueType) × (y ≡ M.AVariable a v)) ⊎ ((y ≡ M.TheSubstr) ⊎ (y ≡ M.NoSuch)) → PlainIs c l h w u m y to w' r
    → NameIs deck rows names c l h w u x m y to c l h w' r
named_other deck rows names c l h w u to x m y w' r (inl (a, v, e)) k = plain_named deck rows names c l h w u to x m y w' r (rw e) k
named_other deck rows names c l h w u to x m y w' r (inr (inl e)) k = plain_named deck rows names c l h w u to x m y w' r (rw e) k
named_other deck rows names c l h w u to x m y w' r (inr (inr e)) k = plain_named deck rows names c l h w u to x m y w' r (rw e) k
