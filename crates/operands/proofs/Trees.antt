-- What the definition's reading of a tree says of its parts, and what its evaluation says of them.
-- Assumes nothing.
use mathlib.Core.Path.{◌≡◌, refl, sym, ap, ◌∙◌}
use mathlib.Core.Bool.{Bool, true, false, cond}
use mathlib.Core.List.{List, [], ◌∷◌}
use Prim.Native.Nat.{ℕ, zero, suc, ◌+◌, ◌-◌, ◌<◌, ◌≤◌}
use native.Mathlib.Omega.{arith}
use lib.ListN.{length}
use Rattle.definition.specs.Bytes.{mixed}
use Rattle.definition.specs.Tokens.{token_at, is_sign}
use Rattle.definition.specs.Expressions.{Reading, read, refused, then, Parsed, parsed, Reader, Tree, unary, binary, Maybe, is, no_operator, infix_of, prefix_of, expect_sign, operand, chain, levels, expression}
use Rattle.definition.specs.Values as Val
use Rattle.definition.specs.World.{World, good, bad, bind}
use Rattle.definition.specs.Evaluate.{evaluate, put}
use Rattle.definition.specs.declared.Why.{Why}
use Rattle.definition.specs.declared.Why.TheVariants.{Syntax, OverLimit}
use Rattle.definition.specs.declared.Operator.{Operator}
use Rattle.definition.specs.declared.Prefix.{Prefix}
use Rattle.expressions.specs.Check.{inside_of, levels_in, primitive_at, prefixes}
use Rattle.operands.specs.declared.Scene.{Scene}
use Rattle.operands.specs.Answer.{value_of, infix_on, signs_at, prefixed_by}

pub clash : {A : Type 0} → ◌≡◌ {A = ℕ} 0 1 → A
clash z = absurd (omega arith)

-- ---- a reading that is no refusal
pub never : {A B : Type 0} (w : Why) (p : ℕ) (x : A) → ◌≡◌ {A = Reading A} (refused w p) (read x) → B
never w p x e = absurd (let z : ◌≡◌ {A = ℕ} 0 1 = cc in omega arith)

pub read_same : {A : Type 0} (x y : A) → ◌≡◌ {A = Reading A} (read x) (read y) → x ≡ y
read_same x y e = cc

pub record IsRead {A B : Type 0} (R : Reading A) (f : A → Reading B) (b : B) : Type 0 where
  pub first : A
  pub is : R ≡ read first
  pub rest : f first ≡ read b

-- a reading after another
pub then_read : {A B : Type 0} (R : Reading A) (f : A → Reading B) (b : B) → then R f ≡ read b → IsRead R f b
then_read (read a) f b e = record { first = a; is = refl; rest = e }
then_read (refused w p) f b e = never w p b e

-- ---- levels and chains
levels_step : (inner : Reader) (s : List ℕ) (l at : ℕ) (t : Tree) (e : ℕ) → levels mixed inner s (suc l) at ≡ read (parsed t e)
    → IsRead (levels mixed inner s l at) (λ r. chain mixed l (levels mixed inner s l) s (suc (length s)) r.tree r.to) (parsed t e)
unfolding levels
levels_step inner s l at t e q = then_read (levels mixed inner s l at) (λ r. chain mixed l (levels mixed inner s l) s (suc (length s)) r.tree r.to) (parsed t e) q

pub levels_first : (inner : Reader) (s : List ℕ) (n at : ℕ) (t : Tree) (e : ℕ) → 1 ≤ n → levels mixed inner s n at ≡ read (parsed t e)
    → IsRead (levels mixed inner s (n - 1) at) (λ r. chain mixed (n - 1) (levels mixed inner s (n - 1)) s (suc (length s)) r.tree r.to) (parsed t e)
levels_first inner s n at t e h r = let f : n ≡ suc (n - 1) = omega (arith, h) in levels_step inner s (n - 1) at t e (rw f at r)

pub levels_zero : (inner : Reader) (s : List ℕ) (n at : ℕ) → n ≡ 0 → levels mixed inner s n at ≡ inner at
unfolding levels
levels_zero inner s n at e = rw e

-- the operator that stands next, and its right side
pub chain_more : (l : ℕ) (next : Reader) (s : List ℕ) (f : ℕ) (t₀ : Tree) (at : ℕ) (x : Parsed) (o : Operator) → infix_of l (token_at mixed s at).token ≡ is o → chain mixed l next s (suc f) t₀ at ≡ read x
    → IsRead (next (token_at mixed s at).to) (λ r. chain mixed l next s f (binary o t₀ r.tree) r.to) x
unfolding chain
chain_more l next s f t₀ at x o e q = then_read (next (token_at mixed s at).to) (λ r. chain mixed l next s f (binary o t₀ r.tree) r.to) x (rw e at q)

pub chain_done : (l : ℕ) (next : Reader) (s : List ℕ) (f : ℕ) (t₀ : Tree) (at : ℕ) (x : Parsed) → infix_of l (token_at mixed s at).token ≡ no_operator → chain mixed l next s (suc f) t₀ at ≡ read x → parsed t₀ at ≡ x
unfolding chain
chain_done l next s f t₀ at x e q = read_same (parsed t₀ at) x (rw e at q)

pub chain_none : (l : ℕ) (next : Reader) (s : List ℕ) (t₀ : Tree) (at : ℕ) (x : Parsed) {B : Type 0} → chain mixed l next s zero t₀ at ≡ read x → B
unfolding chain
chain_none l next s t₀ at x q = never Syntax at x q

module _ (x : Scene) (u : ℕ) (w : World) where
  pub value_binary : (o : Operator) (a b : Tree) (v : Val.Value) (y : World) → value_of x a u w ≡ good v y → value_of x (binary o a b) u w ≡ infix_on u o v (value_of x b (u + Val.size_of v) y)
  unfolding value_of evaluate infix_on
  value_binary o a b v y e = rw e

  pub value_refused : (o : Operator) (a b : Tree) (c : Why) (n : ℕ) → value_of x a u w ≡ bad c n → value_of x (binary o a b) u w ≡ bad c n
  unfolding value_of evaluate
  value_refused o a b c n e = rw e

  -- a refusal of the tree so far is the whole tree's
  strict_by : (l : ℕ) (next : Reader) (s : List ℕ) (f : ℕ) (t₀ : Tree) (at : ℕ) (z : Parsed) (c : Why) (n : ℕ) → value_of x t₀ u w ≡ bad c n → (o : Maybe Operator) → infix_of l (token_at mixed s at).token ≡ o
      → ((b : Tree) (e : ℕ) (o : Operator) → chain mixed l next s f (binary o t₀ b) e ≡ read z → value_of x z.tree u w ≡ bad c n) → chain mixed l next s (suc f) t₀ at ≡ read z → value_of x z.tree u w ≡ bad c n
  strict_by l next s f t₀ at z c n e (is o) q again r = let k : IsRead (next (token_at mixed s at).to) (λ y. chain mixed l next s f (binary o t₀ y.tree) y.to) z = chain_more l next s f t₀ at z o q r in again k.first.tree k.first.to o k.rest
  strict_by l next s f t₀ at z c n e no_operator q again r = rw (← chain_done l next s f t₀ at z q r) e

  pub strict : (l : ℕ) (next : Reader) (s : List ℕ) (f : ℕ) (t₀ : Tree) (at : ℕ) (z : Parsed) (c : Why) (n : ℕ) → value_of x t₀ u w ≡ bad c n → chain mixed l next s f t₀ at ≡ read z → value_of x z.tree u w ≡ bad c n
  strict l next s zero t₀ at z c n e r = chain_none l next s t₀ at z r
  strict l next s (suc f) t₀ at z c n e r = strict_by l next s f t₀ at z c n e (infix_of l (token_at mixed s at).token) refl (λ b q o k. strict l next s f (binary o t₀ b) q z c n (value_refused o t₀ b c n e) k) r

  -- ---- prefix operators
  abbrev unaries : List Prefix → Tree → Tree
  unaries [] t = t
  unaries (o ∷ os) t = unary o (unaries os t)

  value_unaries : (os : List Prefix) (t : Tree) → value_of x (unaries os t) u w ≡ prefixed_by u os (value_of x t u w)
  unfolding value_of evaluate prefixed_by
  value_unaries [] t = refl
  value_unaries (o ∷ os) t = rw (value_unaries os t)

-- the operand behind its prefix operators
pub record Operand (inside : ℕ → Reader) (s : List ℕ) (f at : ℕ) (x : Scene) (t : Tree) (e : ℕ) : Type 0 where
  pub first : Tree
  pub is : primitive_at inside s (prefixes f s at).to ≡ read (parsed first e)
  pub count : (prefixes f s at).count ≡ length (signs_at f s at)
  pub value : (u : ℕ) (w : World) → value_of x t u w ≡ prefixed_by u (signs_at f s at) (value_of x first u w)

value_unary : (x : Scene) (o : Prefix) (t : Tree) (u : ℕ) (w : World) → value_of x (unary o t) u w ≡ bind (value_of x t u w) (λ v z. put u (Val.prefixed o v) z)
unfolding value_of evaluate
value_unary x o t u w = refl

operand_stop : (inside : ℕ → Reader) (s : List ℕ) (f at : ℕ) (x : Scene) (t : Tree) (e : ℕ) → prefix_of (token_at mixed s at).token ≡ no_operator → operand mixed inside s (suc f) at ≡ read (parsed t e) → primitive_at inside s at ≡ read (parsed t e)
unfolding operand
operand_stop inside s f at x t e q r = rw q at r

operand_next : (inside : ℕ → Reader) (s : List ℕ) (f at : ℕ) (z : Parsed) (o : Prefix) → prefix_of (token_at mixed s at).token ≡ is o → operand mixed inside s (suc f) at ≡ read z
    → IsRead (operand mixed inside s f (token_at mixed s at).to) (λ r. read (parsed (unary o r.tree) r.to)) z
unfolding operand
operand_next inside s f at z o q r = then_read (operand mixed inside s f (token_at mixed s at).to) (λ r. read (parsed (unary o r.tree) r.to)) z (rw q at r)

operand_end : (inside : ℕ → Reader) (s : List ℕ) (at : ℕ) (z : Parsed) {B : Type 0} → operand mixed inside s zero at ≡ read z → B
unfolding operand
operand_end inside s at z r = never Syntax at z r

stop_is : (inside : ℕ → Reader) (s : List ℕ) (f at : ℕ) (x : Scene) (t : Tree) (e : ℕ) → prefix_of (token_at mixed s at).token ≡ no_operator → primitive_at inside s at ≡ read (parsed t e) → Operand inside s f at x t e
unfolding prefixes signs_at prefixed_by
stop_is inside s zero at x t e q r = record { first = t; is = r; count = refl; value = λ u w. refl }
stop_is inside s (suc f) at x t e q r = record { first = t; is = rw q r; count = rw q; value = λ u w. rw q }

next_is : (inside : ℕ → Reader) (s : List ℕ) (f at : ℕ) (x : Scene) (t : Tree) (e : ℕ) (o : Prefix) → prefix_of (token_at mixed s at).token ≡ is o → Operand inside s f (token_at mixed s at).to x t e → Operand inside s (suc f) at x (unary o t) e
unfolding prefixes signs_at prefixed_by
next_is inside s f at x t e o q k = record {
  first = k.first;
  is = rw q k.is;
  count = rw q (ap suc k.count);
  value = λ u w. value_unary x o t u w ∙ rw (q, k.value u w);
}

-- of the operator o and what was read behind it
operand_with : (inside : ℕ → Reader) (s : List ℕ) (f at : ℕ) (x : Scene) (z : Parsed) (o : Prefix) → prefix_of (token_at mixed s at).token ≡ is o → (y : Parsed) → Operand inside s f (token_at mixed s at).to x y.tree y.to → ◌≡◌ {A = Reading Parsed} (read (parsed (unary o y.tree) y.to)) (read z) → Operand inside s (suc f) at x z.tree z.to
operand_with inside s f at x z o q y k r = rw (← read_same (parsed (unary o y.tree) y.to) z r) (next_is inside s f at x y.tree y.to o q k)

pub operand_is : (inside : ℕ → Reader) (s : List ℕ) (f at : ℕ) (x : Scene) (z : Parsed) → operand mixed inside s (suc f) at ≡ read z → Operand inside s f at x z.tree z.to
operand_is inside s zero at x z r = by (prefix_of (token_at mixed s at).token) refl
  where
    by : (o : Maybe Prefix) → prefix_of (token_at mixed s at).token ≡ o → Operand inside s zero at x z.tree z.to
    by (is o) q = let k : IsRead (operand mixed inside s zero (token_at mixed s at).to) (λ r. read (parsed (unary o r.tree) r.to)) z = operand_next inside s zero at z o q r in operand_end inside s (token_at mixed s at).to k.first k.is
    by no_operator q = stop_is inside s zero at x z.tree z.to q (operand_stop inside s zero at x z.tree z.to q r)
operand_is inside s (suc f) at x z r = by (prefix_of (token_at mixed s at).token) refl (λ y q. operand_is inside s f (token_at mixed s at).to x y q)
  where
    by : (o : Maybe Prefix) → prefix_of (token_at mixed s at).token ≡ o → ((y : Parsed) → operand mixed inside s (suc f) (token_at mixed s at).to ≡ read y → Operand inside s f (token_at mixed s at).to x y.tree y.to) → Operand inside s (suc f) at x z.tree z.to
    by (is o) q again = let k : IsRead (operand mixed inside s (suc f) (token_at mixed s at).to) (λ r. read (parsed (unary o r.tree) r.to)) z = operand_next inside s (suc f) at z o q r in operand_with inside s f at x z o q k.first (again k.first k.is) k.rest
    by no_operator q again = stop_is inside s (suc f) at x z.tree z.to q (operand_stop inside s (suc f) at x z.tree z.to q r)

-- ---- what is inside a parenthesis
pub inside_same : (d : ℕ) (s : List ℕ) (p q at : ℕ) (z : Parsed) → inside_of d s p at ≡ read z → inside_of d s q at ≡ read z
unfolding inside_of
inside_same zero s p q at z e = never OverLimit p z e
inside_same (suc d) s p q at z e = e

pub inside_none : (d : ℕ) (s : List ℕ) (p at : ℕ) (z : Parsed) {B : Type 0} → d < 1 → inside_of d s p at ≡ read z → B
unfolding inside_of
inside_none zero s p at z h e = never OverLimit p z e
inside_none (suc d) s p at z h e = absurd (omega (arith, h))

pub expression_is : (d : ℕ) (s : List ℕ) (at : ℕ) → expression mixed d s at ≡ levels_in d s 6 at
unfolding expression inside_of
expression_is zero s at = refl
expression_is (suc d) s at = refl

inside_step : (d : ℕ) (s : List ℕ) (p at : ℕ) → inside_of (suc d) s p at ≡ expression mixed d s at
unfolding inside_of
inside_step d s p at = refl

pub inside_is : (d : ℕ) (s : List ℕ) (p at : ℕ) → 1 ≤ d → inside_of d s p at ≡ levels_in (d - 1) s 6 at
inside_is zero s p at h = absurd (omega (arith, h))
inside_is (suc d) s p at h = inside_step d s p at ∙ expression_is d s at ∙ ap (λ (k : ℕ). levels_in k s 6 at) (let f : d ≡ suc d - 1 = omega arith in f)

-- a sign that had to follow
pub expect_is : (W : Prim.Native.String.String) (s : List ℕ) (at e : ℕ) → expect_sign mixed W s at ≡ read e → e ≡ (token_at mixed s at).to
unfolding expect_sign
expect_is W s at e q = by (is_sign W (token_at mixed s at).token) q
  where
    by : (b : Bool) → ◌≡◌ {A = Reading ℕ} (cond b (read (token_at mixed s at).to) (refused Syntax (token_at mixed s at).from)) (read e) → e ≡ (token_at mixed s at).to
    by true r = sym (read_same (token_at mixed s at).to e r)
    by false r = never Syntax (token_at mixed s at).from e r
