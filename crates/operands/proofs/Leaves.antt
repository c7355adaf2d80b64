-- One law for each way out of the small functions on values that were evaluated.
-- Assumes nothing.
use Rattle.values.specs.declared.NumberError.{NumberError}
use Rattle.values.specs.declared.NumberError.TheVariants as N
use Rattle.names.specs.declared.Place.{Place}
use Rattle.operands.specs.Types.{Evaluated}
use Rattle.std.proofs.Common.{Option, Result, Ok, Err}
use mathlib.Core.Path.{◌≡◌, refl, sym, ap, ◌∙◌}
use mathlib.Core.Bool.{Bool, true, false, cond}
use mathlib.Core.List.{List, [], ◌∷◌}
use mathlib.Core.Logic.{◌⊎◌, inl, inr}
use Prim.Native.Nat.{ℕ, zero, suc, ◌+◌, ◌-◌, ◌<◌, ◌≤◌}
use native.Mathlib.Nat.{add-zero, zero-add}
use native.Mathlib.Omega.{arith}
use borrow.Author.Tests.{le-leb, lt-leb, leb-true}
use lib.Dec.{leb}
use lib.ListN.{length, get_or}
use Rattle.definition.specs.Lists.{part}
use Rattle.definition.specs.Expressions.{integer_of}
use Rattle.definition.specs.Values as Val
use Rattle.definition.specs.World as W
use Rattle.definition.specs.World.{World, Res, good, bad, ask, variable_of, entry_of, label_at, builtin_name, seen_from}
use Rattle.definition.specs.Evaluate as Ev
use Rattle.definition.specs.Evaluate.{Call, evaluate, put, plain_name, read_cell, meant}
use Rattle.definition.specs.declared.Why.{Why}
use Rattle.definition.specs.declared.Why.TheVariants.{TooLong, WrongName, WrongArguments}
use Rattle.definition.specs.declared.ValueType.{ValueType}
use Rattle.fixed.specs.declared.Fixed.{Fixed}
use Rattle.meter.specs.declared.Meter.{Meter}
use Rattle.tokens.specs.declared.Lexeme.{Lexeme}
use Rattle.tokens.specs.Answer.{written, content, Unquoted, Lexed}
use Rattle.values.specs.Answers.{answer_of, why_of}
use Rattle.store.specs.Cells.{cell_in}
use Rattle.operators.specs.declared.Value.{Value}
use Rattle.operators.specs.declared.Value.TheVariants.{Number, Characters, Bits}
use Rattle.operators.specs.Stands.{size_for, value_in, given_in, stacked, Stood}
use Rattle.operators.specs.Stands as O
use Rattle.operators.proofs.Room.{part_written, below_over}
use Rattle.operators.proofs.Answers.{size_is}
use Rattle.operators.proofs.Callers as R
use Rattle.operators.proofs.Callers.{below_less, stood_fits}
use Rattle.callees.specs.declared.Meant.{Meant}
use Rattle.callees.specs.declared.Meant.TheVariants as M
use Rattle.callees.specs.Shown.{values_from, world_in}
use Rattle.callees.specs.Answer.{read_in, VariableIs}
use Rattle.operands.specs.declared.Scene.{Scene}
use Rattle.operands.specs.Answer.{Below, res_in, size_of, meter_of, with_end, run_in, value_of, evaluated_for, ConstantIs, IntegerIs, string_tree, ClosedIs, Means, PlainIs, infix_on, Turns, WithInfix}
use Rattle.definition.specs.declared.Operator.{Operator}

pub true_false : {A : Type 0} → true ≡ false → A
true_false e = absurd (let z : ◌≡◌ {A = ℕ} 0 1 = cc in omega arith)

-- ---- answers
pub given_some : (g : Result Value Why) (v : Value) (to : ℕ) (m : Meter) → g ≡ Ok v → Ok (v, to, m) ≡ evaluated_for g to m
given_some g v to m e = rw e

pub given_none : (g : Result Value Why) (w : Why) (to : ℕ) (m : Meter) → g ≡ Err w → Err (w, m) ≡ evaluated_for g to m
given_none g w to m e = rw e

abbrev end_in : Evaluated → ℕ
end_in (Ok (v, e, m)) = e
end_in (Err w) = 0

pub end_is : (v : Value) (q e : ℕ) (m : Meter) → Ok (v, q, m) ≡ with_end (Ok (v, q, m)) e → q ≡ e
end_is v q e m h = ap end_in h

-- ---- rooms
pub below_same : (u : ℕ) (w : List ℕ) → Below u w w
below_same u w = refl

pub below_then : (u v : ℕ) (w w₁ w₂ : List ℕ) → Below u w w₁ → u ≤ v → Below v w₁ w₂ → Below u w w₂
below_then u v w w₁ w₂ a h b = below_less u v w₁ w₂ h b ∙ a

pub value_below : (v : Value) (u : ℕ) (w w' : List ℕ) → Below (u + size_for v) w w' → value_in w' u v ≡ value_in w u v
value_below v u w w' b = R.value_below (u + size_for v) u w w' v b (omega arith)

pub value_size : (w : List ℕ) (u : ℕ) (v : Value) → Val.size_of (value_in w u v) ≡ size_for v
value_size w u v = size_is w u v

-- ---- integers
module _ (s : List ℕ) (t : Lexeme) (m : Meter) (n : ℕ) (e : n ≡ t.to - t.from) (x : Result Fixed NumberError) (f : answer_of x ≡ Val.constant (part n t.from s)) where
  constant_is : Val.constant (written s t) ≡ answer_of x
  unfolding written
  constant_is = rw (← e) (sym f)

  integer_value : (sc : Scene) (u : ℕ) (w : World) → value_of sc (integer_of (written s t)) u w ≡ ask (Val.and_then (answer_of x) (λ z. Val.gives (Val.fixed z))) w
  unfolding value_of evaluate
  integer_value sc u w = rw constant_is

  pub integer_some : (k : Fixed) → x ≡ Ok k → IntegerIs (written s t) t.to m (Ok (Number k, t.to, m))
  unfolding value_in size_for
  integer_some k g = record { is = λ w u. record { is = λ a b sc B c l h. sym (integer_value sc u (world_in B c l h m.used) ∙ rw g); end = refl; below = below_same u w; fits = λ q. omega (arith, q); limit = refl } }

  wrong_by : (e : NumberError) → x ≡ Err e → IntegerIs (written s t) t.to m (Err (why_of e, m))
  wrong_by N.NoConversion g = record { is = λ w u. record { is = λ a b sc B c l h. sym (integer_value sc u (world_in B c l h m.used) ∙ rw g); end = refl; below = below_same u w; fits = λ q. omega (arith, q); limit = refl } }
  wrong_by N.OutOfRange g = record { is = λ w u. record { is = λ a b sc B c l h. sym (integer_value sc u (world_in B c l h m.used) ∙ rw g); end = refl; below = below_same u w; fits = λ q. omega (arith, q); limit = refl } }

  pub integer_wrong : (e : NumberError) (w : Why) → x ≡ Err e → w ≡ why_of e → IntegerIs (written s t) t.to m (Err (w, m))
  integer_wrong e w g h = rw h (wrong_by e g)

-- ---- strings
abbrev string_value : Bool → List ℕ → Val.Value
string_value true l = Val.bit_value l
string_value false l = Val.characters l

string_is : (b : Bool) (l : List ℕ) (sc : Scene) (u : ℕ) (w : World) → value_of sc (string_tree b l) u w ≡ put u (Val.limited (string_value b l)) w
unfolding value_of evaluate
string_is true l sc u w = refl
string_is false l sc u w = refl

string_size : (b : Bool) (l : List ℕ) → Val.size_of (string_value b l) ≡ length l
string_size true l = refl
string_size false l = refl

put_long : (b : Bool) (l : List ℕ) (u : ℕ) (w : World) → 512 < length l → put u (Val.limited (string_value b l)) w ≡ bad TooLong w.used
unfolding put Val.limited
put_long b l u w h = rw (string_size b l, lt-leb (length l) 512 h)

put_full : (b : Bool) (l : List ℕ) (u : ℕ) (w : World) → length l ≤ 512 → leb (u + length l) 65536 ≡ false → put u (Val.limited (string_value b l)) w ≡ bad TooLong w.used
unfolding put Val.limited Val.unfinished
put_full b l u w h k = rw (string_size b l, le-leb (length l) 512 h, string_size b l, k)

put_some : (b : Bool) (l : List ℕ) (u : ℕ) (w : World) → length l ≤ 512 → leb (u + length l) 65536 ≡ true → put u (Val.limited (string_value b l)) w ≡ good (string_value b l) w
unfolding put Val.limited Val.unfinished
put_some b l u w h k = rw (string_size b l, le-leb (length l) 512 h, string_size b l, k)

module _ (s w : List ℕ) (t : Lexeme) (b : Bool) (u n : ℕ) (m : Meter) (e : n ≡ length (content s t.from)) where
  pub string_long : 512 < n → ConstantIs (string_tree b (content s t.from)) w u t.to m w (Err (TooLong, m))
  string_long h = record { is = λ a k sc B c l hh. sym (string_is b (content s t.from) sc u (world_in B c l hh m.used) ∙ put_long b (content s t.from) u (world_in B c l hh m.used) (omega (arith, h, e))); end = refl; below = below_same u w; fits = λ q. omega (arith, q); limit = refl }

  module _ (h : n ≤ 512) (v : Bool) (f : v ≡ leb (u + n) 65536) where
    pub string_full : v ≡ false → ConstantIs (string_tree b (content s t.from)) w u t.to m w (Err (TooLong, m))
    string_full g = record { is = λ a k sc B c l hh. sym (string_is b (content s t.from) sc u (world_in B c l hh m.used) ∙ put_full b (content s t.from) u (world_in B c l hh m.used) (omega (arith, h, e)) (rw (← e) (sym f ∙ g))); end = refl; below = below_same u w; fits = λ q. omega (arith, q); limit = refl }

    module _ (g : v ≡ true) (w' : List ℕ) (q : ℕ) (uq : Unquoted s t.from w u w' q) where
      room : 65536 ≤ length w → part n u w' ≡ content s t.from
      room a = part_written n u w w' (content s t.from) e uq.is (omega (arith, leb-true (u + n) 65536 (sym f ∙ g), a, e))

      below : Below u w w'
      below = below_over u u w w' (content s t.from) (omega arith) uq.is

      value : (sc : Scene) (B : World) (c l h : List ℕ) → value_of sc (string_tree b (content s t.from)) u (world_in B c l h m.used) ≡ good (string_value b (content s t.from)) (world_in B c l h m.used)
      value sc B c l hh = string_is b (content s t.from) sc u (world_in B c l hh m.used) ∙ put_some b (content s t.from) u (world_in B c l hh m.used) (omega (arith, h, e)) (rw (← e) (sym f ∙ g))

      pub string_bits : b ≡ true → ConstantIs (string_tree b (content s t.from)) w u t.to m w' (Ok (Bits n, t.to, m))
      unfolding value_in size_for
      string_bits i = record { is = λ a k sc B c l hh. rw (room a) (sym (value sc B c l hh ∙ rw i)); end = refl; below = below; fits = λ k. leb-true (u + n) 65536 (sym f ∙ g); limit = refl }

      pub string_text : b ≡ false → ConstantIs (string_tree b (content s t.from)) w u t.to m w' (Ok (Characters n, t.to, m))
      unfolding value_in size_for
      string_text i = record { is = λ a k sc B c l hh. rw (room a) (sym (value sc B c l hh ∙ rw i)); end = refl; below = below; fits = λ k. leb-true (u + n) 65536 (sym f ∙ g); limit = refl }

-- ---- variables
pub values_at : (ds : List W.Denotation) (b i : ℕ) (t : ValueType) (c l h : List ℕ) → get_or ds i builtin_name ≡ variable_of t → get_or (values_from ds b c l h) i W.no_value ≡ cell_in c l h t (b + i)
unfolding values_from
values_at [] b i t c l h e = absurd (let z : ◌≡◌ {A = ℕ} 0 1 = cc in omega arith)
values_at (d ∷ ds) b zero t c l h e = rw (e, add-zero)
values_at (d ∷ ds) b (suc i) t c l h e = let f : b + suc i ≡ suc b + i = omega arith in rw f (values_at ds (suc b) i t c l h e)

meant_denotes : (x : W.Address) (n : List ℕ) (w : World) (a : ℕ) (t : ValueType) → Ev.a_variable a t ≡ Ev.meant_at x n w → get_or w.denotations a builtin_name ≡ variable_of t
meant_denotes (W.address b) n w a t e = by (W.denotation b w) refl e
  where
    builtin : (v : Bool) → Ev.a_variable a t ≡ cond v Ev.the_substr Ev.no_such → get_or w.denotations a builtin_name ≡ variable_of t
    builtin true f = absurd (let z : ◌≡◌ {A = ℕ} 0 1 = cc in omega arith)
    builtin false f = absurd (let z : ◌≡◌ {A = ℕ} 0 1 = cc in omega arith)

    by : (d : W.Denotation) → W.denotation b w ≡ d → Ev.a_variable a t ≡ Ev.meant_by d b n → get_or w.denotations a builtin_name ≡ variable_of t
    by (variable_of v) g f = let h : a ≡ b = cc in let k : t ≡ v = cc in rw (h, k) g
    by (entry_of v c) g f = absurd (let z : ◌≡◌ {A = ℕ} 0 1 = cc in omega arith)
    by (label_at m r v) g f = absurd (let z : ◌≡◌ {A = ℕ} 0 1 = cc in omega arith)
    by builtin_name g f = builtin (Ev.is_substr n) f
meant_denotes W.unknown n w a t e = builtin (Ev.is_substr n) e
  where
    builtin : (v : Bool) → Ev.a_variable a t ≡ cond v Ev.the_substr Ev.no_such → get_or w.denotations a builtin_name ≡ variable_of t
    builtin true f = absurd (let z : ◌≡◌ {A = ℕ} 0 1 = cc in omega arith)
    builtin false f = absurd (let z : ◌≡◌ {A = ℕ} 0 1 = cc in omega arith)

pub variable_denotes : (a : ℕ) (t : ValueType) (B : World) → Means (M.AVariable a t) B → get_or B.denotations a builtin_name ≡ variable_of t
unfolding meant
variable_denotes a t B k = meant_denotes (seen_from k.scope k.spelling B) k.spelling B a t k.is

pub res_given : (B : World) (c l h w : List ℕ) (u : ℕ) (g : Result Value Why) (to : ℕ) (m : Meter) → res_in B c l h w u (evaluated_for g to m) ≡ ask (given_in w u g) (world_in B c l h m.used)
unfolding given_in
res_given B c l h w u (Ok v) to m = refl
res_given B c l h w u (Err e) to m = refl

read_ask : (x : W.Cell) (u : ℕ) (w : World) → ask (read_in x u) w ≡ read_cell x u w
unfolding put
read_ask W.no_value u w = refl
read_ask (W.holds v) u w = refl

among_size : (u : ℕ) (v x : Val.Value) → Val.unfinished u v ≡ Val.gives x → u + Val.size_of x ≤ 65536
unfolding Val.unfinished
among_size u v x e = by (leb (u + Val.size_of v) 65536) refl e
  where
    by : (b : Bool) → leb (u + Val.size_of v) 65536 ≡ b → cond b (Val.gives v) (Val.fails TooLong) ≡ Val.gives x → u + Val.size_of x ≤ 65536
    by true f g = let h : v ≡ x = cc in rw (← h) (leb-true (u + Val.size_of v) 65536 f)
    by false f g = absurd (let z : ◌≡◌ {A = ℕ} 0 1 = cc in omega arith)

read_size : (x : W.Cell) (u : ℕ) (v : Val.Value) → Val.gives v ≡ read_in x u → u + Val.size_of v ≤ 65536
read_size W.no_value u v e = absurd (let z : ◌≡◌ {A = ℕ} 0 1 = cc in omega arith)
read_size (W.holds y) u v e = among_size u y v (sym e)

given_size : (w : List ℕ) (u : ℕ) (g : Result Value Why) (to : ℕ) (m : Meter) (x : W.Cell) → u ≤ 65536 → given_in w u g ≡ read_in x u → u + size_of (evaluated_for g to m) ≤ 65536
unfolding given_in
given_size w u (Ok v) to m x h e = rw (value_size w u v) at (read_size x u (value_in w u v) e)
given_size w u (Err e) to m x h f = omega (arith, h)

pub given_end : (g : Result Value Why) (to : ℕ) (m : Meter) → evaluated_for g to m ≡ with_end (evaluated_for g to m) to
given_end (Ok v) to m = refl
given_end (Err e) to m = refl

pub given_meter : (g : Result Value Why) (to : ℕ) (m : Meter) → meter_of (evaluated_for g to m) ≡ m
given_meter (Ok v) to m = refl
given_meter (Err e) to m = refl

plain_variable_is : (run : Call) (a : ℕ) (t : ValueType) (u : ℕ) (w : World) → plain_name run (Ev.a_variable a t) u w ≡ read_cell (W.value_at a w) u w
unfolding plain_name
plain_variable_is run a t u w = refl

module _ (c l h w : List ℕ) (u to : ℕ) (m : Meter) (y : Meant) where
  pub plain_variable : (a : ℕ) (t : ValueType) → y ≡ M.AVariable a t → (w' : List ℕ) (g : Result Value Why) → VariableIs c l h w a t u w' g → (r : Evaluated) → r ≡ evaluated_for g to m → PlainIs c l h w u m y to w' r
  plain_variable a t e w' g k r f = rw (e, f) record {
    is = λ _ z q x B j.
        let d : W.value_at a (world_in B c l h m.used) ≡ cell_in c l h t a = rw zero-add at (values_at B.denotations 0 a t c l h (variable_denotes a t B j)) in
        res_given B c l h w' u g to m ∙ ap (λ (i : Val.Answer Val.Value). ask i (world_in B c l h m.used)) (k.is z q) ∙ read_ask (cell_in c l h t a) u (world_in B c l h m.used) ∙ sym (plain_variable_is (run_in x) a t u (world_in B c l h m.used) ∙ ap (λ (i : W.Cell). read_cell i u (world_in B c l h m.used)) d);
    end = given_end g to m;
    below = k.below;
    fits = λ z q. given_size w' u g to m (cell_in c l h t a) q (k.is z q);
    limit = given_meter g to m;
  }

  pub plain_wrong : ((b : Option Place) × (y ≡ M.AnEntry b)) ⊎ (y ≡ M.NoSuch) → PlainIs c l h w u m y to w (Err (WrongName, m))
  unfolding plain_name
  plain_wrong (inl (b, e)) = rw e record { is = λ i z q x B j. true_false i; end = refl; below = below_same u w; fits = λ z q. omega (arith, q); limit = refl }
  plain_wrong (inr e) = rw e record { is = λ i z q x B j. refl; end = refl; below = below_same u w; fits = λ z q. omega (arith, q); limit = refl }

  pub plain_substr : y ≡ M.TheSubstr → PlainIs c l h w u m y to w (Err (WrongArguments, m))
  unfolding plain_name
  plain_substr e = rw e record { is = λ i z q x B j. refl; end = refl; below = below_same u w; fits = λ z q. omega (arith, q); limit = refl }

-- ---- what an operator gave, as an answer
module _ (w : List ℕ) (u v : ℕ) (x : Value) (to : ℕ) (m : Meter) (F : Res Why Val.Value → Res Why Val.Value) (A : Val.Answer Val.Value) (w' : List ℕ) (g : Result Value Why)
    (f : (B : World) (c l h : List ℕ) → F (good (value_in w v x) (world_in B c l h m.used)) ≡ put u A (world_in B c l h m.used)) (k : u ≤ 65536) (s : Stood w u (stacked u A) w' g) where
  given_fits : (g₁ : Result Value Why) → Stood w u (stacked u A) w' g₁ → u + size_of (evaluated_for g₁ to m) ≤ 65536
  given_fits (Ok y) s₁ = stood_fits w u A w' y s₁
  given_fits (Err y) s₁ = omega (arith, k)

  pub stood_turns : Turns w u v (Ok (x, to, m)) F w' (evaluated_for g to m)
  stood_turns = record {
    is = λ B c l h. res_given B c l h w' u g to m ∙ ap (λ (i : Val.Answer Val.Value). ask i (world_in B c l h m.used)) s.is ∙ sym (R.put_is u A (world_in B c l h m.used)) ∙ sym (f B c l h);
    end = λ q j. let d : to ≡ q = end_is x to q m j in rw (← d) (given_end g to m);
    below = s.below;
    fits = given_fits g s;
    limit = ap (λ (i : Meter). i.limit) (given_meter g to m);
  }

-- what was refused stays so
pub failed_turns : (w : List ℕ) (u v : ℕ) (e : Why) (m : Meter) (F : Res Why Val.Value → Res Why Val.Value) → ((n : ℕ) → F (bad e n) ≡ bad e n) → u ≤ 65536 → Turns w u v (Err (e, m)) F w (Err (e, m))
failed_turns w u v e m F f k = record { is = λ B c l h. sym (f m.used); end = λ q j. refl; below = refl; fits = omega (arith, k); limit = refl }

-- ---- the operator with its two sides
module _ (w : List ℕ) (u : ℕ) (o : Operator) (x : Value) (y : Evaluated) where
  pub infix_none : (f : Why × Meter) → y ≡ Err f → WithInfix w u o x y w (Err f)
  unfolding infix_on
  infix_none (f, m) e = record { is = λ a b. rw e (failed_turns w u (u + size_for x) f m (infix_on u o (value_in w u x)) (λ n. refl) (omega (arith, b))) }

  module _ (v : Value) (to : ℕ) (m : Meter) (e : y ≡ Ok (v, to, m)) (w' : List ℕ) (g : Result Value Why)
      (k : O.Gave w u (size_for x + size_for v) (stacked u (Val.infixed u o (value_in w u x) (value_in w (u + size_for x) v))) w' g) where
    infix_turns : 65536 ≤ length w → u + size_for x + size_for v ≤ 65536 → Turns w u (u + size_for x) (Ok (v, to, m)) (infix_on u o (value_in w u x)) w' (evaluated_for g to m)
    unfolding infix_on
    infix_turns a b = stood_turns w u (u + size_for x) v to m (infix_on u o (value_in w u x)) (Val.infixed u o (value_in w u x) (value_in w (u + size_for x) v)) w' g (λ B c l h. refl) (omega (arith, b)) (k.so (record { room = a; top = omega (arith, b) }))

    pub infix_done : (r : Evaluated) → r ≡ evaluated_for g to m → WithInfix w u o x y w' r
    infix_done r f = record { is = λ a b. rw (e, f) (infix_turns a (rw e at b)) }

-- ---- the place past the parenthesis that closes
module _ (s : List ℕ) (y : Evaluated) where
  pub closed_none : (f : Why × Meter) → y ≡ Err f → ClosedIs s y (Err f)
  closed_none (f, m) e = rw e record { is = λ q h. refl }

  pub closed_some : (v : Value) (e : ℕ) (m : Meter) → y ≡ Ok (v, e, m) → (l : Lexeme) → Lexed s e l → ClosedIs s y (Ok (v, l.to, m))
  closed_some v e m f l lex = rw f record { is = λ q h. let d : e ≡ q = end_is v e q m h in rw (← d, lex.to) }
