-- The loop over a list of arguments, and the functions around it.
-- Assumes nothing.
use Rattle.operands.specs.Types.{Evaluated}
use mathlib.Core.Path.{◌≡◌, refl, sym, ap, subst, ◌∙◌}
use mathlib.Core.Bool.{Bool, true, false, cond}
use mathlib.Core.List.{List, [], ◌∷◌, ◌++◌}
use Prim.Native.Nat.{ℕ, zero, suc, ◌+◌, ◌<◌, ◌≤◌}
use native.Mathlib.Nat.{zero-add}
use native.Mathlib.Numerals.{add-one}
use native.Mathlib.Omega.{arith}
use borrow.Author.Tests.{lt-ltb, le-ltb}
use lib.Dec.{ltb}
use Rattle.std.specs.Prelude.{Ok, Err}
use lib.ListN.{length}
use Rattle.definition.specs.Bytes.{mixed}
use Rattle.definition.specs.Choice.{when}
use Rattle.definition.specs.Tokens.{token_at, is_sign}
use Rattle.definition.specs.Expressions as E
use Rattle.definition.specs.Expressions.{Reading, read, then, Parsed, parsed, Tree, more, none, expect_sign}
use Rattle.definition.specs.Values as Val
use Rattle.definition.specs.World.{World, Res, good, bad, bind, ask}
use Rattle.definition.specs.Evaluate as Ev
use Rattle.definition.specs.Evaluate.{put, count, evaluate}
use Rattle.definition.specs.declared.Why.{Why}
use Rattle.definition.specs.declared.Why.TheVariants.{Syntax}
use Rattle.definition.specs.declared.ValueType.{ValueType}
use Rattle.definition.specs.declared.ValueType.TheVariants.{FixedType, CharacterType}
use Rattle.definition.proofs.Ranges.{Fine}
use Rattle.meter.specs.declared.Meter.{Meter}
use Rattle.tokens.specs.declared.Lexeme.{Lexeme}
use Rattle.tokens.specs.Answer.{Lexed}
use Rattle.names.specs.Table.{owner_of}
use Rattle.expressions.specs.Check.{inside_of}
use Rattle.operators.specs.declared.Value.{Value}
use Rattle.operators.specs.declared.Value.TheVariants.{Number, Characters, Bits}
use Rattle.operators.specs.Stands.{size_for, value_in, stacked, top_of}
use Rattle.operators.proofs.Room.{top_in_lem}
use Rattle.operators.proofs.Callers as R
use Rattle.callees.specs.declared.Held.{Held}
use Rattle.callees.specs.Shown.{world_in, Slots, Typed}
use Rattle.callees.specs.Answer.{HeldWith, held_in, held_size}
use Rattle.operands.specs.declared.Scene.{Scene}
use Rattle.operands.specs.declared.Wished.{Wished}
use Rattle.operands.specs.declared.Target.{Target}
use Rattle.operands.specs.Shown.{Shows}
use Rattle.operands.specs.Answer.{Below, res_in, size_of, meter_of, with_end, Gave, run_in, value_of, Turns}
use Rattle.evaluating.specs.Cycle.{Evaluates}
use Rattle.operands.specs.Takes.{wish_for, wished_on, WithWish, Coming, WishIs, first_listed, wanted_by, Path}
use Rattle.evaluating.specs.Cycle.{Args, TakenIs}
use Rattle.operands.proofs.Trees.{clash, never, read_same, IsRead, then_read, inside_same, expect_is}
use Rattle.operands.proofs.Leaves.{end_is, below_then, value_size}
use Rattle.operands.proofs.Ranging.{value_fine, convert_typed}
use Rattle.evaluating.proofs.Cycle.{shows_as}
use Rattle.operands.proofs.Taking.{One, path_place, path_kept, path_more, subject_first, held_other, held_size_lem, held_typed}

-- ---- the list, as it is read
module _ (left : ℕ) (s : List ℕ) (p : ℕ) where
  -- what follows an argument: others, or the end
  pub data Rests (f at : ℕ) (rest : Tree) (to : ℕ) : Type 0 where
    going : E.arguments mixed (inside_of left s p) s f at ≡ read (parsed rest to) → Rests f at rest to
    ending : rest ≡ none → at ≡ to → Rests f at rest to

  pub record After (f : ℕ) (a z : Parsed) : Type 0 where
    pub rest : Tree
    pub tree : more a.tree rest ≡ z.tree
    pub rests : Rests f (token_at mixed s a.to).to rest z.to

  abbrev next : ℕ → Parsed → Reading Parsed
  next f a =
      when (is_sign "," (token_at mixed s a.to).token)
      (λ _. then (E.arguments mixed (inside_of left s p) s f (token_at mixed s a.to).to) λ r. read (parsed (more a.tree r.tree) r.to))
      (λ _. then (expect_sign mixed ")" s a.to) λ e. read (parsed (more a.tree none) e))

  after_comma : (f : ℕ) (a z : Parsed) → IsRead (E.arguments mixed (inside_of left s p) s f (token_at mixed s a.to).to) (λ r. read (parsed (more a.tree r.tree) r.to)) z → After f a z
  after_comma f a z k =
      let d : parsed (more a.tree k.first.tree) k.first.to ≡ z = read_same (parsed (more a.tree k.first.tree) k.first.to) z k.rest in
      record { rest = k.first.tree; tree = ap (λ (i : Parsed). i.tree) d; rests = going (k.is ∙ ap (λ (i : ℕ). read (parsed k.first.tree i)) (ap (λ (i : Parsed). i.to) d)) }

  after_end_lem : (f : ℕ) (a z : Parsed) → IsRead (expect_sign mixed ")" s a.to) (λ e. read (parsed (more a.tree none) e)) z → After f a z
  after_end_lem f a z k =
      let d : parsed (more a.tree none) k.first ≡ z = read_same (parsed (more a.tree none) k.first) z k.rest in
      record { rest = none; tree = ap (λ (i : Parsed). i.tree) d; rests = ending refl (sym (expect_is ")" s a.to k.first k.is) ∙ ap (λ (i : Parsed). i.to) d) }

  after_by : (f : ℕ) (a z : Parsed) (b : Bool) → when b (λ _. then (E.arguments mixed (inside_of left s p) s f (token_at mixed s a.to).to) λ r. read (parsed (more a.tree r.tree) r.to)) (λ _. then (expect_sign mixed ")" s a.to) λ e. read (parsed (more a.tree none) e)) ≡ read z → After f a z
  after_by f a z true q = after_comma f a z (then_read (E.arguments mixed (inside_of left s p) s f (token_at mixed s a.to).to) (λ r. read (parsed (more a.tree r.tree) r.to)) z q)
  after_by f a z false q = after_end_lem f a z (then_read (expect_sign mixed ")" s a.to) (λ e. read (parsed (more a.tree none) e)) z q)

  turn : (f at : ℕ) (z : Parsed) → E.arguments mixed (inside_of left s p) s (suc f) at ≡ read z → IsRead (inside_of left s p at) (next f) z
  unfolding E.arguments
  turn f at z e = then_read (inside_of left s p at) (next f) z e

  no_turn : (at : ℕ) (z : Parsed) {A : Type 0} → E.arguments mixed (inside_of left s p) s 0 at ≡ read z → A
  unfolding E.arguments
  no_turn at z e = never Syntax at z e

  count_more : (a b : Tree) → count (more a b) ≡ suc (count b)
  unfolding count
  count_more a b = refl

  count_none : count none ≡ 0
  unfolding count
  count_none = refl

  pub record Reads (e : ℕ) (tree : Tree) (at : ℕ) : Type 0 where
    pub fuel : ℕ
    pub rests : Rests fuel at tree e

  pub record Step (e : ℕ) (tree : Tree) (at : ℕ) : Type 0 where
    pub first : Parsed
    pub rest : Tree
    pub is : inside_of left s p at ≡ read first
    pub tree_is : tree ≡ more first.tree rest
    pub reads : Reads e rest (token_at mixed s first.to).to

  step_with : (f at : ℕ) (z : Parsed) (k : IsRead (inside_of left s p at) (next f) z) → After f k.first z → Step z.to z.tree at
  step_with f at z k a = record { first = k.first; rest = a.rest; is = k.is; tree_is = sym a.tree; reads = record { fuel = f; rests = a.rests } }

  step_at_lem : (f at : ℕ) (z : Parsed) → E.arguments mixed (inside_of left s p) s f at ≡ read z → Step z.to z.tree at
  step_at_lem zero at z q = no_turn at z q
  step_at_lem (suc f) at z q = let k : IsRead (inside_of left s p at) (next f) z = turn f at z q in step_with f at z k (after_by f k.first z (is_sign "," (token_at mixed s k.first.to).token) k.rest)

  pub step : (e : ℕ) (tree : Tree) (at f : ℕ) → Rests f at tree e → 0 < count tree → Step e tree at
  step e tree at f (going q) h = step_at_lem f at (parsed tree e) q
  step e tree at f (ending q g) h = absurd (let d : count tree ≡ 0 = ap count q ∙ count_none in omega (arith, d, h))

  some_left : (e : ℕ) (tree : Tree) (at : ℕ) → Step e tree at → 0 < count tree
  some_left e tree at k = let d : count tree ≡ suc (count k.rest) = ap count k.tree_is ∙ count_more k.first.tree k.rest in omega (arith, d)

  pub over : (e : ℕ) (tree : Tree) (at f : ℕ) → Rests f at tree e → count tree ≡ 0 → (tree ≡ none) × (at ≡ e)
  over e tree at f (going q) h = absurd (omega (arith, h, some_left e tree at (step_at_lem f at (parsed tree e) q)))
  over e tree at f (ending q g) h = (q, g)

-- ---- the definition's arguments
bind_bind : {A B C : Type 0} (r : Res Why A) (f : A → World → Res Why B) (g : B → World → Res Why C) → bind r (λ x v. bind (f x v) g) ≡ bind (bind r f) g
bind_bind (good a w) f g = refl
bind_bind (bad e n) f g = refl

bind_good : (r : Res Why (List Val.Value)) → bind r (λ ys z. good ([] ++ ys) z) ≡ r
bind_good (good a w) = refl
bind_good (bad e n) = refl

nil_right : (vs : List Val.Value) → vs ++ [] ≡ vs
nil_right [] = refl
nil_right (v ∷ vs) = ap (λ (t : List Val.Value). v ∷ t) (nil_right vs)

put_last : (vs : List Val.Value) (v : Val.Value) (ys : List Val.Value) → vs ++ (v ∷ ys) ≡ (vs ++ v ∷ []) ++ ys
put_last [] v ys = refl
put_last (x ∷ vs) v ys = ap (λ (t : List Val.Value). x ∷ t) (put_last vs v ys)

bind_last : (vs : List Val.Value) (v : Val.Value) (r : Res Why (List Val.Value)) → bind (bind r (λ ys z. good (v ∷ ys) z)) (λ ys z. good (vs ++ ys) z) ≡ bind r (λ ys z. good ((vs ++ v ∷ []) ++ ys) z)
bind_last vs v (good ys w) = ap (λ (i : List Val.Value). good i w) (put_last vs v ys)
bind_last vs v (bad e n) = refl

module _ (x : Scene) where
  abbrev taken : Tree → List Ev.Wish → ℕ → World → Res Why (List Val.Value)
  taken t ws u w = Ev.arguments (run_in x) (owner_of x.owner) t ws u w

  taken_none : (ws : List Ev.Wish) (u : ℕ) (w : World) → taken none ws u w ≡ good [] w
  unfolding Ev.arguments
  taken_none ws u w = refl

  taken_more : (a b : Tree) (g : Ev.Wish) (gs : List Ev.Wish) (u : ℕ) (w : World) → taken (more a b) (g ∷ gs) u w ≡ bind (wished_on u g (value_of x a u w)) (λ y z. bind (taken b gs (u + Val.size_of y) z) (λ ys r. good (y ∷ ys) r))
  unfolding Ev.arguments wished_on value_of
  taken_more a b g gs u w = bind_bind (evaluate (run_in x) (owner_of x.owner) a u w) (λ v z. put u (Ev.wished g v) z) (λ y z. bind (taken b gs (u + Val.size_of y) z) (λ ys r. good (y ∷ ys) r))

-- ---- an argument that was made what is wished for is of its type
ask_gives : (a : Val.Answer Val.Value) (w y : World) (v : Val.Value) → ask a w ≡ good v y → Val.gives v ≡ a
ask_gives (Val.gives x) w y v e = let h : x ≡ v = cc in ap Val.gives (sym h)
ask_gives (Val.fails x) w y v e = clash (cc)

wished_typed : (u : ℕ) (q : ValueType) (r : Res Why Val.Value) (w : List ℕ) (v : Value) (y : World) → wished_on u (Ev.as_type q) r ≡ good (value_in w u v) y → ((a : Val.Value) (z : World) → r ≡ good a z → Fine a) → Typed q v
unfolding wished_on
wished_typed u q (good a z) w v y e f = convert_typed q a w u v (f a z refl) (ask_gives (stacked u (Val.convert q a)) z y (value_in w u v) (sym (R.put_is u (Val.convert q a) z) ∙ e))
wished_typed u q (bad a n) w v y e f = clash (cc)

typed_short : (q : ValueType) (v : Value) → Typed q v → size_for v ≤ 512
unfolding size_for
typed_short FixedType (Number x) h = omega arith
typed_short FixedType (Characters n) h = absurd h
typed_short FixedType (Bits n) h = absurd h
typed_short CharacterType (Number x) h = absurd h
typed_short CharacterType (Characters n) h = h
typed_short CharacterType (Bits n) h = absurd h

-- ---- the loop
module _ (deck rows names s c₀ l₀ h₀ w₀ : List ℕ) (from left u : ℕ) (t : Target) (x : Scene) (m₀ : Meter) where
  pub record Took (B : World) (p e : ℕ) (ws₀ : List Ev.Wish) (n₀ : ℕ) (R : Res Why (List Val.Value)) (i listed top at : ℕ) (f : Value) (k : Held) (m : Meter) (c l h w : List ℕ) : Type 0 where
    pub tree : Tree
    pub reads : Reads left s p e tree at
    pub left_over : i + count tree ≡ wanted_by t
    pub done : i + count tree ≡ n₀
    pub values : List Val.Value
    pub ws : List Ev.Wish
    pub coming : Coming deck names x.names t i listed ws
    pub enough : count tree ≤ length ws
    pub few : i + length ws ≤ 256
    pub path : Path w f k 0 u ws₀ values i top ws
    pub sized : length k.numbers ≡ 256
    pub same : bind (taken x tree ws top (world_in B c l h m.used)) (λ ys r. good (values ++ ys) r) ≡ R
    pub shows : Shows deck rows names c l h w top x m B
    pub below : Below u w₀ w

  pub record Taking (i listed top at : ℕ) (f : Value) (k : Held) (m : Meter) (c l h w : List ℕ) : Type 0 where
    pub is : (B : World) → Shows deck rows names c₀ l₀ h₀ w₀ u x m₀ B → (p : ℕ) (y : Tree) (e : ℕ) → E.arguments mixed (inside_of left s p) s (length s) from ≡ read (parsed y e) → wanted_by t ≡ count y
        → (ws : List Ev.Wish) → Coming deck names x.names t 0 (first_listed t) ws → count y ≤ length ws → length ws ≤ 256
        → Took B p e ws (count y) (taken x y ws u (world_in B c₀ l₀ h₀ m₀.used)) i listed top at f k m c l h w

  pub taking_start : (f : Value) (k : Held) → length k.numbers ≡ 256 → (listed : ℕ) → listed ≡ first_listed t → Taking 0 listed u from f k m₀ c₀ l₀ h₀ w₀
  taking_start f k z listed el = record {
    is = λ B sh p y e q g ws co a b. record {
      tree = y;
      reads = record { fuel = length s; rests = going q };
      left_over = omega (arith, g);
      done = rw zero-add;
      values = [];
      ws = ws;
      coming = rw el co;
      enough = a;
      few = omega (arith, b);
      path = (refl, refl, refl);
      sized = z;
      same = bind_good (taken x y ws u (world_in B c₀ l₀ h₀ m₀.used));
      shows = sh;
      below = refl;
    };
  }

  module _ (i listed top at : ℕ) (f : Value) (k : Held) (m : Meter) (c l h w : List ℕ) (ta : Taking i listed top at f k m c l h w) where
    end_by : wanted_by t ≤ i → (B : World) (p e : ℕ) (ws₀ : List Ev.Wish) (n₀ : ℕ) (R : Res Why (List Val.Value)) → Took B p e ws₀ n₀ R i listed top at f k m c l h w → Args B u w₀ c l h w ws₀ n₀ e R (Ok (record { held = k; first = f; to = at; meter = m }))
    end_by o B p e ws₀ n₀ R j =
        let z : count j.tree ≡ 0 = omega (arith, o, j.left_over) in
        let v : (j.tree ≡ none) × (at ≡ e) = over left s p e j.tree at j.reads.fuel j.reads.rests z in
        let W₁ : World = world_in B c l h m.used in
        let a : bind (taken x j.tree j.ws top W₁) (λ ys r. good (j.values ++ ys) r) ≡ good j.values W₁ =
        ap (λ (y : Tree). bind (taken x y j.ws top W₁) (λ ys r. good (j.values ++ ys) r)) v.0 ∙ ap (λ (y : Res Why (List Val.Value)). bind y (λ ys r. good (j.values ++ ys) r)) (taken_none x j.ws top W₁) ∙ ap (λ (y : List Val.Value). good y W₁) (nil_right j.values) in
        record {
          is = record {
            values = j.values;
            number = i;
            top = top;
            rest = j.ws;
            is = sym j.same ∙ a;
            path = j.path;
            count = (let b : (0 + length j.values ≡ i) × (u ≤ top) = path_place w f k 0 u ws₀ j.values i top j.ws j.path in omega (arith, b.0, z, j.done));
            end = v.1;
          };
          below = j.below;
          limit = j.shows.limit;
          slots = j.shows.slots;
        }

    pub taking_end : wanted_by t ≤ i → TakenIs deck s rows names c₀ l₀ h₀ w₀ from left u t x m₀ c l h w (Ok (record { held = k; first = f; to = at; meter = m }))
    taking_end o = record { is = λ B sh p y e q g ws co a b. end_by o B p e ws (count y) _ (ta.is B sh p y e q g ws co a b) }

    module _ (o : i < wanted_by t) (r : Wished) (wi : WishIs deck names x.names t i listed r) (c₁ l₁ h₁ w₁ : List ℕ) (z₁ : length w₁ ≡ length w) (b : Evaluated)
        (g : Evaluates deck rows names c l h w top x m c₁ l₁ h₁ w₁ b (inside_of left s 0 at)) (w₂ : List ℕ) (y : Evaluated) (ww : WithWish w₁ top r.wish b w₂ y) where
      -- the argument that was taken now
      pub record Now (B : World) (p e : ℕ) (ws₀ : List Ev.Wish) (n₀ : ℕ) (R : Res Why (List Val.Value)) (j : Took B p e ws₀ n₀ R i listed top at f k m c l h w) : Type 0 where
        pub step : Step left s p e j.tree at
        pub wish : Ev.Wish
        pub wishes : List Ev.Wish
        pub ws_is : j.ws ≡ wish ∷ wishes
        pub coming : Coming deck names x.names t (suc i) r.to wishes
        pub value : res_in B c₁ l₁ h₁ w₂ top y ≡ wished_on top wish (value_of x step.first.tree top (world_in B c l h m.used))
        pub end : y ≡ with_end y step.first.to
        pub below : Below top w w₂
        pub fits : top + size_of y ≤ 65536
        pub limit : (meter_of y).limit ≡ B.limit
        pub slots : Slots B.denotations c₁ l₁ h₁

      now_with : (B : World) (p e : ℕ) (ws₀ : List Ev.Wish) (n₀ : ℕ) (R : Res Why (List Val.Value)) (j : Took B p e ws₀ n₀ R i listed top at f k m c l h w) (st : Step left s p e j.tree at) (ws : List Ev.Wish) → j.ws ≡ ws → 0 < length ws → Now B p e ws₀ n₀ R j
      now_with B p e ws₀ n₀ R j st [] q n = absurd (omega (arith, n))
      now_with B p e ws₀ n₀ R j st (g₁ ∷ gs) q n =
          let cm : Coming deck names x.names t i listed (g₁ ∷ gs) = rw q at j.coming in
          let wa : (wish_for r.wish ≡ g₁) × Coming deck names x.names t (suc i) r.to gs = wi.is g₁ gs cm in
          let G : Gave B top w c₁ l₁ h₁ w₁ b st.first.to (value_of x st.first.tree top (world_in B c l h m.used)) = g.is B j.shows st.first.tree st.first.to (inside_same left s p 0 at st.first st.is) in
          let T₁ : Turns w₁ top top b (wished_on top (wish_for r.wish)) w₂ y = ww.is (omega (arith, z₁, j.shows.work)) G.fits in
          record {
            step = st;
            wish = g₁;
            wishes = gs;
            ws_is = q;
            coming = wa.1;
            value = T₁.is B c₁ l₁ h₁ ∙ ap (wished_on top (wish_for r.wish)) G.is ∙ ap (λ (a : Ev.Wish). wished_on top a (value_of x st.first.tree top (world_in B c l h m.used))) wa.0;
            end = T₁.end st.first.to G.end;
            below = T₁.below ∙ G.below;
            fits = T₁.fits;
            limit = T₁.limit ∙ G.limit;
            slots = G.slots;
          }

      now : (B : World) (p e : ℕ) (ws₀ : List Ev.Wish) (n₀ : ℕ) (R : Res Why (List Val.Value)) (j : Took B p e ws₀ n₀ R i listed top at f k m c l h w) → Now B p e ws₀ n₀ R j
      now B p e ws₀ n₀ R j = now_with B p e ws₀ n₀ R j (step left s p e j.tree at j.reads.fuel j.reads.rests (omega (arith, o, j.left_over))) j.ws refl (omega (arith, o, j.left_over, j.enough))

      -- the whole, by what was taken now
      whole : (B : World) (p e : ℕ) (ws₀ : List Ev.Wish) (n₀ : ℕ) (R : Res Why (List Val.Value)) (j : Took B p e ws₀ n₀ R i listed top at f k m c l h w) (q : Now B p e ws₀ n₀ R j)
          → bind (bind (res_in B c₁ l₁ h₁ w₂ top y) (λ a z. bind (taken x q.step.rest q.wishes (top + Val.size_of a) z) (λ ys r. good (a ∷ ys) r))) (λ ys r. good (j.values ++ ys) r) ≡ R
      whole B p e ws₀ n₀ R j q =
          ap (λ (a : Res Why Val.Value). bind (bind a (λ a z. bind (taken x q.step.rest q.wishes (top + Val.size_of a) z) (λ ys r. good (a ∷ ys) r))) (λ ys r. good (j.values ++ ys) r)) q.value
          ∙ ap (λ (a : Res Why (List Val.Value)). bind a (λ ys r. good (j.values ++ ys) r)) (sym (taken_more x q.step.first.tree q.step.rest q.wish q.wishes top (world_in B c l h m.used)))
          ∙ ap (λ (a : Tree). bind (taken x a (q.wish ∷ q.wishes) top (world_in B c l h m.used)) (λ ys r. good (j.values ++ ys) r)) (sym q.step.tree_is)
          ∙ ap (λ (a : List Ev.Wish). bind (taken x j.tree a top (world_in B c l h m.used)) (λ ys r. good (j.values ++ ys) r)) (sym q.ws_is)
          ∙ j.same

      failed_by : (a : Why) (n : Meter) → y ≡ Err (a, n) → (B : World) (p e : ℕ) (ws₀ : List Ev.Wish) (n₀ : ℕ) (R : Res Why (List Val.Value)) (j : Took B p e ws₀ n₀ R i listed top at f k m c l h w) → Now B p e ws₀ n₀ R j → Args B u w₀ c₁ l₁ h₁ w₂ ws₀ n₀ e R (Err (a, n))
      failed_by a n ey B p e ws₀ n₀ R j q = record {
        is = sym (whole B p e ws₀ n₀ R j q) ∙ rw ey;
        below = below_then u top w₀ w w₂ j.below (path_place w f k 0 u ws₀ j.values i top j.ws j.path).1 q.below;
        limit = rw ey at q.limit;
        slots = q.slots;
      }

      pub taking_failed : (a : Why × Meter) → y ≡ Err a → TakenIs deck s rows names c₀ l₀ h₀ w₀ from left u t x m₀ c₁ l₁ h₁ w₂ (Err a)
      taking_failed (a, n) ey = record { is = λ B sh p d e q g ws co a₁ b₁. let j : Took B p e ws (count d) (taken x d ws u (world_in B c₀ l₀ h₀ m₀.used)) i listed top at f k m c l h w = ta.is B sh p d e q g ws co a₁ b₁ in failed_by a n ey B p e ws (count d) _ j (now B p e ws (count d) _ j) }

      module _ (v : Value) (q₁ : ℕ) (n : Meter) (ey : y ≡ Ok (v, q₁, n)) (k' : Held) (hw : HeldWith k i v k') (f' : Value) (ef : f' ≡ cond (ltb i 1) v f) (z top' : ℕ) (ez : z ≡ size_for v) (et : top' ≡ top_of top z)
          (lx : Lexeme) (lex : Lexed s q₁ lx) (i' : ℕ) (ei : i' ≡ i + 1) (z₂ : length w₂ ≡ length w₁) where
        first_kept : 0 < i → f' ≡ f
        first_kept h = ef ∙ rw (le-ltb i 1 (omega (arith, h)))

        one_by : (B : World) (p e : ℕ) (ws₀ : List Ev.Wish) (n₀ : ℕ) (R : Res Why (List Val.Value)) (j : Took B p e ws₀ n₀ R i listed top at f k m c l h w) (tr : Tree) (gs : List Ev.Wish) → i < 256 → top + size_for v ≤ 65536 → (g₁ : Ev.Wish) → Coming deck names x.names t i listed (g₁ ∷ gs)
            → good (value_in w₂ top v) (world_in B c₁ l₁ h₁ n.used) ≡ wished_on top g₁ (value_of x tr top (world_in B c l h m.used)) → One w₂ f' k' i top g₁ (value_in w₂ top v) (size_for v)
        one_by B p e ws₀ n₀ R j tr gs sm ft (Ev.as_type q) cm ev =
            let ty : Typed q v = wished_typed top q (value_of x tr top (world_in B c l h m.used)) w₂ v (world_in B c₁ l₁ h₁ n.used) (sym ev) (λ a zz ee. value_fine B c l h x tr top m.used a zz j.shows.slots ee) in
            let hh : (value_in w₂ top v ≡ held_in w₂ k' i top q) × (size_for v ≡ held_size k' i q) = held_typed k i v k' hw sm j.sized w₂ top q v refl ty in
            (hh.0, hh.1, typed_short q v ty, ft)
        one_by B p e ws₀ n₀ R j tr gs sm ft Ev.as_subject cm ev =
            let i0 : i ≡ 0 = subject_first deck names x.names t i listed gs cm in
            let fv : f' ≡ v = ef ∙ rw (lt-ltb i 1 (omega (arith, i0))) in
            (ap (value_in w₂ top) (sym fv), ap size_for (sym fv), ft)

        more_by : (B : World) (p e : ℕ) (ws₀ : List Ev.Wish) (n₀ : ℕ) (R : Res Why (List Val.Value)) (j : Took B p e ws₀ n₀ R i listed top at f k m c l h w) → Now B p e ws₀ n₀ R j → Took B p e ws₀ n₀ R i' r.to top' lx.to f' k' n c₁ l₁ h₁ w₂
        more_by B p e ws₀ n₀ R j q =
            let sm : i < 256 = (let d : length j.ws ≡ suc (length q.wishes) = ap length q.ws_is in omega (arith, d, j.few)) in
            let ft : top + size_for v ≤ 65536 = rw ey at q.fits in
            let tp : top' ≡ top + size_for v = et ∙ ap (top_of top) ez ∙ top_in_lem top (size_for v) ft in
            let ii : i' ≡ suc i = ei ∙ add-one i in
            let ev : good (value_in w₂ top v) (world_in B c₁ l₁ h₁ n.used) ≡ wished_on top q.wish (value_of x q.step.first.tree top (world_in B c l h m.used)) = rw ey at q.value in
            let on : One w₂ f' k' i top q.wish (value_in w₂ top v) (size_for v) = one_by B p e ws₀ n₀ R j q.step.first.tree q.wishes sm ft q.wish (rw q.ws_is at j.coming) ev in
            let pk : Path w₂ f' k' 0 u ws₀ j.values i top j.ws = path_kept w w₂ f f' k k' i top j.ws q.below (held_other k i v k' hw sm j.sized) first_kept 0 u ws₀ j.values j.path in
            let pm : Path w₂ f' k' 0 u ws₀ (j.values ++ value_in w₂ top v ∷ []) (suc i) (top + size_for v) q.wishes = path_more w₂ f' k' i top q.wish q.wishes (value_in w₂ top v) (size_for v) on 0 u ws₀ j.values (subst (λ (a : List Ev.Wish). Path w₂ f' k' 0 u ws₀ j.values i top a) q.ws_is pk) in
            let cn : count j.tree ≡ suc (count q.step.rest) = ap count q.step.tree_is ∙ count_more left s p q.step.first.tree q.step.rest in
            let ln : length j.ws ≡ suc (length q.wishes) = ap length q.ws_is in
            let qe : q₁ ≡ q.step.first.to = end_is v q₁ q.step.first.to n (rw ey at q.end) in
            let W₂ : World = world_in B c₁ l₁ h₁ n.used in
            let wh : bind (bind (taken x q.step.rest q.wishes (top + Val.size_of (value_in w₂ top v)) W₂) (λ ys r. good (value_in w₂ top v ∷ ys) r)) (λ ys r. good (j.values ++ ys) r) ≡ R = sym (ap (λ (a : Evaluated). bind (bind (res_in B c₁ l₁ h₁ w₂ top a) (λ a z. bind (taken x q.step.rest q.wishes (top + Val.size_of a) z) (λ ys r. good (a ∷ ys) r))) (λ ys r. good (j.values ++ ys) r)) ey) ∙ whole B p e ws₀ n₀ R j q in
            record {
              tree = q.step.rest;
              reads = rw (lex.to, qe) q.step.reads;
              left_over = omega (arith, ii, j.left_over, cn);
              done = omega (arith, ii, j.done, cn);
              values = j.values ++ value_in w₂ top v ∷ [];
              ws = q.wishes;
              coming = rw ii q.coming;
              enough = omega (arith, j.enough, cn, ln);
              few = omega (arith, ii, j.few, ln);
              path = rw (ii, tp) pm;
              sized = held_size_lem k i v k' hw sm j.sized;
              same = sym (bind_last j.values (value_in w₂ top v) (taken x q.step.rest q.wishes top' W₂)) ∙ ap (λ (a : ℕ). bind (bind (taken x q.step.rest q.wishes a W₂) (λ ys r. good (value_in w₂ top v ∷ ys) r)) (λ ys r. good (j.values ++ ys) r)) (tp ∙ ap (λ (a : ℕ). top + a) (sym (value_size w₂ top v))) ∙ wh;
              shows = shows_as deck rows names c l h w top x m B j.shows c₁ l₁ h₁ w₂ top' n q.slots (z₂ ∙ z₁) (omega (arith, tp, ft)) (rw ey at q.limit);
              below = below_then u top w₀ w w₂ j.below (path_place w f k 0 u ws₀ j.values i top j.ws j.path).1 q.below;
            }

        pub taking_more : Taking i' r.to top' lx.to f' k' n c₁ l₁ h₁ w₂
        taking_more = record {
          is = λ B sh p d e q g ws co a₁ b₁. let j : Took B p e ws (count d) (taken x d ws u (world_in B c₀ l₀ h₀ m₀.used)) i listed top at f k m c l h w = ta.is B sh p d e q g ws co a₁ b₁ in more_by B p e ws (count d) _ j (now B p e ws (count d) _ j);
        }
