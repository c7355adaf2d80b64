-- Prefix operators in blocks: what is left to apply, after what was applied, is all. And how many arguments a list has.
-- Assumes nothing.
use Rattle.operands.specs.Types.{Evaluated}
use Rattle.expressions.specs.Types.{Expected}
use mathlib.Core.Path.{◌≡◌, refl, sym, ap, ◌∙◌}
use mathlib.Core.Bool.{Bool, true, false}
use mathlib.Core.List.{List, [], ◌∷◌, ◌++◌}
use Prim.Native.Nat.{ℕ, zero, suc, ◌+◌, ◌-◌, ◌%◌, ◌<◌, ◌≤◌}
use native.Mathlib.Nat.{add-zero, zero-add, add-suc, suc-add, mod-lt, mod-le}
use native.Mathlib.Omega.{arith}
use borrow.Author.Tests.{ltb-true, ltb-false, leb-true}
use lib.Dec.{ltb, leb}
use lib.Seq.{get_or-set_same, get_or-set_other}
use Rattle.std.proofs.Common.{length-set, Result, Ok, Err, Option, Some, None}
use lib.ListN.{length, get_or, set, take}
use Rattle.definition.specs.Bytes.{mixed}
use Rattle.definition.specs.Choice.{when}
use Rattle.definition.specs.Tokens.{token_at, is_sign}
use Rattle.definition.specs.Expressions as E
use Rattle.definition.specs.Expressions.{Reading, read, then, Parsed, parsed, Tree, more, none, Maybe, is, no_operator, prefix_of, expect_sign}
use Rattle.definition.specs.Values as Val
use Rattle.definition.specs.World.{World, bad, bind, ask}
use Rattle.definition.specs.Evaluate.{put, count}
use Rattle.definition.specs.declared.Why.{Why}
use Rattle.definition.specs.declared.Why.TheVariants.{Syntax}
use Rattle.definition.specs.declared.Prefix.{Prefix}
use Rattle.definition.specs.declared.Prefix.TheVariants.{Positive}
use Rattle.tokens.specs.declared.Lexeme.{Lexeme}
use Rattle.tokens.specs.Answer.{Lexed, is_sign_in}
use Rattle.expressions.specs.Check.{prefix_for, inside_of, end_for}
use Rattle.expressions.proofs.Laws.{told}
use Rattle.meter.specs.declared.Meter.{Meter}
use Rattle.operators.specs.declared.Value.{Value}
use Rattle.operators.specs.Stands.{size_for, value_in, given_in, stacked, Ready, Stood}
use Rattle.operators.specs.Stands as O
use Rattle.operators.proofs.Callers.{put_is, stood_fits}
use Rattle.callees.specs.Shown.{world_in}
use Rattle.operands.specs.declared.Signs.{Signs}
use Rattle.operands.specs.Answer.{size_of, evaluated_for, Turns, signs_at, prefixed_by, PrefixesDone}
use Rattle.operands.specs.Blocks.{sign_in, signs_in, all_signs, prefixed_all, WithSign, SignsFrom, Applied, BlockDone, AllDone, CountIs}
use Rattle.operands.proofs.Trees.{never, read_same, IsRead, then_read}
use Rattle.operands.proofs.Leaves.{end_is, res_given, given_end, given_meter, failed_turns}

-- ---- lists of operators
abbrev pub pick : List Prefix → ℕ → ℕ → List Prefix
pick ss i zero = []
pick ss i (suc k) = get_or ss i Positive ∷ pick ss (suc i) k

pick_shift : (x : Prefix) (ss : List Prefix) (i k : ℕ) → pick (x ∷ ss) (suc i) k ≡ pick ss i k
pick_shift x ss i zero = refl
pick_shift x ss i (suc k) = ap (λ (t : List Prefix). get_or ss i Positive ∷ t) (pick_shift x ss (suc i) k)

pick_all : (ss : List Prefix) → pick ss 0 (length ss) ≡ ss
pick_all [] = refl
pick_all (x ∷ ss) = ap (λ (t : List Prefix). x ∷ t) (pick_shift x ss 0 (length ss) ∙ pick_all ss)

pick_split : (ss : List Prefix) (i a b : ℕ) → pick ss i (a + b) ≡ pick ss i a ++ pick ss (i + a) b
pick_split ss i zero b = rw (zero-add, add-zero)
pick_split ss i (suc a) b = rw suc-add (ap (λ (t : List Prefix). get_or ss i Positive ∷ t) (pick_split ss (suc i) a b ∙ rw (suc-add, add-suc)))

signs_split : (all : Signs) (i a b : ℕ) → signs_in all i (a + b) ≡ signs_in all i a ++ signs_in all (i + a) b
unfolding signs_in
signs_split all i zero b = rw (zero-add, add-zero)
signs_split all i (suc a) b = rw suc-add (ap (λ (t : List Prefix). sign_in all i ∷ t) (signs_split all (suc i) a b ∙ rw (suc-add, add-suc)))

signs_cons : (all : Signs) (i n : ℕ) → 0 < i → i ≤ n → signs_in all (i - 1) (n - (i - 1)) ≡ sign_in all (i - 1) ∷ signs_in all i (n - i)
unfolding signs_in
signs_cons all i n h k = let e : n - (i - 1) ≡ suc (n - i) = omega arith in let f : suc (i - 1) ≡ i = omega arith in rw (e, f)

signs_pick : (all : Signs) (ss : List Prefix) (j b k : ℕ) → ((i : ℕ) → i < k → sign_in all (j + i) ≡ get_or ss (b + i) Positive) → signs_in all j k ≡ pick ss b k
unfolding signs_in
signs_pick all ss j b zero h = refl
signs_pick all ss j b (suc k) h =
    let e : sign_in all j ≡ get_or ss b Positive = rw (add-zero j, add-zero b) at (h 0 (omega arith)) in
    let f : signs_in all (suc j) k ≡ pick ss (suc b) k = signs_pick all ss (suc j) (suc b) k (λ i l. let p : suc j + i ≡ j + suc i = omega arith in let q : suc b + i ≡ b + suc i = omega arith in rw (p, q) (h (suc i) (omega (arith, l)))) in
    rw (e, f)

-- ---- operators applied
all_append : (u : ℕ) (os ps : List Prefix) (a : Val.Answer Val.Value) → prefixed_all u (os ++ ps) a ≡ prefixed_all u os (prefixed_all u ps a)
unfolding prefixed_all
all_append u [] ps a = refl
all_append u (o ∷ os) ps a = rw (all_append u os ps a)

all_fails : (u : ℕ) (os : List Prefix) (e : Why) → prefixed_all u os (Val.fails e) ≡ Val.fails e
unfolding prefixed_all
all_fails u [] e = refl
all_fails u (o ∷ os) e = rw (all_fails u os e)

all_one : (u : ℕ) (o : Prefix) (os : List Prefix) (a : Val.Answer Val.Value) (v : Val.Value) → Val.gives v ≡ prefixed_all u os a → prefixed_all u (o ∷ os) a ≡ stacked u (Val.prefixed o v)
unfolding prefixed_all
all_one u o os a v e = rw (← e)

-- ---- a block
module _ (all : Signs) (first i : ℕ) (o : Prefix) (n : length all.items ≡ 256) where
  pub sign_out : (first ≤ i → 256 ≤ i - first) → WithSign all first i o all
  sign_out h = record { size = n; here = λ j k e. absurd (omega (arith, h (omega (arith, e)), e, k)); other = λ j e. refl }

  pub sign_set : first ≤ i → i - first < 256 → WithSign all first i o (record { items = set all.items (i - first) o })
  sign_set g h = record {
    size = length-set all.items (i - first) o ∙ n;
    here = λ j k e. let f : j ≡ i - first = omega (arith, e) in rw f (get_or-set_same all.items (i - first) o Positive (omega (arith, h, n)));
    other = λ j e. get_or-set_other all.items (i - first) j o Positive (λ f. e (omega (arith, f, g)));
  }

-- ---- the operators from a number on
signs_next : (f : ℕ) (s : List ℕ) (at : ℕ) (o : Prefix) → prefix_of (token_at mixed s at).token ≡ is o → signs_at (suc f) s at ≡ o ∷ signs_at f s (token_at mixed s at).to
unfolding signs_at
signs_next f s at o e = rw e

signs_stop : (f : ℕ) (s : List ℕ) (at : ℕ) → prefix_of (token_at mixed s at).token ≡ no_operator → signs_at f s at ≡ []
unfolding signs_at
signs_stop zero s at e = refl
signs_stop (suc f) s at e = rw e

signs_zero : (s : List ℕ) (at : ℕ) → signs_at 0 s at ≡ []
unfolding signs_at
signs_zero s at = refl

abbrev found_sign : Option (Prefix × ℕ) → Prefix
found_sign (Some (o, q)) = o
found_sign None = Positive

abbrev found_end : Option (Prefix × ℕ) → ℕ
found_end (Some (o, q)) = q
found_end None = 0

prefix_some : (m : Maybe Prefix) (to q : ℕ) (o : Prefix) → Some (o, q) ≡ prefix_for m to → (m ≡ is o) × (q ≡ to)
prefix_some (is p) to q o e = (ap is (sym (ap found_sign e)), ap found_end e)
prefix_some no_operator to q o e = absurd (let z : ◌≡◌ {A = ℕ} 0 1 = cc in omega arith)

prefix_other : (m : Maybe Prefix) (to : ℕ) → None ≡ prefix_for m to → m ≡ no_operator
prefix_other (is p) to e = absurd (let z : ◌≡◌ {A = ℕ} 0 1 = cc in omega arith)
prefix_other no_operator to e = refl

module _ (s : List ℕ) (from first : ℕ) where
  pub record Signing (all : Signs) (i at : ℕ) : Type 0 where
    pub low : i ≤ length s
    pub size : length all.items ≡ 256
    pub taken : (j : ℕ) → j < 256 → first + j < i → sign_in all j ≡ get_or (all_signs s from) (first + j) Positive
    pub total : length (all_signs s from) ≡ i + length (signs_at (length s - i) s at)
    pub rest : (k : ℕ) → get_or (all_signs s from) (i + k) Positive ≡ get_or (signs_at (length s - i) s at) k Positive

  pub signing_start : (all : Signs) → length all.items ≡ 256 → Signing all 0 from
  signing_start all n = record { low = omega arith; size = n; taken = λ j k e. absurd (omega (arith, e)); total = (let z : length s - 0 ≡ length s = omega arith in rw (zero-add, z)); rest = λ k. (let z : length s - 0 ≡ length s = omega arith in rw (zero-add, z)) }

  module _ (all : Signs) (i at : ℕ) (st : Signing all i at) where
    pub signing_full : (b : Bool) → b ≡ leb (first + 256) i → b ≡ true → SignsFrom s from first all
    signing_full b g h = record { is = λ j k e. st.taken j k (omega (arith, leb-true (first + 256) i (sym g ∙ h), k)) }

    none_left : signs_at (length s - i) s at ≡ [] → SignsFrom s from first all
    none_left e = record { is = λ j k l. st.taken j k (let f : length (signs_at (length s - i) s at) ≡ 0 = ap length e in omega (arith, f, st.total, l)) }

    pub signing_end : length s ≤ i → SignsFrom s from first all
    signing_end h = none_left (let e : length s - i ≡ 0 = omega (arith, h) in rw e (signs_zero s at))

    module _ (o : i < length s) (x : Option (Prefix × ℕ)) (e : x ≡ prefix_for (prefix_of (token_at mixed s at).token) (token_at mixed s at).to) where
      pub signing_stop : x ≡ None → SignsFrom s from first all
      signing_stop f = none_left (signs_stop (length s - i) s at (prefix_other (prefix_of (token_at mixed s at).token) (token_at mixed s at).to (sym f ∙ e)))

      module _ (p : Prefix) (q : ℕ) (f : x ≡ Some (p, q)) (b : Signs) (ws : WithSign all first i p b) where
        found : (prefix_of (token_at mixed s at).token ≡ is p) × (q ≡ (token_at mixed s at).to)
        found = prefix_some (prefix_of (token_at mixed s at).token) (token_at mixed s at).to q p (sym f ∙ e)

        after : signs_at (length s - i) s at ≡ p ∷ signs_at (length s - (i + 1)) s q
        after = let g : length s - i ≡ suc (length s - (i + 1)) = omega (arith, o) in rw (g, found.1) (signs_next (length s - (i + 1)) s at p found.0)

        here_is : get_or (all_signs s from) i Positive ≡ p
        here_is = rw add-zero at (st.rest 0) ∙ rw after

        pub signing_more : Signing b (i + 1) q
        signing_more = record {
          low = omega (arith, o);
          size = ws.size;
          taken = λ j k l. by j k l (ltb (first + j) i) refl;
          total = st.total ∙ (let g : length (signs_at (length s - i) s at) ≡ suc (length (signs_at (length s - (i + 1)) s q)) = ap length after in omega (arith, g));
          rest = λ k. let g : i + 1 + k ≡ i + suc k = omega arith in rw g (st.rest (suc k) ∙ ap (λ (l : List Prefix). get_or l (suc k) Positive) after);
        }
          where
            by : (j : ℕ) → j < 256 → first + j < i + 1 → (v : Bool) → ltb (first + j) i ≡ v → sign_in b j ≡ get_or (all_signs s from) (first + j) Positive
            by j k l true g = ws.other j (λ h. omega (arith, h, ltb-true (first + j) i g)) ∙ st.taken j k (ltb-true (first + j) i g)
            by j k l false g = let h : first + j ≡ i = omega (arith, l, ltb-false (first + j) i g) in ws.here j k h ∙ sym (rw h here_is)

-- ---- a block is applied
module _ (w₀ : List ℕ) (u : ℕ) (all : Signs) (n : ℕ) (v : Value) where
  pub record Blocked (i : ℕ) (x : Value) (w : List ℕ) : Type 0 where
    pub is : Val.gives (value_in w u x) ≡ prefixed_all u (signs_in all i (n - i)) (Val.gives (value_in w₀ u v))
    pub below : take u w ≡ take u w₀
    pub fits : u + size_for x ≤ 65536

  pub record Blocking (i : ℕ) (x : Value) (w : List ℕ) : Type 0 where
    pub low : i ≤ n
    pub size : length w ≡ length w₀
    pub so : Ready w₀ u (size_for v) → Blocked i x w

  pub blocking_start : Blocking n v w₀
  unfolding signs_in prefixed_all
  blocking_start = record { low = omega arith; size = refl; so = λ r. record { is = let e : n - n ≡ 0 = omega arith in rw e; below = refl; fits = r.top } }

  module _ (i : ℕ) (x : Value) (w : List ℕ) (b : Blocking i x w) where
    pub block_done : i ≤ 0 → BlockDone w₀ u all n v w (Ok x)
    unfolding given_in
    block_done h = record {
      so = λ r. let k : Blocked i x w = b.so r in let e : i ≡ 0 = omega (arith, h) in let f : n - 0 ≡ n = omega arith in
          record { is = rw (e, f) at k.is; below = k.below; fits = λ y g. let j : x ≡ y = cc in rw (← j) k.fits };
    }

    module _ (h : 0 < i) (o : Prefix) (eo : o ≡ sign_in all (i - 1)) (w' : List ℕ) (g : Result Value Why) (ga : O.Gave w u (size_for x) (stacked u (Val.prefixed o (value_in w u x))) w' g) where
      stood : Ready w₀ u (size_for v) → Stood w u (stacked u (Val.prefixed o (value_in w u x))) w' g
      stood r = ga.so (record { room = omega (arith, r.room, b.size); top = (b.so r).fits })

      all_is : Ready w₀ u (size_for v) → given_in w' u g ≡ prefixed_all u (signs_in all (i - 1) (n - (i - 1))) (Val.gives (value_in w₀ u v))
      all_is r = (stood r).is ∙ sym (ap (λ (l : List Prefix). prefixed_all u l (Val.gives (value_in w₀ u v))) (signs_cons all i n h b.low) ∙ ap (λ (p : Prefix). prefixed_all u (p ∷ signs_in all i (n - i)) (Val.gives (value_in w₀ u v))) (sym eo) ∙ all_one u o (signs_in all i (n - i)) (Val.gives (value_in w₀ u v)) (value_in w u x) (b.so r).is)

      pub block_more : (y : Value) → g ≡ Ok y → length w' ≡ length w → Blocking (i - 1) y w'
      unfolding given_in
      block_more y e l = record {
        low = omega (arith, b.low);
        size = l ∙ b.size;
        so = λ r. record { is = rw e at (all_is r); below = (stood r).below ∙ (b.so r).below; fits = stood_fits w u (Val.prefixed o (value_in w u x)) w' y (rw e at (stood r)) };
      }

      pub block_fails : (y : Why) → g ≡ Err y → BlockDone w₀ u all n v w' (Err y)
      unfolding given_in
      block_fails y e = record {
        so = λ r.
            let a : Val.fails y ≡ prefixed_all u (signs_in all (i - 1) (n - (i - 1))) (Val.gives (value_in w₀ u v)) = rw e at (all_is r) in
            let c : signs_in all 0 n ≡ signs_in all 0 (i - 1) ++ signs_in all (i - 1) (n - (i - 1)) = (let d : i - 1 + (n - (i - 1)) ≡ n = omega (arith, b.low) in rw (d, zero-add) at (signs_split all 0 (i - 1) (n - (i - 1)))) in
            record {
              is = sym (ap (λ (l : List Prefix). prefixed_all u l (Val.gives (value_in w₀ u v))) c ∙ all_append u (signs_in all 0 (i - 1)) (signs_in all (i - 1) (n - (i - 1))) (Val.gives (value_in w₀ u v)) ∙ ap (prefixed_all u (signs_in all 0 (i - 1))) (sym a) ∙ all_fails u (signs_in all 0 (i - 1)) y);
              below = (stood r).below ∙ (b.so r).below;
              fits = λ z f. absurd (let q : ◌≡◌ {A = ℕ} 0 1 = cc in omega arith);
            };
      }

-- ---- all blocks
module _ (s : List ℕ) (from n : ℕ) (w₀ : List ℕ) (u : ℕ) (v : Value) where
  abbrev ss : List Prefix
  ss = all_signs s from

  pub record Prefixed (i : ℕ) (x : Value) (w : List ℕ) : Type 0 where
    pub is : Val.gives (value_in w u x) ≡ prefixed_all u (pick ss i (n - i)) (Val.gives (value_in w₀ u v))
    pub below : take u w ≡ take u w₀
    pub fits : u + size_for x ≤ 65536

  pub record Prefixing (i : ℕ) (x : Value) (w : List ℕ) : Type 0 where
    pub low : i ≤ n
    pub size : length w ≡ length w₀
    pub so : Ready w₀ u (size_for v) → n ≡ length ss → Prefixed i x w

  pub prefixing_start : Prefixing n v w₀
  unfolding prefixed_all
  prefixing_start = record { low = omega arith; size = refl; so = λ r e. record { is = let f : n - n ≡ 0 = omega arith in rw f; below = refl; fits = r.top } }

  module _ (i : ℕ) (x : Value) (w : List ℕ) (b : Prefixing i x w) where
    pub prefixing_done : i ≤ 0 → AllDone s from n w₀ u v w (Ok x)
    unfolding given_in
    prefixing_done h = record {
      so = λ r e. let k : Prefixed i x w = b.so r e in let f : i ≡ 0 = omega (arith, h) in let g : n - 0 ≡ n = omega arith in
          record {
            is = (let q : Val.gives (value_in w u x) ≡ prefixed_all u (pick ss 0 n) (Val.gives (value_in w₀ u v)) = rw (f, g) at k.is in q ∙ ap (λ (l : List Prefix). prefixed_all u l (Val.gives (value_in w₀ u v))) (ap (pick ss 0) e ∙ pick_all ss));
            below = k.below;
            fits = λ y g. let j : x ≡ y = cc in rw (← j) k.fits;
          };
    }

    module _ (h : 0 < i) (z : ℕ) (small : z ≤ 256) (some : z ≤ i) (all : Signs) (sf : SignsFrom s from (i - z) all) (w' : List ℕ) (g : Result Value Why) (bd : BlockDone w u all z x w' g) where
      block : n ≡ length ss → signs_in all 0 z ≡ pick ss (i - z) z
      block e = signs_pick all ss 0 (i - z) z (λ j k. rw zero-add (sf.is j (omega (arith, k, small)) (omega (arith, k, some, e, b.low))))

      applied : Ready w₀ u (size_for v) → n ≡ length ss → Applied w u (signs_in all 0 z) x w' g
      applied r e = bd.so (record { room = omega (arith, r.room, b.size); top = (b.so r e).fits })

      both : n ≡ length ss → pick ss (i - z) (n - (i - z)) ≡ signs_in all 0 z ++ pick ss i (n - i)
      both e = let a : n - (i - z) ≡ z + (n - i) = omega (arith, some, b.low) in let c : i - z + z ≡ i = omega (arith, some) in rw a (rw c at (pick_split ss (i - z) z (n - i)) ∙ ap (λ (l : List Prefix). l ++ pick ss i (n - i)) (sym (block e)))

      all_by : Ready w₀ u (size_for v) → n ≡ length ss → given_in w' u g ≡ prefixed_all u (pick ss (i - z) (n - (i - z))) (Val.gives (value_in w₀ u v))
      all_by r e = (applied r e).is ∙ ap (prefixed_all u (signs_in all 0 z)) (b.so r e).is ∙ sym (all_append u (signs_in all 0 z) (pick ss i (n - i)) (Val.gives (value_in w₀ u v))) ∙ ap (λ (l : List Prefix). prefixed_all u l (Val.gives (value_in w₀ u v))) (sym (both e))

      pub prefixing_more : (y : Value) → g ≡ Ok y → length w' ≡ length w → Prefixing (i - z) y w'
      unfolding given_in
      prefixing_more y e l = record {
        low = omega (arith, b.low);
        size = l ∙ b.size;
        so = λ r f. record { is = rw e at (all_by r f); below = (applied r f).below ∙ (b.so r f).below; fits = (applied r f).fits y e };
      }

      pub prefixing_fails : (y : Why) → g ≡ Err y → AllDone s from n w₀ u v w' (Err y)
      unfolding given_in
      prefixing_fails y e = record {
        so = λ r f.
            let a : Val.fails y ≡ prefixed_all u (pick ss (i - z) (n - (i - z))) (Val.gives (value_in w₀ u v)) = rw e at (all_by r f) in
            let c : ss ≡ pick ss 0 (i - z) ++ pick ss (i - z) (n - (i - z)) = (let d : i - z + (n - (i - z)) ≡ n = omega (arith, b.low) in sym (pick_all ss) ∙ ap (pick ss 0) (sym f) ∙ rw (d, zero-add) at (pick_split ss 0 (i - z) (n - (i - z)))) in
            record {
              is = sym (ap (λ (l : List Prefix). prefixed_all u l (Val.gives (value_in w₀ u v))) c ∙ all_append u (pick ss 0 (i - z)) (pick ss (i - z) (n - (i - z))) (Val.gives (value_in w₀ u v)) ∙ ap (prefixed_all u (pick ss 0 (i - z))) (sym a) ∙ all_fails u (pick ss 0 (i - z)) y);
              below = (applied r f).below ∙ (b.so r f).below;
              fits = λ q j. absurd (let p : ◌≡◌ {A = ℕ} 0 1 = cc in omega arith);
            };
      }

    -- with the size that the code has
    abbrev last : ℕ
    last = (i - 1) % 256 + 1

    small : last ≤ 256
    small = let a : (i - 1) % 256 < 256 = mod-lt (i - 1) (let b : 0 < 256 = omega arith in b) in omega (arith, a)

    some : 0 < i → last ≤ i
    some h = omega (arith, h, mod-le (i - 1) 256)

    module _ (h : 0 < i) (all : Signs) (sf : SignsFrom s from (i - last) all) (w' : List ℕ) (g : Result Value Why) (bd : BlockDone w u all last x w' g) where
      pub prefixing_next : (y : Value) → g ≡ Ok y → length w' ≡ length w → Prefixing (i - last) y w'
      prefixing_next y e l = prefixing_more h last small (some h) all sf w' g bd y e l

      pub prefixing_stop : (y : Why) → g ≡ Err y → AllDone s from n w₀ u v w' (Err y)
      prefixing_stop y e = prefixing_fails h last small (some h) all sf w' g bd y e

-- ---- as an answer
by_ask : (u : ℕ) (os : List Prefix) (a : Val.Answer Val.Value) (W : World) → prefixed_by u os (ask a W) ≡ ask (prefixed_all u os a) W
unfolding prefixed_by prefixed_all
by_ask u [] a W = refl
by_ask u (o ∷ os) a W = rw (by_ask u os a W) (go (prefixed_all u os a))
  where
    go : (b : Val.Answer Val.Value) → bind (ask b W) (λ v z. put u (Val.prefixed o v) z) ≡ ask (Val.and_then b (λ v. stacked u (Val.prefixed o v))) W
    go (Val.gives v) = put_is u (Val.prefixed o v) W
    go (Val.fails e) = refl

by_bad : (u : ℕ) (os : List Prefix) (e : Why) (n : ℕ) → prefixed_by u os (bad e n) ≡ bad e n
unfolding prefixed_by
by_bad u [] e n = refl
by_bad u (o ∷ os) e n = rw (by_bad u os e n)

module _ (s : List ℕ) (from : ℕ) (w : List ℕ) (u n : ℕ) (y : Evaluated) where
  pub prefixes_none : (f : Why × Meter) → y ≡ Err f → PrefixesDone s from w u n y w (Err f)
  prefixes_none (f, m) e = record { is = λ a b c. rw e (failed_turns w u u f m (prefixed_by u (all_signs s from)) (by_bad u (all_signs s from) f) (omega (arith, b))) }

  module _ (v : Value) (to : ℕ) (m : Meter) (e : y ≡ Ok (v, to, m)) (w' : List ℕ) (g : Result Value Why) (ad : AllDone s from n w u v w' g) where
    turns : 65536 ≤ length w → u + size_for v ≤ 65536 → n ≡ length (all_signs s from) → Turns w u u (Ok (v, to, m)) (prefixed_by u (all_signs s from)) w' (evaluated_for g to m)
    turns a b c =
        let k : Applied w u (all_signs s from) v w' g = ad.so (record { room = a; top = b }) c in
        record {
          is = λ B cc ll hh. res_given B cc ll hh w' u g to m ∙ ap (λ (i : Val.Answer Val.Value). ask i (world_in B cc ll hh m.used)) k.is ∙ sym (by_ask u (all_signs s from) (Val.gives (value_in w u v)) (world_in B cc ll hh m.used));
          end = λ q j. let d : to ≡ q = end_is v to q m j in rw (← d) (given_end g to m);
          below = k.below;
          fits = fits g k.fits;
          limit = ap (λ (i : Meter). i.limit) (given_meter g to m);
        }
      where
        fits : (g₁ : Result Value Why) → ((y : Value) → g₁ ≡ Ok y → u + size_for y ≤ 65536) → u + size_of (evaluated_for g₁ to m) ≤ 65536
        fits (Ok z) h = h z refl
        fits (Err z) h = omega (arith, b)

    pub prefixes_some : (r : Evaluated) → r ≡ evaluated_for g to m → PrefixesDone s from w u n y w' r
    prefixes_some r f = record { is = λ a b c. rw (e, f) (turns a (rw e at b) c) }

-- ---- how many arguments a list has
module _ (s : List ℕ) (from left : ℕ) where
  pub record Counted (p : ℕ) (t : Tree) (n at : ℕ) : Type 0 where
    pub tree : Tree
    pub end : ℕ
    pub same : E.arguments mixed (inside_of left s p) s (length s - n) at ≡ read (parsed tree end)
    pub total : n + count tree ≡ count t

  pub record Counting (n at : ℕ) : Type 0 where
    pub low : n ≤ length s
    pub is : (p : ℕ) (t : Tree) (e : ℕ) → E.arguments mixed (inside_of left s p) s (length s) from ≡ read (parsed t e) → Counted p t n at

  pub counting_start : Counting 0 from
  counting_start = record { low = omega arith; is = λ p t e q. record { tree = t; end = e; same = (let z : length s - 0 ≡ length s = omega arith in rw z q); total = rw zero-add } }

  abbrev next : ℕ → ℕ → Parsed → Reading Parsed
  next p f a =
      when (is_sign "," (token_at mixed s a.to).token)
      (λ _. then (E.arguments mixed (inside_of left s p) s f (token_at mixed s a.to).to) λ r. read (parsed (more a.tree r.tree) r.to))
      (λ _. then (expect_sign mixed ")" s a.to) λ e. read (parsed (more a.tree none) e))

  turn : (p f at : ℕ) (z : Parsed) → E.arguments mixed (inside_of left s p) s (suc f) at ≡ read z → IsRead (inside_of left s p at) (next p f) z
  unfolding E.arguments
  turn p f at z e = then_read (inside_of left s p at) (next p f) z e

  no_turn : (p at : ℕ) (z : Parsed) {A : Type 0} → E.arguments mixed (inside_of left s p) s 0 at ≡ read z → A
  unfolding E.arguments
  no_turn p at z e = never Syntax at z e

  inside_end : (p q at : ℕ) (z : Parsed) → inside_of left s p at ≡ read z → end_for (inside_of left s q at) ≡ Ok z.to
  unfolding end_for
  inside_end p q at z e = rw (Rattle.operands.proofs.Trees.inside_same left s p q at z e)

  count_more : (a b : Tree) → count (more a b) ≡ suc (count b)
  unfolding count
  count_more a b = refl

  count_none : count none ≡ 0
  unfolding count
  count_none = refl

  module _ (n at : ℕ) (k : Counting n at) where
    pub counting_end : length s ≤ n → (r : ℕ) → CountIs s from left r
    counting_end h r = record { is = λ p t e q. let c : Counted p t n at = k.is p t e q in let z : length s - n ≡ 0 = omega (arith, h) in no_turn p at (parsed c.tree c.end) (rw z at c.same) }

    module _ (o : n < length s) (x : Expected) (f : x ≡ end_for (inside_of left s 0 at)) where
      first : (p : ℕ) (t : Tree) → (c : Counted p t n at) → IsRead (inside_of left s p at) (next p (length s - (n + 1))) (parsed c.tree c.end)
      first p t c = let z : length s - n ≡ suc (length s - (n + 1)) = omega (arith, o) in turn p (length s - (n + 1)) at (parsed c.tree c.end) (rw z at c.same)

      pub counting_refused : (y : Why × ℕ) → x ≡ Err y → CountIs s from left (n + 1)
      counting_refused y g = record { is = λ p t e r. let c : Counted p t n at = k.is p t e r in let i : IsRead (inside_of left s p at) (next p (length s - (n + 1))) (parsed c.tree c.end) = first p t c in absurd (no p i.first i.is) }
        where
          no : (p : ℕ) (z : Parsed) → inside_of left s p at ≡ read z → ⊥
          no p z h = let j : Err y ≡ Ok z.to = sym g ∙ f ∙ inside_end p 0 at z h in let a : ◌≡◌ {A = ℕ} 0 1 = cc in omega arith

      module _ (e : ℕ) (g : x ≡ Ok e) (l : Lexeme) (lex : Lexed s e l) (v : Bool) (c : v ≡ is_sign_in s l (44 ∷ [])) where
        end_of_lem : (p : ℕ) (z : Parsed) → inside_of left s p at ≡ read z → z.to ≡ e
        end_of_lem p z h = let j : Ok z.to ≡ Ok e = sym (inside_end p 0 at z h) ∙ sym f ∙ g in cc

        comma : (b : Bool) → v ≡ b → is_sign "," (token_at mixed s e).token ≡ b
        comma b d = told s e l lex "," (44 ∷ []) v b refl c d

        last_by_lem : v ≡ false → (p : ℕ) (t : Tree) (a : Counted p t n at) (z : Parsed) → inside_of left s p at ≡ read z → (b : Bool) → is_sign "," (token_at mixed s z.to).token ≡ b → b ≡ false
            → when b (λ _. then (E.arguments mixed (inside_of left s p) s (length s - (n + 1)) (token_at mixed s z.to).to) λ r. read (parsed (more z.tree r.tree) r.to)) (λ _. then (expect_sign mixed ")" s z.to) λ e. read (parsed (more z.tree none) e)) ≡ read (parsed a.tree a.end) → n + 1 ≡ count t
        last_by_lem d p t a z h true i j q = absurd (let y : ◌≡◌ {A = ℕ} 0 1 = cc in omega arith)
        last_by_lem d p t a z h false i j q =
            let r : IsRead (expect_sign mixed ")" s z.to) (λ e. read (parsed (more z.tree none) e)) (parsed a.tree a.end) = then_read (expect_sign mixed ")" s z.to) (λ e. read (parsed (more z.tree none) e)) (parsed a.tree a.end) q in
            let y : more z.tree none ≡ a.tree = ap (λ (i : Parsed). i.tree) (read_same (parsed (more z.tree none) r.first) (parsed a.tree a.end) r.rest) in
            let b : count a.tree ≡ 1 = sym (ap count y) ∙ count_more z.tree none ∙ ap suc count_none in
            omega (arith, b, a.total)

        pub counting_last : v ≡ false → CountIs s from left (n + 1)
        counting_last d = record {
          is = λ p t e r.
              let a : Counted p t n at = k.is p t e r in
              let i : IsRead (inside_of left s p at) (next p (length s - (n + 1))) (parsed a.tree a.end) = first p t a in
              last_by_lem d p t a i.first i.is (is_sign "," (token_at mixed s i.first.to).token) refl (rw (end_of_lem p i.first i.is) (comma false d)) i.rest;
        }

        more_by : v ≡ true → (p : ℕ) (t : Tree) (a : Counted p t n at) (z : Parsed) → inside_of left s p at ≡ read z → (b : Bool) → is_sign "," (token_at mixed s z.to).token ≡ b → b ≡ true
            → when b (λ _. then (E.arguments mixed (inside_of left s p) s (length s - (n + 1)) (token_at mixed s z.to).to) λ r. read (parsed (more z.tree r.tree) r.to)) (λ _. then (expect_sign mixed ")" s z.to) λ e. read (parsed (more z.tree none) e)) ≡ read (parsed a.tree a.end) → Counted p t (n + 1) l.to
        more_by d p t a z h false i j q = absurd (let y : ◌≡◌ {A = ℕ} 0 1 = cc in omega arith)
        more_by d p t a z h true i j q =
            let r : IsRead (E.arguments mixed (inside_of left s p) s (length s - (n + 1)) (token_at mixed s z.to).to) (λ r. read (parsed (more z.tree r.tree) r.to)) (parsed a.tree a.end) = then_read (E.arguments mixed (inside_of left s p) s (length s - (n + 1)) (token_at mixed s z.to).to) (λ r. read (parsed (more z.tree r.tree) r.to)) (parsed a.tree a.end) q in
            let y : more z.tree r.first.tree ≡ a.tree = ap (λ (i : Parsed). i.tree) (read_same (parsed (more z.tree r.first.tree) r.first.to) (parsed a.tree a.end) r.rest) in
            let b : count a.tree ≡ suc (count r.first.tree) = sym (ap count y) ∙ count_more z.tree r.first.tree in
            let f : l.to ≡ (token_at mixed s z.to).to = lex.to ∙ ap (λ (i : ℕ). (token_at mixed s i).to) (sym (end_of_lem p z h)) in
            record { tree = r.first.tree; end = r.first.to; same = rw f r.is; total = omega (arith, b, a.total) }

        pub counting_more : v ≡ true → Counting (n + 1) l.to
        counting_more d = record {
          low = omega (arith, o);
          is = λ p t e r.
              let a : Counted p t n at = k.is p t e r in
              let i : IsRead (inside_of left s p at) (next p (length s - (n + 1))) (parsed a.tree a.end) = first p t a in
              more_by d p t a i.first i.is (is_sign "," (token_at mixed s i.first.to).token) refl (rw (end_of_lem p i.first i.is) (comma true d)) i.rest;
        }
