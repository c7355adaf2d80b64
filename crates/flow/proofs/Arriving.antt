-- Where control goes, the frames stand: behind a row, into a group, to an alternative, to a label.
-- Assumes nothing.
use mathlib.Core.Path.{◌≡◌, refl, sym, ap, subst, ◌∙◌}
use mathlib.Core.Bool.{Bool, true, false, cond}
use mathlib.Core.List.{List, ◌∷◌}
use Prim.Native.Nat.{ℕ, zero, suc, ◌+◌, ◌<◌, ◌≤◌}
use native.Mathlib.Omega.{arith}
use lib.ListN.{length, get_or}
use Rattle.definition.specs.Program as P
use Rattle.definition.specs.declared.ValueType.TheVariants.{FixedType}
use Rattle.definition.specs.World.{Denotation, builtin_name, variable_of, row_of}
use Rattle.definition.specs.Flow as D
use Rattle.rows.specs.declared.Statement.{Statement}
use Rattle.rows.specs.declared.Statement.TheVariants.{Conditional, Group, Iterated}
use Rattle.rows.specs.Table.{row_in}
use Rattle.rows.specs.Tabled.{kind_of}
use Rattle.flow.specs.declared.Next.{Next}
use Rattle.flow.specs.declared.Next.TheVariants.{Begin, Again, Over}
use Rattle.flow.specs.declared.Walk.{Walk}
use Rattle.flow.specs.declared.Walk.TheVariants.{To as Arrives, Up}
use Rattle.flow.specs.declared.Frame.{Frame}
use Rattle.flow.specs.declared.Frames.{Frames}
use Rattle.flow.specs.Walks as C
use Rattle.flow.specs.Shown.{role_of, link_of, Shown, FrameShown, FrameOf, having, Framed, Linked, AtRow, AtTest, AtNext, AtWalk}
use Rattle.flow.proofs.Framing.{has_again, has_more, has_entered, framed_more, framed_entered, framed_up, framed_own, framed_same, framed_child, framed_child_plain, framed_goto, framed_end, end_own}
use Rattle.flow.proofs.Flows.{iterated_at_lem, may_go_is}

-- ---- the kind of a row, from the table
module _ (t : List ℕ) (rs : List P.Row) (s : Shown t rs) (n : ℕ) (h : n < length rs) where
  iterated_from : (x : Statement) → (row_in t n).statement ≡ x → P.is_iterated (row_of rs n).statement ≡ C.is_iterated x
  unfolding C.iterated_at
  iterated_from x e = sym (iterated_at_lem t rs s n h) ∙ ap C.is_iterated e

  pub conditional_plain : (row_in t n).statement ≡ Conditional → P.is_iterated (row_of rs n).statement ≡ false
  unfolding C.is_iterated
  conditional_plain e = iterated_from Conditional e

  pub group_plain : (row_in t n).statement ≡ Group → P.is_iterated (row_of rs n).statement ≡ false
  unfolding C.is_iterated
  group_plain e = iterated_from Group e

  pub iterated_is : (row_in t n).statement ≡ Iterated → P.is_iterated (row_of rs n).statement ≡ true
  unfolding C.is_iterated
  iterated_is e = iterated_from Iterated e

module _ {E : Type 0} (M : D.Machine E) (t : List ℕ) (ds : List Denotation) (fs : Frames) (F : List D.Frame) where
  -- ---- what begins next, and what a walk is, from where the frames stand
  pub at_begin : (n : ℕ) → AtRow M t ds fs F n → AtNext M t ds fs F (Begin n)
  at_begin n r = record {
    begin = λ m e. let z : n ≡ m = cc in subst (λ (k : ℕ). AtRow M t ds fs F k) z r;
    again = λ g e. let z : ◌≡◌ {A = ℕ} 0 1 = cc in absurd (omega arith);
  }

  pub at_again : (g : ℕ) → AtTest M t ds fs F g → AtNext M t ds fs F (Again g)
  at_again g r = record {
    begin = λ m e. let z : ◌≡◌ {A = ℕ} 0 1 = cc in absurd (omega arith);
    again = λ k e. let z : g ≡ k = cc in subst (λ (j : ℕ). AtTest M t ds fs F j) z r;
  }

  pub at_over : AtNext M t ds fs F Over
  at_over = record {
    begin = λ m e. let z : ◌≡◌ {A = ℕ} 0 1 = cc in absurd (omega arith);
    again = λ g e. let z : ◌≡◌ {A = ℕ} 0 1 = cc in absurd (omega arith);
  }

  pub walk_to : (x : Next) → AtNext M t ds fs F x → AtWalk M t ds fs F (Arrives x)
  walk_to x r = record {
    arrives = λ y e. let z : x ≡ y = cc in subst (λ (k : Next). AtNext M t ds fs F k) z r;
    up = λ p e. let z : ◌≡◌ {A = ℕ} 0 1 = cc in absurd (omega arith);
  }

  pub walk_up : (p : ℕ) → AtRow M t ds fs F p → AtWalk M t ds fs F (Up p)
  walk_up p r = record {
    arrives = λ y e. let z : ◌≡◌ {A = ℕ} 0 1 = cc in absurd (omega arith);
    up = λ q e. let z : p ≡ q = cc in subst (λ (k : ℕ). AtRow M t ds fs F k) z r;
  }

  -- ---- the end of what stands in a row
  once_at : (o : Bool) (g : ℕ) → AtRow M t ds fs F g → (o ≡ false → AtTest M t ds fs F g) → AtWalk M t ds fs F (cond o (Up g) (Arrives (Again g)))
  once_at true g r h = walk_up g r
  once_at false g r h = walk_to (Again g) (at_again g (h refl))

  end_as_lem : (x : P.Statement) (o : Bool) (g : ℕ) → AtRow M t ds fs F g → (P.is_iterated x ≡ true → o ≡ false → AtTest M t ds fs F g)
      → AtWalk M t ds fs F (C.end_as (kind_of x) o g)
  unfolding C.end_as P.is_iterated
  end_as_lem P.null o g r h = walk_up g r
  end_as_lem (P.declare ns) o g r h = walk_up g r
  end_as_lem (P.procedure ns v) o g r h = walk_to Over at_over
  end_as_lem (P.assign v x) o g r h = walk_up g r
  end_as_lem (P.conditional x) o g r h = walk_up g r
  end_as_lem P.group o g r h = walk_up g r
  end_as_lem (P.iterated v x bs) o g r h = once_at o g r (h refl)
  end_as_lem (P.goto v) o g r h = walk_up g r
  end_as_lem (P.include ns) o g r h = walk_up g r
  end_as_lem (P.activate ns) o g r h = walk_up g r
  end_as_lem (P.deactivate ns) o g r h = walk_up g r
  end_as_lem (P.return x) o g r h = walk_up g r

  link_as : (x : P.Link) (n : ℕ) → ((m : ℕ) → x ≡ P.row m → AtRow M t ds fs F m) → AtRow M t ds fs F n → AtWalk M t ds fs F (C.link_walk (link_of x) n)
  unfolding C.link_walk
  link_as (P.row m) n h r = walk_to (Begin m) (at_begin m (h m refl))
  link_as P.nowhere n h r = walk_up n r

  up_as : (p : P.Link) → ((g : ℕ) → p ≡ P.row g → AtRow M t ds fs F g) → AtWalk M t ds fs F (C.up_walk (link_of p))
  unfolding C.up_walk
  up_as P.nowhere h = walk_to Over at_over
  up_as (P.row g) h = walk_up g (h g refl)

  next_as : (x p : P.Link) → ((m : ℕ) → x ≡ P.row m → AtRow M t ds fs F m) → ((g : ℕ) → p ≡ P.row g → AtWalk M t ds fs F (C.end_walk t fs g))
      → AtWalk M t ds fs F (C.next_walk t fs (link_of x) (link_of p))
  unfolding C.next_walk
  next_as (P.row m) p h k = walk_to (Begin m) (at_begin m (h m refl))
  next_as P.nowhere P.nowhere h k = walk_to Over at_over
  next_as P.nowhere (P.row g) h k = k g refl

  behind_as_lem : (r : P.Role) (x p : P.Link) → ((m : ℕ) → x ≡ P.row m → AtRow M t ds fs F m) → ((g : ℕ) → p ≡ P.row g → AtRow M t ds fs F g)
      → ((g : ℕ) → p ≡ P.row g → AtWalk M t ds fs F (C.end_walk t fs g)) → AtWalk M t ds fs F (C.behind_as (role_of r) t fs (link_of x) (link_of p))
  unfolding C.behind_as
  behind_as_lem P.listed x p h i k = next_as x p h k
  behind_as_lem P.then_part x p h i k = up_as p i
  behind_as_lem P.else_part x p h i k = up_as p i

  first_as_lem : (x : P.Link) (g : ℕ) → ((m : ℕ) → x ≡ P.row m → AtRow M t ds fs F m) → AtWalk M t ds fs F (C.end_walk t fs g)
      → AtWalk M t ds fs F (C.first_as (link_of x) t fs g)
  unfolding C.first_as
  first_as_lem (P.row m) g h k = walk_to (Begin m) (at_begin m (h m refl))
  first_as_lem P.nowhere g h k = k

  -- the first row of a member, or of a procedure
  pub first_stands : (x : P.Link) → ((m : ℕ) → x ≡ P.row m → AtRow M t ds fs F m) → AtNext M t ds fs F (C.first_of (link_of x))
  unfolding C.first_of
  first_stands (P.row m) h = at_begin m (h m refl)
  first_stands P.nowhere h = at_over

  follow_as : (x : Walk) (f : ℕ → Next) → AtWalk M t ds fs F x → ((p : ℕ) → AtRow M t ds fs F p → AtNext M t ds fs F (f p)) → AtNext M t ds fs F (C.follow x f)
  follow_as (Arrives y) f w h = w.arrives y refl
  follow_as (Up p) f w h = h p (w.up p refl)

  -- ---- one step of a walk
  module _ (s : Shown t M.rows) (l : Linked M.rows) where
    pub end_walk_stands : (g : ℕ) → g < length M.rows → Framed M t ds fs F g
        → (P.is_iterated (row_of M.rows g).statement ≡ true → FrameOf ds (C.frame_in t fs g) g F) → AtWalk M t ds fs F (C.end_walk t fs g)
    unfolding C.end_walk
    end_walk_stands g h f o = rw (s.tabled.kind g h) (end_as_lem (row_of M.rows g).statement (C.frame_in t fs g).is_once g (record { within = h; framed = f })
        (λ i e. record { within = h; framed = f; iterated = i; own = has_again (o i) e }))

    pub behind_walk_stands : (n : ℕ) → n < length M.rows → Framed M t ds fs F n → AtWalk M t ds fs F (C.behind_walk t fs n)
    unfolding C.behind_walk
    behind_walk_stands n h f = rw ((s.rows n h).role, (s.rows n h).next, (s.rows n h).parent) (behind_as_lem (row_of M.rows n).role (row_of M.rows n).next (row_of M.rows n).parent
        (λ m e. record { within = (l.next n m h e).within; framed = framed_same n m (l.next n m h e).parent f })
        (λ g e.
        let k : g < n = s.tabled.before n g h e in
        record { within = omega arith; framed = framed_up n g f e })
        (λ g e.
        let k : g < n = s.tabled.before n g h e in
        end_walk_stands g (omega arith) (framed_up n g f e) (λ i. framed_own n g f e i)))

    pub first_walk_stands : (g : ℕ) → g < length M.rows → Framed M t ds fs F g
        → (P.is_iterated (row_of M.rows g).statement ≡ true → FrameOf ds (C.frame_in t fs g) g F) → AtWalk M t ds fs F (C.first_walk t fs g)
    unfolding C.first_walk
    first_walk_stands g h f o = rw (s.rows g h).child (first_as_lem (row_of M.rows g).child g
        (λ m e. record { within = (l.child g m h e).within; framed = framed_child g m (l.child g m h e).parent f o })
        (end_walk_stands g h f o))

    pub chosen_walk_stands : (n : ℕ) (c : Bool) → n < length M.rows → Framed M t ds fs F n → P.is_iterated (row_of M.rows n).statement ≡ false
        → AtWalk M t ds fs F (C.chosen_walk t n c)
    unfolding C.chosen_walk
    chosen_walk_stands n true h f i = rw (s.rows n h).child (link_as (row_of M.rows n).child n
        (λ m e. record { within = (l.child n m h e).within; framed = framed_child_plain n m (l.child n m h e).parent f i })
        (record { within = h; framed = f }))
    chosen_walk_stands n false h f i = rw (s.rows n h).other (link_as (row_of M.rows n).other n
        (λ m e. record { within = (l.other n m h e).within; framed = framed_child_plain n m (l.other n m h e).parent f i })
        (record { within = h; framed = f }))

    -- into a group that is tested again
    pub tested_walk_stands : (g : ℕ) → AtTest M t ds fs F g → AtWalk M t ds fs F (C.first_walk t fs g)
    tested_walk_stands g r = first_walk_stands g r.within r.framed (λ _. having r.own)

    -- to a label of row r, or of its END, from row n
    pub landing_walk_stands : (n r : ℕ) (c : Bool) → n < length M.rows → r < length M.rows → Framed M t ds fs F n → D.may_go M.rows n r c ≡ true
        → AtWalk M t ds fs F (C.landing_walk t fs r c)
    unfolding C.landing_walk
    landing_walk_stands n r true h k f m = end_walk_stands r k (framed_end M t s fs F n r h k f m) (λ i. end_own M t s fs F n r h k f m i)
    landing_walk_stands n r false h k f m = walk_to (Begin r) (at_begin r (record { within = k; framed = framed_goto M t s fs F n r h k f m }))

    -- the same, from what `may_go` of the code says
    pub landing_code_stands : (n r : ℕ) (c : Bool) → length M.rows ≤ 2048 → n < length M.rows → r < length M.rows → Framed M t ds fs F n
        → C.may_go_on t n 2048 (C.label_from t r c) ≡ true → AtWalk M t ds fs F (C.landing_walk t fs r c)
    landing_code_stands n r c b h k f m = landing_walk_stands n r c h k f (may_go_is t M.rows s n h b r c k ∙ m)

    -- ---- where a walk arrives, if nothing is put out on the way
    behind_on_stands : (k n : ℕ) → n < length M.rows → Framed M t ds fs F n → AtNext M t ds fs F (C.behind_on t fs k n)
    unfolding C.behind_on
    behind_on_stands zero n h f = at_over
    behind_on_stands (suc k) n h f = follow_as (C.behind_walk t fs n) (λ g. C.behind_on t fs k g) (behind_walk_stands n h f) (λ p r. behind_on_stands k p r.within r.framed)

    pub behind_stands : (n : ℕ) → n < length M.rows → Framed M t ds fs F n → AtNext M t ds fs F (C.behind_on t fs (n + 1) n)
    behind_stands n h f = behind_on_stands (n + 1) n h f

    pub arrived_stands : (x : Walk) → AtWalk M t ds fs F x → AtNext M t ds fs F (C.arrived_at t fs x)
    unfolding C.arrived_at
    arrived_stands x w = follow_as x (λ g. C.behind_on t fs (g + 1) g) w (λ p r. behind_stands p r.within r.framed)

    pub into_stands : (g : ℕ) → g < length M.rows → Framed M t ds fs F g
        → (P.is_iterated (row_of M.rows g).statement ≡ true → FrameOf ds (C.frame_in t fs g) g F) → AtNext M t ds fs F (C.arrived_at t fs (C.first_walk t fs g))
    into_stands g h f o = arrived_stands (C.first_walk t fs g) (first_walk_stands g h f o)

    pub chosen_stands : (n : ℕ) (c : Bool) → n < length M.rows → Framed M t ds fs F n → P.is_iterated (row_of M.rows n).statement ≡ false
        → AtNext M t ds fs F (C.arrived_at t fs (C.chosen_walk t n c))
    chosen_stands n c h f i = arrived_stands (C.chosen_walk t n c) (chosen_walk_stands n c h f i)

    pub landing_stands : (n r : ℕ) (c : Bool) → length M.rows ≤ 2048 → n < length M.rows → r < length M.rows → Framed M t ds fs F n
        → C.may_go_on t n 2048 (C.label_from t r c) ≡ true → AtNext M t ds fs F (C.arrived_at t fs (C.landing_walk t fs r c))
    landing_stands n r c b h k f m = arrived_stands (C.landing_walk t fs r c) (landing_code_stands n r c b h k f m)

-- into a group that is entered: its frame f goes to its depth, and d is the newest
pub entered_walk_stands : {E : Type 0} (M : D.Machine E) (t : List ℕ) (ds : List Denotation) (fs : Frames) (F : List D.Frame) → Shown t M.rows → Linked M.rows
    → (g : ℕ) → g < length M.rows → P.is_iterated (row_of M.rows g).statement ≡ true → (f : Frame) (d : D.Frame) → FrameShown f d → d.group ≡ g
    → get_or ds d.at builtin_name ≡ variable_of FixedType → Framed M t ds fs F g → AtWalk M t ds (C.frames_with t fs g f) (d ∷ F) (C.first_walk t (C.frames_with t fs g f) g)
entered_walk_stands M t ds fs F s l g h i f d sh own var fr = first_walk_stands M t ds (C.frames_with t fs g f) (d ∷ F) s l g h
    (framed_entered M t s ds fs F g h i f d sh own var fr) (λ _. having (has_entered M t s ds fs F g h i f d sh own var fr))

-- ---- names are declared, and the frames stand as they did
module _ {E : Type 0} {M : D.Machine E} {t : List ℕ} {ds : List Denotation} {fs : Frames} {F : List D.Frame} (ds' : List Denotation)
    (h : (j : ℕ) → get_or ds j builtin_name ≡ variable_of FixedType → get_or ds' j builtin_name ≡ variable_of FixedType) where
  pub row_more : (n : ℕ) → AtRow M t ds fs F n → AtRow M t ds' fs F n
  row_more n r = record { within = r.within; framed = framed_more ds' n h r.framed }

  pub test_more : (g : ℕ) → AtTest M t ds fs F g → AtTest M t ds' fs F g
  test_more g r = record { within = r.within; framed = framed_more ds' g h r.framed; iterated = r.iterated; own = has_more ds ds' h r.own }

  pub next_more : (x : Next) → AtNext M t ds fs F x → AtNext M t ds' fs F x
  next_more x a = record { begin = λ n e. row_more n (a.begin n e); again = λ g e. test_more g (a.again g e) }

  pub walk_more : (x : Walk) → AtWalk M t ds fs F x → AtWalk M t ds' fs F x
  walk_more x a = record { arrives = λ y e. next_more y (a.arrives y e); up = λ p e. row_more p (a.up p e) }
