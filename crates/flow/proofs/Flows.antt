-- What the functions of this crate are in the definition: where the table stands for the rows of a member, each walk leads where
-- the definition goes, and a GOTO may go where it may.
-- Assumes nothing.
use Rattle.std.proofs.Common.{Some, None}
use mathlib.Core.Path.{◌≡◌, refl, sym, ap, ◌∙◌}
use mathlib.Core.Bool.{Bool, true, false, cond, ◌&&◌}
use mathlib.Core.List.{List, ◌∷◌}
use Prim.Native.Nat.{ℕ, zero, suc, ◌+◌, ◌<◌, ◌≤◌}
use native.Mathlib.Omega.{arith}
use borrow.Author.Tests.{eq-eqb, ne_eqb, eqb-true, eqb-false}
use lib.Dec.{eqb}
use lib.IntN.{ℤ, pos, negsuc}
use lib.ListN.{length}
use Rattle.definition.specs.Choice.{when}
use Rattle.definition.specs.Program as P
use Rattle.definition.specs.World.{Denotation, World, Res, good, bad, bind, row_of}
use Rattle.definition.specs.Fixed as F
use Rattle.definition.specs.Flow as D
use Rattle.fixed.specs.Signed.{from_stored}
use Rattle.rows.specs.declared.Statement.{Statement}
use Rattle.rows.specs.declared.Statement.TheVariants.{Null, Declare, Procedure, Assign, Conditional, Group, Iterated, Goto, Include, Activate, Deactivate, Return}
use Rattle.rows.specs.declared.Role.{Role}
use Rattle.rows.specs.Table.{row_in}
use Rattle.rows.specs.Tabled.{kind_of}
use Rattle.flow.specs.declared.Next.TheVariants.{Again}
use Rattle.flow.specs.declared.Walk.{Walk}
use Rattle.flow.specs.declared.Walk.TheVariants.{To as Arrives, Up}
use Rattle.flow.specs.declared.Frame.{Frame}
use Rattle.flow.specs.declared.Frames.{Frames}
use Rattle.flow.specs.Walks as C
use Rattle.flow.specs.Shown.{role_of, link_of, Shown, parent, Framed, to_of, FrameShown, next_from, walked, out_behind}
use Rattle.flow.proofs.Framing.{once_of, framed_up}

module _ {E : Type 0} (M : D.Machine E) (F : List D.Frame) (up : ℕ → World → Res E D.Next) (w : World) where
  -- ---- the end of what stands in a row
  once_is : (o : Bool) (g : ℕ) → when o (λ _. up g w) (λ _. good (D.again g) w) ≡ walked (cond o (Up g) (Arrives (Again g))) up w
  once_is true g = refl
  once_is false g = refl

  end_as_lem : (x : P.Statement) (g : ℕ) (o : Bool) → (P.is_iterated x ≡ true → o ≡ D.is_once g F)
      → D.end_in M x g F (λ _. up g w) w ≡ walked (C.end_as (kind_of x) o g) up w
  unfolding C.end_as P.is_iterated
  end_as_lem P.null g o h = refl
  end_as_lem (P.declare ns) g o h = refl
  end_as_lem (P.procedure ns t') g o h = refl
  end_as_lem (P.assign v x) g o h = refl
  end_as_lem (P.conditional x) g o h = refl
  end_as_lem P.group g o h = refl
  end_as_lem (P.iterated v x bs) g o h = rw (h refl) (once_is (D.is_once g F) g)
  end_as_lem (P.goto v) g o h = refl
  end_as_lem (P.include ns) g o h = refl
  end_as_lem (P.activate ns) g o h = refl
  end_as_lem (P.deactivate ns) g o h = refl
  end_as_lem (P.return x) g o h = refl

  module _ (t : List ℕ) (s : Shown t M.rows) (fs : Frames) where
    pub end_is : (g : ℕ) → g < length M.rows → (P.is_iterated (row_of M.rows g).statement ≡ true → (C.frame_in t fs g).is_once ≡ D.is_once g F)
        → D.end_in M (row_of M.rows g).statement g F (λ _. up g w) w ≡ walked (C.end_walk t fs g) up w
    unfolding C.end_walk
    end_is g h o = rw (s.tabled.kind g h) (end_as_lem (row_of M.rows g).statement g (C.frame_in t fs g).is_once o)

    -- ---- behind a row
    up_as : (p : P.Link) → D.up_from M p up w ≡ walked (C.up_walk (link_of p)) up w
    unfolding C.up_walk
    up_as P.nowhere = refl
    up_as (P.row g) = refl

    next_as : (x p : P.Link) → ((g : ℕ) → p ≡ P.row g → D.end_in M (row_of M.rows g).statement g F (λ _. up g w) w ≡ walked (C.end_walk t fs g) up w)
        → D.next_in M x p F up w ≡ walked (C.next_walk t fs (link_of x) (link_of p)) up w
    unfolding C.next_walk
    next_as (P.row m) p h = refl
    next_as P.nowhere P.nowhere h = refl
    next_as P.nowhere (P.row g) h = h g refl

    pub next_is : {ds : List Denotation} (n : ℕ) → n < length M.rows → Framed M t ds fs F n
        → D.next_in M (row_of M.rows n).next (row_of M.rows n).parent F up w ≡ walked (C.next_walk t fs (row_in t n).next (row_in t n).parent) up w
    next_is n h f = rw ((s.rows n h).next, (s.rows n h).parent) (next_as (row_of M.rows n).next (row_of M.rows n).parent (λ g e.
        let k : g < n = s.tabled.before n g h e in
        end_is g (omega arith) (λ i. once_of (f.frame g (parent n g e) i))))

    -- what the walk is in each role
    pub listed_is : (n : ℕ) → n < length M.rows → (row_of M.rows n).role ≡ P.listed
        → C.behind_walk t fs n ≡ C.next_walk t fs (row_in t n).next (row_in t n).parent
    unfolding C.behind_walk C.behind_as
    listed_is n h e = rw ((s.rows n h).role, e)

    pub up_is : (n : ℕ) → n < length M.rows → D.up_from M (row_of M.rows n).parent up w ≡ walked (C.up_walk (row_in t n).parent) up w
    up_is n h = rw (s.rows n h).parent (up_as (row_of M.rows n).parent)

-- ---- "Each pass is tested first"
passes_as : (l : F.Result) (p : ℤ) (z : ℤ) {E : Type 0} (M : D.Machine E) → C.passes_by l (F.is p) z ≡ D.within (to_of l) p z
unfolding C.passes_by C.is_down
passes_as (F.is q) (pos n) z M = refl
passes_as (F.is q) (negsuc n) z M = refl
passes_as F.out_of_range p z M = refl
passes_as F.zero_divisor p z M = refl

pub passes_is : {E : Type 0} (M : D.Machine E) (f : Frame) (d : D.Frame) (z : ℤ) → FrameShown f d
    → C.passes_by (from_stored f.limit) (from_stored f.step) z ≡ D.passes d z
passes_is M f d z s = rw (s.step, ← s.to) (passes_as (from_stored f.limit) d.step z M)

-- ---- a walk that goes up goes to the parent
end_up : (x : Statement) (o : Bool) (g p : ℕ) → C.end_as x o g ≡ Up p → p ≡ g
unfolding C.end_as
end_up Null o g p e = cc
end_up Declare o g p e = cc
end_up Procedure o g p e = cc
end_up Assign o g p e = cc
end_up Conditional o g p e = cc
end_up Group o g p e = cc
end_up Iterated true g p e = cc
end_up Iterated false g p e = cc
end_up Goto o g p e = cc
end_up Include o g p e = cc
end_up Activate o g p e = cc
end_up Deactivate o g p e = cc
end_up Return o g p e = cc

module _ (t : List ℕ) (fs : Frames) (rs : List P.Row) (n p : ℕ) where
  above_as : (x : P.Link) → (row_of rs n).parent ≡ x → C.up_walk (link_of x) ≡ Up p → (row_of rs n).parent ≡ P.row p
  unfolding C.up_walk
  above_as P.nowhere e h = let z : ◌≡◌ {A = ℕ} 0 1 = cc in absurd (omega arith)
  above_as (P.row g) e h = let z : g ≡ p = cc in e ∙ ap P.row z

  next_up_as : (y x : P.Link) → (row_of rs n).parent ≡ x → C.next_walk t fs (link_of y) (link_of x) ≡ Up p → (row_of rs n).parent ≡ P.row p
  unfolding C.next_walk C.end_walk
  next_up_as (P.row m) x e h = let z : ◌≡◌ {A = ℕ} 0 1 = cc in absurd (omega arith)
  next_up_as P.nowhere P.nowhere e h = let z : ◌≡◌ {A = ℕ} 0 1 = cc in absurd (omega arith)
  next_up_as P.nowhere (P.row g) e h = e ∙ ap P.row (sym (end_up _ _ g p h))

  role_up_as : (r : P.Role) (y x : P.Link) → (row_of rs n).parent ≡ x → C.behind_as (role_of r) t fs (link_of y) (link_of x) ≡ Up p → (row_of rs n).parent ≡ P.row p
  unfolding C.behind_as
  role_up_as P.listed y x e h = next_up_as y x e h
  role_up_as P.then_part y x e h = above_as x e h
  role_up_as P.else_part y x e h = above_as x e h

  pub behind_up : Shown t rs → n < length rs → C.behind_walk t fs n ≡ Up p → (row_of rs n).parent ≡ P.row p
  unfolding C.behind_walk
  behind_up s h e = role_up_as (row_of rs n).role (row_of rs n).next (row_of rs n).parent refl
      (rw ((s.rows n h).role, (s.rows n h).next, (s.rows n h).parent) at e)

-- ---- behind a row, where nothing is put out on the way
module _ {E : Type 0} (M : D.Machine E) (quiet : (x : P.Stretch) (w : World) → M.out x w ≡ good tt w) (t : List ℕ) (s : Shown t M.rows) (fs : Frames) (F : List D.Frame) where
  -- one turn
  turn_as : {ds : List Denotation} (x : P.Role) (n : ℕ) (up : ℕ → World → Res E D.Next) (w : World) → n < length M.rows → Framed M t ds fs F n → (row_of M.rows n).role ≡ x
      → D.behind_as M x n F up w ≡ walked (C.behind_walk t fs n) up w
  unfolding C.behind_walk C.behind_as
  turn_as P.listed n up w h f e = rw (quiet, (s.rows n h).role, e) (next_is M F up w t s fs n h f)
  turn_as P.then_part n up w h f e = rw ((s.rows n h).role, e) (up_is M F up w t s fs n h)
  turn_as P.else_part n up w h f e = rw ((s.rows n h).role, e) (up_is M F up w t s fs n h)

  -- what follows a walk
  step_as : (n k : ℕ) (w : World) (up : ℕ → World → Res E D.Next) → n < length M.rows
      → ((g : ℕ) → (row_of M.rows n).parent ≡ P.row g → up g w ≡ good (next_from (C.behind_on t fs k g)) w)
      → (x : Walk) → C.behind_walk t fs n ≡ x → walked x up w ≡ good (next_from (C.follow x (λ g. C.behind_on t fs k g))) w
  step_as n k w up h i (Arrives x) e = refl
  step_as n k w up h i (Up p) e = i p (behind_up t fs M.rows n p s h e)

  behind_on_lem : {ds : List Denotation} (f k n : ℕ) (w : World) → n < f → n < k → n < length M.rows → Framed M t ds fs F n
      → D.behind_on M F f n w ≡ good (next_from (C.behind_on t fs k n)) w
  unfolding D.behind_on C.behind_on
  behind_on_lem zero k n w h i l fr = absurd (omega arith)
  behind_on_lem (suc f) zero n w h i l fr = absurd (omega arith)
  behind_on_lem (suc f) (suc k) n w h i l fr =
      turn_as (row_of M.rows n).role n (λ g v. D.behind_on M F f g v) w l fr refl
      ∙ step_as n k w (λ g v. D.behind_on M F f g v) l (λ g e.
      let lt : g < n = s.tabled.before n g l e in
      behind_on_lem f k g w (omega arith) (omega arith) (omega arith) (framed_up n g fr e)) (C.behind_walk t fs n) refl

  -- THE FUNCTION `behind` of the code is the definition's
  pub behind_is : {ds : List Denotation} (n : ℕ) (w : World) → n < length M.rows → Framed M t ds fs F n → D.behind M F n w ≡ good (next_from (C.behind_on t fs (n + 1) n)) w
  behind_is n w l fr = behind_on_lem (suc n) (n + 1) n w (omega arith) (omega arith) l fr

  -- and so is `arrived` of the walk to a row, of the end of a group, of a group's beginning
  pub arrived_as : (x : Walk) (w : World) → ((p : ℕ) → x ≡ Up p → D.behind M F p w ≡ good (next_from (C.behind_on t fs (p + 1) p)) w)
      → walked x (λ g v. D.behind M F g v) w ≡ good (next_from (C.arrived_at t fs x)) w
  unfolding C.arrived_at
  arrived_as (Arrives x) w h = refl
  arrived_as (Up p) w h = h p refl

  behind_at : {ds : List Denotation} (g p : ℕ) (w : World) → p ≡ g → g < length M.rows → Framed M t ds fs F g → D.behind M F p w ≡ good (next_from (C.behind_on t fs (p + 1) p)) w
  behind_at g p w e h fr = rw e (behind_is g w h fr)

  pub end_arrives : {ds : List Denotation} (g : ℕ) (w : World) → g < length M.rows → Framed M t ds fs F g → (P.is_iterated (row_of M.rows g).statement ≡ true → (C.frame_in t fs g).is_once ≡ D.is_once g F)
      → D.end_of M F g w ≡ good (next_from (C.arrived_at t fs (C.end_walk t fs g))) w
  unfolding C.end_walk
  end_arrives g w h fr o = end_is M F (λ k v. D.behind M F k v) w t s fs g h o
      ∙ arrived_as (C.end_walk t fs g) w (λ p e. behind_at g p w (end_up _ _ g p e) h fr)

  first_as_lem : (x : P.Link) (g : ℕ) (w : World) → D.end_of M F g w ≡ good (next_from (C.arrived_at t fs (C.end_walk t fs g))) w
      → D.first_in M x g F w ≡ good (next_from (C.arrived_at t fs (C.first_as (link_of x) t fs g))) w
  unfolding C.first_as C.arrived_at
  first_as_lem (P.row m) g w h = refl
  first_as_lem P.nowhere g w h = h

  pub first_arrives : {ds : List Denotation} (g : ℕ) (w : World) → g < length M.rows → Framed M t ds fs F g → (P.is_iterated (row_of M.rows g).statement ≡ true → (C.frame_in t fs g).is_once ≡ D.is_once g F)
      → D.first_in M (row_of M.rows g).child g F w ≡ good (next_from (C.arrived_at t fs (C.first_walk t fs g))) w
  unfolding C.first_walk
  first_arrives g w h fr o = rw (s.rows g h).child (first_as_lem (row_of M.rows g).child g w (end_arrives g w h fr o))

-- ---- IF, and where a GOTO lands, whatever is put out
module _ {E : Type 0} (M : D.Machine E) (t : List ℕ) (s : Shown t M.rows) (fs : Frames) (F : List D.Frame) (w : World) where
  chosen_as : (x : P.Link) (n : ℕ) → D.chosen M x F n w ≡ D.onward M F (walked (C.link_walk (link_of x) n) (λ g v. D.behind M F g v) w)
  unfolding C.link_walk
  chosen_as (P.row m) n = refl
  chosen_as P.nowhere n = refl

  pub chosen_is : (n : ℕ) (c : Bool) → n < length M.rows → D.chosen M (D.alternative_of M c n) F n w ≡ D.onward M F (walked (C.chosen_walk t n c) (λ g v. D.behind M F g v) w)
  unfolding C.chosen_walk
  chosen_is n true h = rw (s.rows n h).child (chosen_as (row_of M.rows n).child n)
  chosen_is n false h = rw (s.rows n h).other (chosen_as (row_of M.rows n).other n)

  pub landing_row_is : (r : ℕ) → D.follow M (D.to_row r) F w ≡ D.onward M F (walked (C.landing_walk t fs r false) (λ g v. D.behind M F g v) w)
  unfolding C.landing_walk
  landing_row_is r = refl

  pub landing_end_is : (r : ℕ) → r < length M.rows → (P.is_iterated (row_of M.rows r).statement ≡ true → (C.frame_in t fs r).is_once ≡ D.is_once r F)
      → D.follow M (D.to_end r) F w ≡ D.onward M F (walked (C.landing_walk t fs r true) (λ g v. D.behind M F g v) w)
  unfolding C.landing_walk
  landing_end_is r h o = ap (D.onward M F) (end_is M F (λ g v. D.behind M F g v) w t s fs r h o)

-- ---- GOTO: "It may not enter an iterated group"
iterated_as : (x : P.Statement) → C.is_iterated (kind_of x) ≡ P.is_iterated x
unfolding C.is_iterated P.is_iterated
iterated_as P.null = refl
iterated_as (P.declare ns) = refl
iterated_as (P.procedure ns t) = refl
iterated_as (P.assign v x) = refl
iterated_as (P.conditional x) = refl
iterated_as P.group = refl
iterated_as (P.iterated v x bs) = refl
iterated_as (P.goto v) = refl
iterated_as (P.include ns) = refl
iterated_as (P.activate ns) = refl
iterated_as (P.deactivate ns) = refl
iterated_as (P.return x) = refl

turned : (p g : ℕ) → eqb g p ≡ eqb p g
turned p g = go (eqb p g) refl
  where
    go : (t : Bool) → eqb p g ≡ t → eqb g p ≡ t
    go true e = eq-eqb g p (sym (eqb-true p g e))
    go false e = ne_eqb g p (λ h. eqb-false p g e (sym h))

in_list_lem : (g p : ℕ) (t : Bool) (l : List ℕ) → (eqb p g ≡ true → t ≡ true) → D.is_in g (cond t (p ∷ l) l) ≡ cond (eqb p g) true (D.is_in g l)
unfolding D.is_in
in_list_lem g p t l h = go (eqb p g) refl t h
  where
    go : (o : Bool) → eqb p g ≡ o → (t : Bool) → (eqb p g ≡ true → t ≡ true) → D.is_in g (cond t (p ∷ l) l) ≡ cond o true (D.is_in g l)
    go true e true h = rw (turned p g, e)
    go true e false h = let z : false ≡ true = h e in let y : ◌≡◌ {A = ℕ} 0 1 = cc in absurd (omega arith)
    go false e true h = rw (turned p g, e)
    go false e false h = refl

are_list : (q : ℕ) (t : Bool) (l ys : List ℕ) → D.are_in (cond t (q ∷ l) l) ys ≡ cond (cond t (D.is_in q ys) true) (D.are_in l ys) false
unfolding D.are_in
are_list q true l ys = go (D.is_in q ys)
  where
    go : (o : Bool) → (o && D.are_in l ys) ≡ cond o (D.are_in l ys) false
    go true = refl
    go false = refl
are_list q false l ys = refl

module _ (t : List ℕ) (rs : List P.Row) (s : Shown t rs) where
  parent_at_lem : (n : ℕ) → n < length rs → C.parent_at t n ≡ link_of (row_of rs n).parent
  unfolding C.parent_at
  parent_at_lem n h = (s.rows n h).parent

  pub iterated_at_lem : (n : ℕ) → n < length rs → C.iterated_at t n ≡ P.is_iterated (row_of rs n).statement
  unfolding C.iterated_at
  iterated_at_lem n h = rw (s.tabled.kind n h) (iterated_as (row_of rs n).statement)

  -- a group is around a row
  module _ (g : ℕ) (i : P.is_iterated (row_of rs g).statement ≡ true) where
    around_none : (k : ℕ) → false ≡ C.around_on t g k None
    unfolding C.around_on
    around_none zero = refl
    around_none (suc k) = refl

    around_link_lem : (k : ℕ) (from : ℕ → List ℕ) (x : P.Link) → ((q : ℕ) → x ≡ P.row q → D.is_in g (from q) ≡ C.around_on t g k (Some q))
        → D.is_in g (D.groups_up x from) ≡ C.around_on t g k (link_of x)
    unfolding D.is_in
    around_link_lem k from P.nowhere h = around_none k
    around_link_lem k from (P.row q) h = h q refl

    around_from : (f k p : ℕ) → p < f → p < k → p < length rs → D.is_in g (D.groups_from rs f p) ≡ C.around_on t g k (Some p)
    unfolding D.groups_from C.around_on
    around_from zero k p h j l = absurd (omega arith)
    around_from (suc f) zero p h j l = absurd (omega arith)
    around_from (suc f) (suc k) p h j l =
        in_list_lem g p (P.is_iterated (row_of rs p).statement) (D.groups_up (row_of rs p).parent (λ q. D.groups_from rs f q)) (λ e. rw (eqb-true p g e) i)
        ∙ ap (λ (z : Bool). cond (eqb p g) true z) (around_link_lem k (λ q. D.groups_from rs f q) (row_of rs p).parent (λ q e.
        let m : q < p = s.tabled.before p q l e in
        around_from f k q (omega arith) (omega arith) (omega arith)))
        ∙ rw (parent_at_lem p l)

  module _ (n : ℕ) (ln : n < length rs) (small : length rs ≤ 2048) where
    in_around : (q : ℕ) → P.is_iterated (row_of rs q).statement ≡ true → C.around_on t q 2048 (C.parent_at t n) ≡ D.is_in q (D.groups_around rs (row_of rs n).parent)
    in_around q i = rw (parent_at_lem n ln) (sym (around_link_lem q i 2048 (λ g. D.groups_from rs (suc g) g) (row_of rs n).parent (λ p e.
        let m : p < n = s.tabled.before n p ln e in
        around_from q i (suc p) 2048 p (omega arith) (omega arith) (omega arith))))

    stand_is : (q : ℕ) → q < length rs → C.may_stand t q n ≡ cond (P.is_iterated (row_of rs q).statement) (D.is_in q (D.groups_around rs (row_of rs n).parent)) true
    unfolding C.may_stand
    stand_is q l = rw (iterated_at_lem q l) (go (P.is_iterated (row_of rs q).statement) refl)
      where
        go : (o : Bool) → P.is_iterated (row_of rs q).statement ≡ o
            → cond o (C.around_on t q 2048 (C.parent_at t n)) true ≡ cond o (D.is_in q (D.groups_around rs (row_of rs n).parent)) true
        go true e = in_around q e
        go false e = refl

    go_none : (k : ℕ) → true ≡ C.may_go_on t n k None
    unfolding C.may_go_on
    go_none zero = refl
    go_none (suc k) = refl

    go_link : (k : ℕ) (from : ℕ → List ℕ) (x : P.Link) → ((q : ℕ) → x ≡ P.row q → D.are_in (from q) (D.groups_around rs (row_of rs n).parent) ≡ C.may_go_on t n k (Some q))
        → D.are_in (D.groups_up x from) (D.groups_around rs (row_of rs n).parent) ≡ C.may_go_on t n k (link_of x)
    unfolding D.are_in
    go_link k from P.nowhere h = go_none k
    go_link k from (P.row q) h = h q refl

    go_from : (f k q : ℕ) → q < f → q < k → q < length rs → D.are_in (D.groups_from rs f q) (D.groups_around rs (row_of rs n).parent) ≡ C.may_go_on t n k (Some q)
    unfolding D.groups_from C.may_go_on
    go_from zero k q h j l = absurd (omega arith)
    go_from (suc f) zero q h j l = absurd (omega arith)
    go_from (suc f) (suc k) q h j l =
        are_list q (P.is_iterated (row_of rs q).statement) (D.groups_up (row_of rs q).parent (λ p. D.groups_from rs f p)) (D.groups_around rs (row_of rs n).parent)
        ∙ ap (λ (z : Bool). cond (cond (P.is_iterated (row_of rs q).statement) (D.is_in q (D.groups_around rs (row_of rs n).parent)) true) z false)
        (go_link k (λ p. D.groups_from rs f p) (row_of rs q).parent (λ p e.
        let m : p < q = s.tabled.before q p l e in
        go_from f k p (omega arith) (omega arith) (omega arith)))
        ∙ rw (stand_is q l, parent_at_lem q l)

    -- THE FUNCTION `may_go` of the code is the definition's
    pub may_go_is : (r : ℕ) (e : Bool) → r < length rs → D.may_go rs n r e ≡ C.may_go_on t n 2048 (C.label_from t r e)
    unfolding D.may_go C.label_from
    may_go_is r true l = go_from (suc r) 2048 r (omega arith) (omega arith) l
    may_go_is r false l = rw (parent_at_lem r l) (go_link 2048 (λ g. D.groups_from rs (suc g) g) (row_of rs r).parent (λ p e.
        let m : p < r = s.tabled.before r p l e in
        go_from (suc p) 2048 p (omega arith) (omega arith) (omega arith)))

-- ---- behind a row, whatever is put out on the way: one turn, and then behind what the row stands in
module _ {E : Type 0} (M : D.Machine E) (F : List D.Frame) where
  module _ (up up' : ℕ → World → Res E D.Next) where
    next_same : (x p : P.Link) (w : World) → ((g : ℕ) → p ≡ P.row g → up g w ≡ up' g w) → D.next_in M x p F up w ≡ D.next_in M x p F up' w
    next_same (P.row m) p w h = refl
    next_same P.nowhere P.nowhere w h = refl
    next_same P.nowhere (P.row g) w h = ap (λ (z : Res E D.Next). D.end_in M (row_of M.rows g).statement g F (λ _. z) w) (h g refl)

    out_same : (r : Res E (Unit {0})) (x p : P.Link) → ((g : ℕ) → p ≡ P.row g → (w : World) → up g w ≡ up' g w)
        → bind r (λ _ v. D.next_in M x p F up v) ≡ bind r (λ _ v. D.next_in M x p F up' v)
    out_same (good u w) x p h = next_same x p w (λ g e. h g e w)
    out_same (bad e u) x p h = refl

    up_same : (p : P.Link) (w : World) → ((g : ℕ) → p ≡ P.row g → up g w ≡ up' g w) → D.up_from M p up w ≡ D.up_from M p up' w
    up_same P.nowhere w h = refl
    up_same (P.row g) w h = h g refl

    turn_same : (r : P.Role) (n : ℕ) (w : World) → ((g : ℕ) → (row_of M.rows n).parent ≡ P.row g → (v : World) → up g v ≡ up' g v)
        → D.behind_as M r n F up w ≡ D.behind_as M r n F up' w
    turn_same P.listed n w h = out_same (M.out (row_of M.rows n).text w) (row_of M.rows n).next (row_of M.rows n).parent h
    turn_same P.then_part n w h = up_same (row_of M.rows n).parent w (λ g e. h g e w)
    turn_same P.else_part n w h = up_same (row_of M.rows n).parent w (λ g e. h g e w)

  module _ (t : List ℕ) (s : Shown t M.rows) where
    turns_same : (f k n : ℕ) (w : World) → n < f → n < k → n < length M.rows → D.behind_on M F f n w ≡ D.behind_on M F k n w
    unfolding D.behind_on
    turns_same zero k n w h i l = absurd (omega arith)
    turns_same (suc f) zero n w h i l = absurd (omega arith)
    turns_same (suc f) (suc k) n w h i l = turn_same (λ g v. D.behind_on M F f g v) (λ g v. D.behind_on M F k g v) (row_of M.rows n).role n w (λ g e v.
        let lt : g < n = s.tabled.before n g l e in
        turns_same f k g v (omega arith) (omega arith) (omega arith))

    pub behind_turn : (n : ℕ) (w : World) → n < length M.rows → D.behind M F n w ≡ D.behind_as M (row_of M.rows n).role n F (λ g v. D.behind M F g v) w
    unfolding D.behind_on
    behind_turn n w l = turn_same (λ g v. D.behind_on M F n g v) (λ g v. D.behind M F g v) (row_of M.rows n).role n w (λ g e v.
        let lt : g < n = s.tabled.before n g l e in
        turns_same n (suc g) g v (omega arith) (omega arith) (omega arith))

    -- THE TURN of the code's walk: what is put out, and then where the walk leads
    out_turn : (fs : Frames) (n : ℕ) (r : Res E (Unit {0})) → ((v : World) → D.next_in M (row_of M.rows n).next (row_of M.rows n).parent F (λ g y. D.behind M F g y) v
        ≡ walked (C.behind_walk t fs n) (λ g y. D.behind M F g y) v)
        → bind r (λ _ v. D.next_in M (row_of M.rows n).next (row_of M.rows n).parent F (λ g y. D.behind M F g y) v) ≡ bind r (λ _ v. walked (C.behind_walk t fs n) (λ g y. D.behind M F g y) v)
    out_turn fs n (good u w) h = h w
    out_turn fs n (bad e u) h = refl

    role_turn : {ds : List Denotation} (fs : Frames) (x : P.Role) (n : ℕ) (w : World) → n < length M.rows → Framed M t ds fs F n → (row_of M.rows n).role ≡ x
        → D.behind_as M x n F (λ g v. D.behind M F g v) w
        ≡ bind (out_behind M (role_of x) (row_of M.rows n).text w) (λ _ v. walked (C.behind_walk t fs n) (λ g y. D.behind M F g y) v)
    unfolding C.behind_walk C.behind_as
    role_turn fs P.listed n w h f e = out_turn fs n (M.out (row_of M.rows n).text w) (λ v.
        next_is M F (λ g y. D.behind M F g y) v t s fs n h f ∙ ap (λ (z : Walk). walked z (λ g y. D.behind M F g y) v) (sym (listed_is M F (λ g y. D.behind M F g y) v t s fs n h e)))
    role_turn fs P.then_part n w h f e = rw ((s.rows n h).role, e) (up_is M F (λ g v. D.behind M F g v) w t s fs n h)
    role_turn fs P.else_part n w h f e = rw ((s.rows n h).role, e) (up_is M F (λ g v. D.behind M F g v) w t s fs n h)

    pub behind_walks : {ds : List Denotation} (fs : Frames) (n : ℕ) (w : World) → n < length M.rows → Framed M t ds fs F n
        → D.behind M F n w ≡ bind (out_behind M (row_in t n).role (row_of M.rows n).text w) (λ _ v. walked (C.behind_walk t fs n) (λ g y. D.behind M F g y) v)
    behind_walks fs n w h f = behind_turn n w h ∙ role_turn fs (row_of M.rows n).role n w h f refl
        ∙ ap (λ (z : Role). bind (out_behind M z (row_of M.rows n).text w) (λ _ v. walked (C.behind_walk t fs n) (λ g y. D.behind M F g y) v)) (sym (s.rows n h).role)
