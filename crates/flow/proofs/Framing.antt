-- The frames of the iterated groups around a row, the code's and the definition's: where they stand, they stand behind the row,
-- inside it, around it, and where a GOTO leads.
-- Assumes nothing.
use mathlib.Core.Path.{◌≡◌, refl, sym, subst, ◌∙◌}
use mathlib.Core.Bool.{Bool, true, false, cond, ◌&&◌, ◌||◌}
use mathlib.Core.List.{List, [], ◌∷◌}
use Prim.Native.Nat.{ℕ, zero, suc, ◌<◌, ◌≤◌}
use native.Mathlib.Omega.{arith}
use borrow.Author.Tests.{lt-ltb, ltb-true, eq-eqb, ne_eqb, eqb-true}
use lib.Dec.{eqb, ltb}
use lib.IntN.{ℤ, pos}
use lib.ListN.{length, get_or, set, length-set, length-replicate, get_or-replicate}
use lib.Seq.{get_or-set_same, get_or-set_other}
use Rattle.definition.specs.declared.ValueType.TheVariants.{FixedType}
use Rattle.definition.specs.declared.Why.{Why}
use Rattle.definition.specs.Expressions.{Tree}
use Rattle.definition.specs.Values.{fixed}
use Rattle.definition.specs.Program as P
use Rattle.definition.specs.World as W
use Rattle.definition.specs.World.{Denotation, builtin_name, variable_of, World, Res, good, bad, bind, row_of}
use Rattle.definition.specs.Flow as D
use Rattle.rows.specs.Table.{row_in}
use Rattle.flow.specs.declared.Frame.{Frame}
use Rattle.flow.specs.declared.Frames.{Frames}
use Rattle.flow.specs.Walks as C
use Rattle.flow.specs.Shown.{Shown, Around, parent, outer, FrameShown, Newest, newest_first, newest_later, HasFrame, FrameOf, having, without, Framed, Owns, number_of, stepped_on}

-- ---- the newest frame of a group
newest_once : (g : ℕ) (d : D.Frame) (F : List D.Frame) → Newest g d F → d.is_once ≡ D.is_once g F
unfolding D.is_once
newest_once g d [] n = elim n [ ]
newest_once g d (_ ∷ F) (newest_first _ e) = rw (eq-eqb d.group g e)
newest_once g d (x ∷ F) (newest_later _ _ h n) = rw (ne_eqb x.group g h) (newest_once g d F n)

module _ {ds : List Denotation} {f : Frame} {g : ℕ} {F : List D.Frame} where
  pub once_has : HasFrame ds f g F → f.is_once ≡ D.is_once g F
  once_has h = h.shown.once ∙ newest_once g h.frame F h.newest

  pub once_of : FrameOf ds f g F → f.is_once ≡ D.is_once g F
  once_of (having h) = once_has h
  once_of (without e o) = e ∙ sym o

  -- a group that is tested again has its frame
  pub has_again : FrameOf ds f g F → f.is_once ≡ false → HasFrame ds f g F
  has_again (having h) e = h
  has_again (without i o) e = let z : ◌≡◌ {A = ℕ} 0 1 = cc in absurd (omega arith)

module _ {E : Type 0} (M : D.Machine E) where
  number_is : (c : W.Cell) (w : World) (f : ℤ → Res Why Bool) → D.number_at M c w f ≡ number_of c w f
  number_is W.no_value w f = refl
  number_is (W.holds v) w f = refl

  frame_of_lem : (g : ℕ) (d : D.Frame) (F : List D.Frame) (f : D.Frame → Res Why Bool) (w : World) → Newest g d F → D.frame_of M g F f w ≡ f d
  frame_of_lem g d [] f w n = elim n [ ]
  frame_of_lem g d (_ ∷ F) f w (newest_first _ e) = rw (eq-eqb d.group g e)
  frame_of_lem g d (x ∷ F) f w (newest_later _ _ h n) = rw (ne_eqb x.group g h) (frame_of_lem g d F f w n)

  -- a group that is tested again: its newest frame is stepped
  pub stepped_own : (g : ℕ) (d : D.Frame) (F : List D.Frame) (w : World) → Newest g d F → D.stepped M g F w ≡ stepped_on d w
  unfolding D.stepped stepped_on
  stepped_own g d F w n = frame_of_lem g d F _ w n ∙ number_is (W.value_at d.at w) w _

-- a name that is a FIXED variable may become nothing else
pub has_more : {f : Frame} {g : ℕ} {F : List D.Frame} (ds ds' : List Denotation)
    → ((j : ℕ) → get_or ds j builtin_name ≡ variable_of FixedType → get_or ds' j builtin_name ≡ variable_of FixedType)
    → HasFrame ds f g F → HasFrame ds' f g F
has_more ds ds' h x = record { frame = x.frame; newest = x.newest; shown = x.shown; variable = h x.frame.at x.variable }

pub of_more : {f : Frame} {g : ℕ} {F : List D.Frame} (ds ds' : List Denotation)
    → ((j : ℕ) → get_or ds j builtin_name ≡ variable_of FixedType → get_or ds' j builtin_name ≡ variable_of FixedType)
    → FrameOf ds f g F → FrameOf ds' f g F
of_more ds ds' h (having x) = having (has_more ds ds' h x)
of_more ds ds' h (without e o) = without e o

-- ---- what is around a row is before it and, if it is an iterated group, less deep
module _ (t : List ℕ) (rs : List P.Row) (s : Shown t rs) where
  pub around_before : (n g : ℕ) → n < length rs → Around rs n g → g < n
  around_before n g h (parent _ _ e) = s.tabled.before n g h e
  around_before n g h (outer _ p _ e a) =
      let k : p < n = s.tabled.before n p h e in
      let l : g < p = around_before p g (omega arith) a in
      omega arith

  pub around_depth : (n g : ℕ) → n < length rs → Around rs n g → P.is_iterated (row_of rs g).statement ≡ true → (row_in t g).depth < (row_in t n).depth
  around_depth n g h (parent _ _ e) i = s.tabled.inner n g h e i
  around_depth n g h (outer _ p _ e a) i =
      let k : p < n = s.tabled.before n p h e in
      let l : (row_in t g).depth < (row_in t p).depth = around_depth p g (omega arith) a i in
      let m : (row_in t p).depth ≤ (row_in t n).depth = s.tabled.level n p h e in
      omega arith

-- ---- from row to row, with the same frames
module _ {E : Type 0} {M : D.Machine E} {t : List ℕ} {ds : List Denotation} {fs : Frames} {F : List D.Frame} where
  pub framed_more : (ds' : List Denotation) (n : ℕ)
      → ((j : ℕ) → get_or ds j builtin_name ≡ variable_of FixedType → get_or ds' j builtin_name ≡ variable_of FixedType)
      → Framed M t ds fs F n → Framed M t ds' fs F n
  framed_more ds' n h f = record { whole = f.whole; frame = λ g a i. of_more ds ds' h (f.frame g a i) }

  -- to what a row stands in
  pub framed_up : (n p : ℕ) → Framed M t ds fs F n → (row_of M.rows n).parent ≡ P.row p → Framed M t ds fs F p
  framed_up n p f e = record { whole = f.whole; frame = λ g a. f.frame g (outer n p g e a) }

  pub framed_own : (n p : ℕ) → Framed M t ds fs F n → (row_of M.rows n).parent ≡ P.row p → P.is_iterated (row_of M.rows p).statement ≡ true
      → FrameOf ds (C.frame_in t fs p) p F
  framed_own n p f e i = f.frame p (parent n p e) i

  -- rows in the same place have the same groups around them
  pub framed_same : (n m : ℕ) → (row_of M.rows m).parent ≡ (row_of M.rows n).parent → Framed M t ds fs F n → Framed M t ds fs F m
  framed_same n m e f = record { whole = f.whole; frame = λ g a. f.frame g (moved g a) }
    where
      moved : (g : ℕ) → Around M.rows m g → Around M.rows n g
      moved g (parent _ _ h) = parent n g (sym e ∙ h)
      moved g (outer _ p _ h a) = outer n p g (sym e ∙ h) a

  -- nothing is around a row of the first list
  pub framed_first : (n : ℕ) → length fs.items ≡ 16 → (row_of M.rows n).parent ≡ P.nowhere → Framed M t ds fs F n
  framed_first n w e = record { whole = w; frame = λ g a i. none g a }
    where
      none : (g : ℕ) → Around M.rows n g → FrameOf ds (C.frame_in t fs g) g F
      none g (parent _ _ h) = let z : ◌≡◌ {A = ℕ} 0 1 = cc in absurd (omega arith)
      none g (outer _ p _ h a) = let z : ◌≡◌ {A = ℕ} 0 1 = cc in absurd (omega arith)

  -- into a row that is no iterated group, or one whose frame is there
  pub framed_child : (g m : ℕ) → (row_of M.rows m).parent ≡ P.row g → Framed M t ds fs F g
      → (P.is_iterated (row_of M.rows g).statement ≡ true → FrameOf ds (C.frame_in t fs g) g F) → Framed M t ds fs F m
  framed_child g m e f o = record { whole = f.whole; frame = λ k a i. go k a i }
    where
      go : (k : ℕ) → Around M.rows m k → P.is_iterated (row_of M.rows k).statement ≡ true → FrameOf ds (C.frame_in t fs k) k F
      go k (parent _ _ h) i =
          let z : g ≡ k = cc in
          subst (λ (y : ℕ). P.is_iterated (row_of M.rows y).statement ≡ true → FrameOf ds (C.frame_in t fs y) y F) z o i
      go k (outer _ p _ h a) i =
          let z : p ≡ g = cc in
          f.frame k (rw z at a) i

  pub framed_child_plain : (g m : ℕ) → (row_of M.rows m).parent ≡ P.row g → Framed M t ds fs F g → P.is_iterated (row_of M.rows g).statement ≡ false
      → Framed M t ds fs F m
  framed_child_plain g m e f i = framed_child g m e f (λ j. let z : ◌≡◌ {A = ℕ} 0 1 = cc in absurd (omega arith))

-- ---- no group was entered yet, wherever the row stands
idle : (g : ℕ) → cond (C.leads_to (C.no_frame).group g) C.no_frame C.no_frame ≡ C.no_frame
unfolding C.leads_to C.no_frame
idle g = refl

none_as : (xs : List Frame) (k g : ℕ) → (k < 16 → get_or xs k C.blank_frame ≡ C.no_frame) → C.frame_at xs k g ≡ C.no_frame
unfolding C.frame_at
none_as xs k g h = go (ltb k 16) refl
  where
    go : (o : Bool) → ltb k 16 ≡ o → cond o (cond (C.leads_to (get_or xs k C.blank_frame).group g) (get_or xs k C.blank_frame) C.no_frame) C.no_frame ≡ C.no_frame
    go true e = rw (h (ltb-true k 16 e)) (idle g)
    go false e = refl

none_in : (t : List ℕ) (g : ℕ) → C.frame_in t C.no_frames g ≡ C.no_frame
unfolding C.frame_in C.no_frames
none_in t g = none_as _ (row_in t g).depth g (λ l. get_or-replicate 16 (row_in t g).depth C.no_frame C.blank_frame l)

none_once : (C.no_frame).is_once ≡ true
unfolding C.no_frame
none_once = refl

none_whole : length (C.no_frames).items ≡ 16
unfolding C.no_frames
none_whole = length-replicate 16 C.no_frame

none_is_once : (g : ℕ) → D.is_once g [] ≡ true
unfolding D.is_once
none_is_once g = refl

pub framed_start : {E : Type 0} (M : D.Machine E) (t : List ℕ) (ds : List Denotation) (n : ℕ) → Framed M t ds C.no_frames [] n
framed_start M t ds n = record { whole = none_whole; frame = λ g a i. without (rw (none_in t g) none_once) (none_is_once g) }

-- ---- a group is entered: its frame goes to its depth, and is the newest
frame_as : (xs ys : List Frame) (k g : ℕ) → get_or xs k C.blank_frame ≡ get_or ys k C.blank_frame → C.frame_at xs k g ≡ C.frame_at ys k g
unfolding C.frame_at
frame_as xs ys k g e = rw e

module _ {E : Type 0} (M : D.Machine E) (t : List ℕ) (s : Shown t M.rows) (ds : List Denotation) (fs : Frames) (F : List D.Frame)
    (g : ℕ) (lg : g < length M.rows) (i : P.is_iterated (row_of M.rows g).statement ≡ true) (f : Frame) (d : D.Frame) (sh : FrameShown f d) (own : d.group ≡ g)
    (var : get_or ds d.at builtin_name ≡ variable_of FixedType) (fr : Framed M t ds fs F g) where
  deep : (row_in t g).depth < 16
  deep = s.tabled.shallow g lg i

  items_are : (C.frames_with t fs g f).items ≡ set fs.items (row_in t g).depth f
  unfolding C.frames_with
  items_are = rw (lt-ltb (row_in t g).depth 16 deep)

  whole_with : length (C.frames_with t fs g f).items ≡ 16
  whole_with = rw items_are (length-set fs.items (row_in t g).depth f ∙ fr.whole)

  own_frame : C.frame_in t (C.frames_with t fs g f) g ≡ f
  unfolding C.frame_in C.frame_at C.leads_to
  own_frame =
      let w : length fs.items ≡ 16 = fr.whole in
      let e : get_or (set fs.items (row_in t g).depth f) (row_in t g).depth C.blank_frame ≡ f = get_or-set_same fs.items (row_in t g).depth f C.blank_frame (omega (arith, deep, w)) in
      rw (items_are, e, lt-ltb (row_in t g).depth 16 deep, sh.group, own, eq-eqb g g refl)

  other_frame : (k : ℕ) → (row_in t k).depth < (row_in t g).depth → C.frame_in t (C.frames_with t fs g f) k ≡ C.frame_in t fs k
  unfolding C.frame_in
  other_frame k h =
      let e : get_or (set fs.items (row_in t g).depth f) (row_in t k).depth C.blank_frame ≡ get_or fs.items (row_in t k).depth C.blank_frame =
      get_or-set_other fs.items (row_in t g).depth (row_in t k).depth f C.blank_frame (λ q. absurd (omega arith)) in
      rw items_are (frame_as (set fs.items (row_in t g).depth f) fs.items (row_in t k).depth k e)

  pub has_entered : HasFrame ds (C.frame_in t (C.frames_with t fs g f) g) g (d ∷ F)
  has_entered = record { frame = d; newest = newest_first F own; shown = rw own_frame sh; variable = var }

  newest_other : (k : ℕ) → k < g → D.is_once k (d ∷ F) ≡ D.is_once k F
  unfolding D.is_once
  newest_other k h = rw (own, ne_eqb g k (λ e. absurd (omega arith)))

  of_outer : (k : ℕ) → k < g → FrameOf ds (C.frame_in t fs k) k F → C.frame_in t (C.frames_with t fs g f) k ≡ C.frame_in t fs k
      → FrameOf ds (C.frame_in t (C.frames_with t fs g f) k) k (d ∷ F)
  of_outer k l (having h) e = having (record {
    frame = h.frame;
    newest = newest_later d F (λ q. let z : g ≡ k = sym own ∙ q in omega arith) h.newest;
    shown = rw e h.shown;
    variable = h.variable;
  })
  of_outer k l (without i o) e = without (rw e i) (newest_other k l ∙ o)

  -- the frames around the group itself, once it is entered
  pub framed_entered : Framed M t ds (C.frames_with t fs g f) (d ∷ F) g
  framed_entered = record {
    whole = whole_with;
    frame = λ k a j.
        of_outer k (around_before t M.rows s g k lg a) (fr.frame k a j) (other_frame k (around_depth t M.rows s g k lg a j));
  }

  pub framed_enter : (m : ℕ) → (row_of M.rows m).parent ≡ P.row g → Framed M t ds (C.frames_with t fs g f) (d ∷ F) m
  framed_enter m e = framed_child g m e framed_entered (λ _. having has_entered)

-- ---- the frame that DO makes is the group's, whatever BY and TO
module _ {E : Type 0} (M : D.Machine E) where
  bounded_as : (r : Res Why ℤ) (k : ℤ → D.Frame) (g a : ℕ) → ((z : ℤ) → Owns g a (k z)) → (d : D.Frame) (v : World) → bind r (λ z y. good (k z) y) ≡ good d v → Owns g a d
  bounded_as (good z y) k g a h d v e = let q : k z ≡ d = cc in subst (λ (x : D.Frame). Owns g a x) q (h z)
  bounded_as (bad w u) k g a h d v e = let z : ◌≡◌ {A = ℕ} 0 1 = cc in absurd (omega arith)

  bounded_own : (b : P.Bound) (f : D.Frame) (w : World) (g a : ℕ) → Owns g a f → (d : D.Frame) (v : World) → D.bounded M b f w ≡ good d v → Owns g a d
  bounded_own (P.by x) f w g a o d v e = bounded_as (D.number M x w) (λ z. record { group = f.group; at = f.at; step = z; to = f.to; is_once = false }) g a
      (λ z. record { group = o.group; variable = o.variable }) d v e
  bounded_own (P.upto x) f w g a o d v e = bounded_as (D.number M x w) (λ z. record { group = f.group; at = f.at; step = f.step; to = D.to_at z; is_once = false }) g a
      (λ z. record { group = o.group; variable = o.variable }) d v e

  then_own : (r : Res Why D.Frame) (k : D.Frame → World → Res Why D.Frame) (g a : ℕ) → ((d : D.Frame) (v : World) → r ≡ good d v → Owns g a d)
      → ((f : D.Frame) (w : World) → Owns g a f → (d : D.Frame) (v : World) → k f w ≡ good d v → Owns g a d) → (d : D.Frame) (v : World) → bind r k ≡ good d v → Owns g a d
  then_own (good f y) k g a h i d v e = i f y (h f y refl) d v e
  then_own (bad w u) k g a h i d v e = let z : ◌≡◌ {A = ℕ} 0 1 = cc in absurd (omega arith)

  pub bounds_own : (bs : List P.Bound) (f : D.Frame) (w : World) (g a : ℕ) → Owns g a f → (d : D.Frame) (v : World) → D.bounds M bs f w ≡ good d v → Owns g a d
  unfolding D.bounds
  bounds_own [] f w g a o d v e = let q : f ≡ d = cc in subst (λ (x : D.Frame). Owns g a x) q o
  bounds_own (b ∷ bs) f w g a o d v e = then_own (D.bounded M b f w) (λ x y. D.bounds M bs x y) g a (bounded_own b f w g a o) (λ x y p. bounds_own bs x y g a p) d v e

  started_as : (r : Res Why D.Frame) (z : ℤ) (g a : ℕ) → ((d : D.Frame) (v : World) → r ≡ good d v → Owns g a d) → (st : D.Started) (u : World)
      → bind r (λ f v. good (record { frame = f; begins = D.passes f z }) (W.store a (fixed z) v)) ≡ good st u → Owns g a st.frame
  started_as (good f v) z g a h st u e =
      let q : ◌≡◌ {A = D.Started} (record { frame = f; begins = D.passes f z }) st = cc in
      subst (λ (x : D.Started). Owns g a x.frame) q (h f v refl)
  started_as (bad w n) z g a h st u e = let y : ◌≡◌ {A = ℕ} 0 1 = cc in absurd (omega arith)

  start_as_lem : (r : Res Why ℤ) (bs : List P.Bound) (g a : ℕ) (st : D.Started) (u : World)
      → bind r (λ z y. bind (D.bounds M bs (record { group = g; at = a; step = pos 1; to = D.no_to; is_once = true }) y) λ f v.
      good (record { frame = f; begins = D.passes f z }) (W.store a (fixed z) v)) ≡ good st u → Owns g a st.frame
  start_as_lem (good z y) bs g a st u e = started_as (D.bounds M bs (record { group = g; at = a; step = pos 1; to = D.no_to; is_once = true }) y) z g a
      (bounds_own bs (record { group = g; at = a; step = pos 1; to = D.no_to; is_once = true }) y g a (record { group = refl; variable = refl })) st u e
  start_as_lem (bad w n) bs g a st u e = let y : ◌≡◌ {A = ℕ} 0 1 = cc in absurd (omega arith)

  pub start_own : (g a : ℕ) (x : Tree) (bs : List P.Bound) (w : World) (st : D.Started) (u : World) → D.start_as M FixedType g a x bs w ≡ good st u → Owns g a st.frame
  start_own g a x bs w st u e = start_as_lem (D.number M x w) bs g a st u e

-- ---- a GOTO: the iterated groups around its label are around where the run stands
no : (A : Type 0) → false ≡ true → A
no A e = let z : ◌≡◌ {A = ℕ} 0 1 = cc in absurd (omega arith)

-- one of the groups from a row upwards: the row itself, or one around it
pub data Within (rs : List P.Row) (p k : ℕ) : Type 0 where
  itself : k ≡ p → Within rs p k
  outside : Around rs p k → Within rs p k

module _ (rs : List P.Row) (k : ℕ) where
  stands_up : (p : ℕ) (x : P.Link) (from : ℕ → List ℕ) → (row_of rs p).parent ≡ x → ((q : ℕ) → D.is_in k (from q) ≡ true → Within rs q k)
      → D.is_in k (D.groups_up x from) ≡ true → Around rs p k
  unfolding D.is_in
  stands_up p P.nowhere from e h i = no _ i
  stands_up p (P.row q) from e h i = go (h q i)
    where
      go : Within rs q k → Around rs p k
      go (itself f) = parent p k (rw f e)
      go (outside a) = outer p q k e a

  listed_up : (f p : ℕ) → D.is_in k (D.groups_from rs f p) ≡ true → Within rs p k
  unfolding D.groups_from D.is_in
  listed_up zero p i = no _ i
  listed_up (suc f) p i = one (λ j. outside (stands_up p (row_of rs p).parent (λ q. D.groups_from rs f q) refl (λ q l. listed_up f q l) j)) (P.is_iterated (row_of rs p).statement) i
    where
      two : (D.is_in k (D.groups_up (row_of rs p).parent (λ q. D.groups_from rs f q)) ≡ true → Within rs p k)
          → (o : Bool) → eqb k p ≡ o → (o || D.is_in k (D.groups_up (row_of rs p).parent (λ q. D.groups_from rs f q))) ≡ true → Within rs p k
      two up true e j = itself (eqb-true k p e)
      two up false e j = up j

      one : (D.is_in k (D.groups_up (row_of rs p).parent (λ q. D.groups_from rs f q)) ≡ true → Within rs p k) → (t : Bool)
          → D.is_in k (cond t (p ∷ D.groups_up (row_of rs p).parent (λ q. D.groups_from rs f q)) (D.groups_up (row_of rs p).parent (λ q. D.groups_from rs f q))) ≡ true → Within rs p k
      one up true j = two up (eqb k p) refl j
      one up false j = up j

  -- and back, for an iterated group
  in_either : (p : ℕ) (t : Bool) (l : List ℕ) → D.is_in k l ≡ true → D.is_in k (cond t (p ∷ l) l) ≡ true
  unfolding D.is_in
  in_either p true l i = go (eqb k p)
    where
      go : (o : Bool) → (o || D.is_in k l) ≡ true
      go true = refl
      go false = i
  in_either p false l i = i

  in_first : (l : List ℕ) → D.is_in k (k ∷ l) ≡ true
  unfolding D.is_in
  in_first l = rw (eq-eqb k k refl)

  up_listed : (t : List ℕ) → Shown t rs → P.is_iterated (row_of rs k).statement ≡ true → (f p : ℕ) → p < f → p < length rs → Within rs p k → D.is_in k (D.groups_from rs f p) ≡ true
  unfolding D.groups_from
  up_listed t s i zero p h l a = absurd (omega arith)
  up_listed t s i (suc f) p h l (itself e) = rw (← e, i) (in_first (D.groups_up (row_of rs k).parent (λ q. D.groups_from rs f q)))
  up_listed t s i (suc f) p h l (outside (parent _ _ e)) =
      let m : k < p = s.tabled.before p k l e in
      in_either p (P.is_iterated (row_of rs p).statement) (D.groups_up (row_of rs p).parent (λ q. D.groups_from rs f q)) (rw e (up_listed t s i f k (omega arith) (omega arith) (itself refl)))
  up_listed t s i (suc f) p h l (outside (outer _ q _ e a)) =
      let m : q < p = s.tabled.before p q l e in
      in_either p (P.is_iterated (row_of rs p).statement) (D.groups_up (row_of rs p).parent (λ q. D.groups_from rs f q)) (rw e (up_listed t s i f q (omega arith) (omega arith) (outside a)))

  in_both : (xs ys : List ℕ) → D.are_in xs ys ≡ true → D.is_in k xs ≡ true → D.is_in k ys ≡ true
  unfolding D.are_in D.is_in
  in_both [] ys h i = no _ i
  in_both (x ∷ xs) ys h i = go (λ h i. in_both xs ys h i) (D.is_in x ys) refl h (eqb k x) refl i
    where
      go : (D.are_in xs ys ≡ true → D.is_in k xs ≡ true → D.is_in k ys ≡ true)
          → (a : Bool) → D.is_in x ys ≡ a → (a && D.are_in xs ys) ≡ true → (o : Bool) → eqb k x ≡ o → (o || D.is_in k xs) ≡ true → D.is_in k ys ≡ true
      go rest true e h true f i = rw (eqb-true k x f) e
      go rest true e h false f i = rest h i
      go rest false e h o f i = no _ h

module _ {E : Type 0} (M : D.Machine E) (t : List ℕ) (s : Shown t M.rows) {ds : List Denotation} (fs : Frames) (F : List D.Frame) (n r : ℕ) (ln : n < length M.rows) (lr : r < length M.rows) (fr : Framed M t ds fs F n) where
  here : (k : ℕ) → D.is_in k (D.groups_around M.rows (row_of M.rows n).parent) ≡ true → Around M.rows n k
  here k i = stands_up M.rows k n (row_of M.rows n).parent (λ g. D.groups_from M.rows (suc g) g) refl (λ q j. listed_up M.rows k (suc q) q j) i

  -- at the END of a row: the row's own frame, and those of the groups around it
  pub end_own : D.may_go M.rows n r true ≡ true → P.is_iterated (row_of M.rows r).statement ≡ true → FrameOf ds (C.frame_in t fs r) r F
  unfolding D.may_go
  end_own m i = fr.frame r (here r (in_both M.rows r (D.groups_from M.rows (suc r) r) _ m (up_listed M.rows r t s i (suc r) r (omega arith) lr (itself refl)))) i

  pub framed_end : D.may_go M.rows n r true ≡ true → Framed M t ds fs F r
  unfolding D.may_go
  framed_end m = record { whole = fr.whole; frame = λ k a i. fr.frame k (here k (in_both M.rows k (D.groups_from M.rows (suc r) r) _ m (up_listed M.rows k t s i (suc r) r (omega arith) lr (outside a)))) i }

  -- at a row
  around_label_lem : (k : ℕ) → P.is_iterated (row_of M.rows k).statement ≡ true → Around M.rows r k → D.is_in k (D.groups_around M.rows (row_of M.rows r).parent) ≡ true
  around_label_lem k i (parent _ _ e) =
      let m : k < r = s.tabled.before r k lr e in
      rw e (up_listed M.rows k t s i (suc k) k (omega arith) (omega arith) (itself refl))
  around_label_lem k i (outer _ p _ e a) =
      let m : p < r = s.tabled.before r p lr e in
      rw e (up_listed M.rows k t s i (suc p) p (omega arith) (omega arith) (outside a))

  pub framed_goto : D.may_go M.rows n r false ≡ true → Framed M t ds fs F r
  unfolding D.may_go
  framed_goto m = record { whole = fr.whole; frame = λ k a i. fr.frame k (here k (in_both M.rows k (D.groups_around M.rows (row_of M.rows r).parent) _ m (around_label_lem k i a))) i }
