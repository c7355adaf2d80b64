-- Behind a statement: what is open is left, and what a statement opens. One law for each way out.
-- Assumes nothing.
use Rattle.std.proofs.Common.{Ok, Err}
use Rattle.statements.specs.Types.{Read}
use mathlib.Core.Path.{◌≡◌, refl, sym, ap, subst, ◌∙◌}
use mathlib.Core.Bool.{Bool, true, false, cond}
use mathlib.Core.List.{List, [], ◌∷◌, ◌++◌}
use Prim.Native.Nat.{ℕ, zero, suc, ◌-◌, ◌<◌, ◌≤◌}
use native.Mathlib.Omega.{arith}
use Rattle.definition.specs.Bytes.{mixed}
use Rattle.definition.specs.Expressions.{Reading, read, refused, Named}
use Rattle.definition.specs.Program as P
use Rattle.definition.specs.Statements as St
use Rattle.definition.specs.Reading as D
use Rattle.definition.specs.declared.Why.{Why}
use Rattle.names.specs.declared.Owner.{Owner}
use Rattle.names.specs.declared.Owner.TheVariants.{Everyone, Procedure}
use Rattle.entering.specs.declared.Tally.{Tally}
use Rattle.statements.specs.declared.Clause.{Clause}
use Rattle.statements.specs.declared.Opens.{Opens}
use Rattle.statements.specs.declared.Opens.TheVariants as O
use Rattle.rows.specs.Tabled.{kind_of}
use Rattle.statements.specs.Clauses.{scope_of, is_inside, opens_for, Own, type_in}
use Rattle.openings.specs.declared.Where.TheVariants as Wh
use Rattle.openings.specs.declared.Open.{Open}
use Rattle.openings.specs.declared.Opened.{Opened}
use Rattle.openings.specs.declared.Done.{Done}
use Rattle.openings.specs.declared.Done.TheVariants as Dn
use Rattle.openings.specs.Open.{where_of, open_of, open_from, opened_of, top_in, rest_of, labelled, Opening, Pushed, Popped, done_turn, Completes}
use Rattle.reading.specs.declared.State.{State}
use Rattle.reading.specs.declared.Turned.{Turned}
use Rattle.reading.specs.declared.Mode.{Mode}
use Rattle.reading.specs.declared.Mode.TheVariants as Md
use Rattle.reading.specs.declared.Next.TheVariants as Nx
use Rattle.reading.specs.State.{state_of, turn_of, mode_of, Around, Stand, Placed, Spare, Keeps, Marks, with_opened, with_scope, turned, Adds, Ends, OpensIn, OpensAs, Again, Stood, Taken, TakesAs}
use Rattle.reading.proofs.Adding.{opened_top}
use Rattle.reading.proofs.Rows.{rows_length, marks_none}

-- something is open
pub stand_some : (s : List ℕ) (o : Opened) (n : ℕ) → Stand n (opened_of s o) → 0 < o.count
unfolding opened_of open_from
stand_some s o n h = some o.count h
  where
    some : (k : ℕ) → Stand n (open_from s o.items k) → 0 < k
    some zero g = absurd g
    some (suc k) g = omega arith

-- ---- what the definition does with the state does not ask for what is open in it
elsed_same : (E : D.Else) (i : ℕ) (os : List D.Open) (st : D.State) (f g : ℕ → D.Turn) → f i ≡ g i → D.elsed E i os st (λ _. f i) ≡ D.elsed E i os st (λ _. g i)
elsed_same (D.else_to q) i os st f g e = refl
elsed_same D.no_else i os st f g e = e

up_same : (w : D.Where) (s : List ℕ) (i : ℕ) (os : List D.Open) (n e : ℕ) (st : D.State) (A : Type 0) (f g : ℕ → D.Turn) → Around w A → (A → f i ≡ g i) → D.complete_in mixed w s i os n e st f ≡ D.complete_in mixed w s i os n e st g
up_same D.in_program s i os n e st A f g a h = refl
up_same D.in_group s i os n e st A f g a h = refl
up_same D.in_body s i os n e st A f g a h = refl
up_same D.in_then s i os n e st A f g a h = elsed_same (D.else_at mixed (D.is_inside st.scope) s e) i os st f g (h a)
up_same D.in_else s i os n e st A f g a h = h a

complete_same : (s : List ℕ) (L ps : List D.Open) (n e m : ℕ) (st : D.State) → Stand m L → D.complete mixed s L n e (D.with_opened ps st.scope st) ≡ D.complete mixed s L n e st
unfolding D.complete
complete_same s [] ps n e m st h = absurd h
complete_same s (o ∷ os) ps n e m st h =
    up_same o.kind s o.row os n e (D.with_opened (o ∷ os) st.scope st) (Stand m os) (λ i. D.complete mixed s os i e (D.with_opened ps st.scope st)) (λ i. D.complete mixed s os i e st) h.1
    (λ k. complete_same s os ps o.row e m st k)

-- one step of it, by what was found
complete_step : (s : List ℕ) (L : List D.Open) (o : Open) (k : Owner) (d : Done) (n e : ℕ) (st : D.State) → L ≡ open_of s o ∷ rest_of L → st.opened ≡ L → st.scope ≡ scope_of k → Completes s o k e d
    → D.complete mixed s L n e st ≡ done_turn d (rest_of L) n e st (λ i. D.complete mixed s (rest_of L) i e st)
unfolding D.complete open_of
complete_step s L o k d n e st top ho hk c =
    ap (λ (z : List D.Open). D.complete mixed s z n e st) top
    ∙ ap (λ (z : List D.Open). D.complete_in mixed (where_of o.kind) s o.row (rest_of L) n e (D.with_opened z st.scope st) (λ i. D.complete mixed s (rest_of L) i e st)) (sym top ∙ sym ho)
    ∙ c.is (rest_of L) n st (λ i. D.complete mixed s (rest_of L) i e st) hk

-- an alternative that is done stands in something
up_around : (w : D.Where) (s : List ℕ) (i r : ℕ) (os : List D.Open) (n e : ℕ) (st : D.State) (A : Type 0) → ((up : ℕ → D.Turn) → D.complete_in mixed w s i os n e st up ≡ up r) → Around w A → A
up_around D.in_program s i r os n e st A h a = let c : D.go (D.behind st.scope n) e st ≡ D.finish st = h (λ _. D.finish st) in let z : ◌≡◌ {A = ℕ} 0 1 = cc in absurd (omega arith)
up_around D.in_group s i r os n e st A h a = a
up_around D.in_body s i r os n e st A h a = a
up_around D.in_then s i r os n e st A h a = a
up_around D.in_else s i r os n e st A h a = a

-- ---- the loop: what is left to do is what was to do
pub record Left (s : List ℕ) (x : State) (n e : ℕ) (y : State) (i turns : ℕ) (t : List ℕ) (ds : List P.Declared) (m : ℕ) : Type 0 where
  pub stand : Stand m (opened_of s y.opened)
  pub few : y.opened.count ≤ turns
  pub fits : turns ≤ 20
  pub turn : D.complete mixed s (opened_of s y.opened) i e (state_of s t ds y) ≡ D.complete mixed s (opened_of s x.opened) n e (state_of s t ds x)

pub record Completing (s : List ℕ) (x : State) (n e : ℕ) (y : State) (i turns : ℕ) : Type 0 where
  pub left : (t : List ℕ) (ds : List P.Declared) (m : ℕ) → Stand m (opened_of s x.opened) → x.opened.count ≤ 20 → Left s x n e y i turns t ds m
  pub rows : y.rows ≡ x.rows
  pub keeps : Keeps x y

pub complete_starts : (s : List ℕ) (x : State) (n e : ℕ) → Completing s x n e x n 20
complete_starts s x n e = record {
  left = λ t ds m h k. record { stand = h; few = k; fits = omega arith; turn = refl };
  rows = refl;
  keeps = record { entered = refl; tally = refl; own = λ h. h };
}

module _ (s : List ℕ) (x : State) (n e : ℕ) (y : State) (i turns : ℕ) (v : Completing s x n e y i turns) where
  pub complete_none : turns ≤ 0 → Ends s x n e (turned y Nx.Finish)
  complete_none z = record {
    is = λ t ds m h k. let f : Left s x n e y i turns t ds m = v.left t ds m h k in absurd (omega (arith, stand_some s y.opened m f.stand, f.few, z));
    rows = v.rows;
    keeps = v.keeps;
  }

  module _ (o : Open) (ho : o ≡ top_in y.opened.items y.opened.count) (d : Done) (hd : Completes s o y.scope e d) where
    stepped : (t : List ℕ) (ds : List P.Declared) (m : ℕ) → Stand m (opened_of s x.opened) → x.opened.count ≤ 20
        → done_turn d (rest_of (opened_of s y.opened)) i e (state_of s t ds y) (λ j. D.complete mixed s (rest_of (opened_of s y.opened)) j e (state_of s t ds y)) ≡ D.complete mixed s (opened_of s x.opened) n e (state_of s t ds x)
    unfolding state_of
    stepped t ds m h k =
        let f : Left s x n e y i turns t ds m = v.left t ds m h k in
        sym (complete_step s (opened_of s y.opened) o y.scope d i e (state_of s t ds y) (opened_top s y.opened o ho (stand_some s y.opened m f.stand)) refl refl hd) ∙ f.turn

    pub complete_on : (b : Mode) (r : Turned) → d ≡ Dn.On → mode_of b ≡ D.behind (scope_of y.scope) i → r ≡ turned y (Nx.Go b e) → Ends s x n e r
    unfolding turn_of state_of
    complete_on b r hn hb hr = rw hr (record {
      is = λ t ds m h k.
          ap (λ (z : D.Mode). D.go z e (state_of s t ds y)) hb
          ∙ ap (λ (z : Done). done_turn z (rest_of (opened_of s y.opened)) i e (state_of s t ds y) (λ j. D.complete mixed s (rest_of (opened_of s y.opened)) j e (state_of s t ds y))) (sym hn)
          ∙ stepped t ds m h k;
      rows = v.rows;
      keeps = v.keeps;
    })

    pub complete_else : (j q : ℕ) (p c : Opened) (g : Open) (z : State) (r : Turned) → d ≡ Dn.OnElse j q → Popped y.opened p → Opening Wh.InElse j 0 g → Pushed p g c → z ≡ with_opened y c → r ≡ turned z (Nx.Go Md.Alternative q) → Ends s x n e r
    unfolding turn_of state_of
    complete_else j q p c g z r hn hp hg hc hz hr = rw (hr, hz) (record {
      is = λ t ds m h k.
          let f : Left s x n e y i turns t ds m = v.left t ds m h k in
          let l : p.count < 20 = omega (arith, hp.count, f.few, f.fits, stand_some s y.opened m f.stand) in
          let b : opened_of s c ≡ D.opening D.in_else j [] ∷ rest_of (opened_of s y.opened) = hc.is l s ∙ rw (hg.is s, hp.is s) in
          ap (λ (w : List D.Open). D.go D.alternative q (D.with_opened w (scope_of y.scope) (state_of s t ds y))) b
          ∙ ap (λ (w : Done). done_turn w (rest_of (opened_of s y.opened)) i e (state_of s t ds y) (λ a. D.complete mixed s (rest_of (opened_of s y.opened)) a e (state_of s t ds y))) (sym hn)
          ∙ stepped t ds m h k;
      rows = v.rows;
      keeps = record { entered = v.keeps.entered; tally = v.keeps.tally; own = v.keeps.own };
    })

    up_stand : (m j : ℕ) (st : D.State) → d ≡ Dn.Up j → st.scope ≡ scope_of y.scope → Stand m (opened_of s y.opened) → Stand m (rest_of (opened_of s y.opened))
    unfolding open_of
    up_stand m j st hn hs h =
        let top : opened_of s y.opened ≡ open_of s o ∷ rest_of (opened_of s y.opened) = opened_top s y.opened o ho (stand_some s y.opened m h) in
        let g : Stand m (open_of s o ∷ rest_of (opened_of s y.opened)) = subst (λ (z : List D.Open). Stand m z) top h in
        up_around (where_of o.kind) s o.row j (rest_of (opened_of s y.opened)) i e st (Stand m (rest_of (opened_of s y.opened)))
        (λ up. hd.is (rest_of (opened_of s y.opened)) i st up hs ∙ ap (λ (z : Done). done_turn z (rest_of (opened_of s y.opened)) i e st up) hn) g.1

    pub complete_up : (j k : ℕ) (p : Opened) (z : State) → d ≡ Dn.Up j → 0 < turns → k ≡ turns - 1 → Popped y.opened p → z ≡ with_opened y p → Completing s x n e z j k
    unfolding state_of
    complete_up j k p z hn pos hk hp hz = rw hz (record {
      left = λ t ds m h c.
          let f : Left s x n e y i turns t ds m = v.left t ds m h c in
          let g : Stand m (rest_of (opened_of s y.opened)) = up_stand m j (state_of s t ds y) hn refl f.stand in
          record {
            stand = subst (λ (w : List D.Open). Stand m w) (sym (hp.is s)) g;
            few = omega (arith, hp.count, f.few, hk);
            fits = omega (arith, f.fits, hk);
            turn =
                ap (λ (w : List D.Open). D.complete mixed s w j e (state_of s t ds (with_opened y p))) (hp.is s)
                ∙ complete_same s (rest_of (opened_of s y.opened)) (opened_of s p) j e m (state_of s t ds y) g
                ∙ ap (λ (w : Done). done_turn w (rest_of (opened_of s y.opened)) i e (state_of s t ds y) (λ a. D.complete mixed s (rest_of (opened_of s y.opened)) a e (state_of s t ds y))) (sym hn)
                ∙ stepped t ds m h c;
          };
      rows = v.rows;
      keeps = record { entered = v.keeps.entered; tally = v.keeps.tally; own = v.keeps.own };
    })

-- ---- WHAT A STATEMENT OPENS
inside_same : (k : Owner) → D.is_inside (scope_of k) ≡ is_inside k
inside_same Everyone = refl
inside_same (Procedure p) = refl

module _ (s : List ℕ) (x : State) (n labels e : ℕ) (r : Turned) where
  pub opens_nothing_lem : (k : Opens) → k ≡ O.Nothing → Ends s x n e r → OpensAs s x k n labels e r
  unfolding state_of
  opens_nothing_lem k hk h = record { so = λ o f. by o (sym hk ∙ f) }
    where
      by : (o : St.Opens) → O.Nothing ≡ opens_for o → OpensIn s x o n labels e r
      by St.opens_nothing f = record { is = λ t ds ns m a b c. h.is t ds m a (omega (arith, b)); rows = h.rows; keeps = h.keeps }
      by St.opens_group f = let z : ◌≡◌ {A = ℕ} 0 1 = cc in absurd (omega arith)
      by St.opens_body f = let z : ◌≡◌ {A = ℕ} 0 1 = cc in absurd (omega arith)
      by St.opens_then f = let z : ◌≡◌ {A = ℕ} 0 1 = cc in absurd (omega arith)

  module _ (g : Open) (c : Opened) (z : State) where
    -- a group, in a procedure or not
    group_by : (b : Mode) (i : Bool) → Opening Wh.InGroup n labels g → Pushed x.opened g c → z ≡ with_opened x c → i ≡ is_inside x.scope → mode_of b ≡ cond i D.inner D.leading_text → r ≡ turned z (Nx.Go b e) → OpensIn s x St.opens_group n labels e r
    unfolding turn_of state_of
    group_by b i hg hc hz hi hb hr = rw (hr, hz) (record {
      is = λ t ds ns m a k l.
          let w : opened_of s c ≡ D.opening D.in_group n (D.spelled ns) ∷ opened_of s x.opened = hc.is k s ∙ rw (hg.is s, l) in
          let q : mode_of b ≡ cond (D.is_inside (scope_of x.scope)) D.inner D.leading_text = hb ∙ ap (λ (u : Bool). cond u D.inner D.leading_text) (hi ∙ sym (inside_same x.scope)) in
          ap (λ (u : List D.Open). D.go (mode_of b) e (D.with_opened u (scope_of x.scope) (state_of s t ds x))) w
          ∙ ap (λ (u : D.Mode). D.go u e (D.with_opened (D.opening D.in_group n (D.spelled ns) ∷ opened_of s x.opened) (scope_of x.scope) (state_of s t ds x))) q;
      rows = refl;
      keeps = record { entered = refl; tally = refl; own = λ h. h };
    })

    group_of : (k : Opens) → k ≡ O.Group → OpensIn s x St.opens_group n labels e r → OpensAs s x k n labels e r
    group_of k hk h = record { so = λ o f. by o (sym hk ∙ f) }
      where
        by : (o : St.Opens) → O.Group ≡ opens_for o → OpensIn s x o n labels e r
        by St.opens_nothing f = let z : ◌≡◌ {A = ℕ} 0 1 = cc in absurd (omega arith)
        by St.opens_group f = h
        by St.opens_body f = let z : ◌≡◌ {A = ℕ} 0 1 = cc in absurd (omega arith)
        by St.opens_then f = let z : ◌≡◌ {A = ℕ} 0 1 = cc in absurd (omega arith)

    module _ (k : Opens) (hk : k ≡ O.Group) (hg : Opening Wh.InGroup n labels g) (hc : Pushed x.opened g c) (hz : z ≡ with_opened x c) (i : Bool) (hi : i ≡ is_inside x.scope) where
      pub opens_inner : i ≡ true → r ≡ turned z (Nx.Go Md.Inner e) → OpensAs s x k n labels e r
      opens_inner y hr = group_of k hk (group_by Md.Inner i hg hc hz hi (rw y) hr)

      pub opens_outer : i ≡ false → r ≡ turned z (Nx.Go Md.Leading e) → OpensAs s x k n labels e r
      opens_outer y hr = group_of k hk (group_by Md.Leading i hg hc hz hi (rw y) hr)

    body_by : (y : State) → Opening Wh.InBody n labels g → Pushed x.opened g c → z ≡ with_opened x c → y ≡ with_scope z (Procedure (record { member = x.tally.member; row = n })) → r ≡ turned y (Nx.Go Md.Inner e) → OpensIn s x St.opens_body n labels e r
    unfolding turn_of state_of
    body_by y hg hc hz hy hr = rw (hr, hy, hz) (record {
      is = λ t ds ns m a k l.
          let w : opened_of s c ≡ D.opening D.in_body n (D.spelled ns) ∷ opened_of s x.opened = hc.is k s ∙ rw (hg.is s, l) in
          ap (λ (u : List D.Open). D.go D.inner e (D.with_opened u (P.inside n) (state_of s t ds x))) w;
      rows = refl;
      keeps = record { entered = refl; tally = refl; own = λ h. refl };
    })

    pub opens_body_lem : (k : Opens) (y : State) → k ≡ O.Body → Opening Wh.InBody n labels g → Pushed x.opened g c → z ≡ with_opened x c → y ≡ with_scope z (Procedure (record { member = x.tally.member; row = n })) → r ≡ turned y (Nx.Go Md.Inner e) → OpensAs s x k n labels e r
    opens_body_lem k y hk hg hc hz hy hr = record { so = λ o f. by o (sym hk ∙ f) }
      where
        by : (o : St.Opens) → O.Body ≡ opens_for o → OpensIn s x o n labels e r
        by St.opens_nothing f = let z : ◌≡◌ {A = ℕ} 0 1 = cc in absurd (omega arith)
        by St.opens_group f = let z : ◌≡◌ {A = ℕ} 0 1 = cc in absurd (omega arith)
        by St.opens_body f = body_by y hg hc hz hy hr
        by St.opens_then f = let z : ◌≡◌ {A = ℕ} 0 1 = cc in absurd (omega arith)

    then_by : Opening Wh.InThen n 0 g → Pushed x.opened g c → z ≡ with_opened x c → r ≡ turned z (Nx.Go Md.Alternative e) → OpensIn s x St.opens_then n labels e r
    unfolding turn_of state_of
    then_by hg hc hz hr = rw (hr, hz) (record {
      is = λ t ds ns m a k l.
          let w : opened_of s c ≡ D.opening D.in_then n [] ∷ opened_of s x.opened = hc.is k s ∙ rw (hg.is s) in
          ap (λ (u : List D.Open). D.go D.alternative e (D.with_opened u (scope_of x.scope) (state_of s t ds x))) w;
      rows = refl;
      keeps = record { entered = refl; tally = refl; own = λ h. h };
    })

    pub opens_then_lem : (k : Opens) → k ≡ O.Then → Opening Wh.InThen n 0 g → Pushed x.opened g c → z ≡ with_opened x c → r ≡ turned z (Nx.Go Md.Alternative e) → OpensAs s x k n labels e r
    opens_then_lem k hk hg hc hz hr = record { so = λ o f. by o (sym hk ∙ f) }
      where
        by : (o : St.Opens) → O.Then ≡ opens_for o → OpensIn s x o n labels e r
        by St.opens_nothing f = let z : ◌≡◌ {A = ℕ} 0 1 = cc in absurd (omega arith)
        by St.opens_group f = let z : ◌≡◌ {A = ℕ} 0 1 = cc in absurd (omega arith)
        by St.opens_body f = let z : ◌≡◌ {A = ℕ} 0 1 = cc in absurd (omega arith)
        by St.opens_then f = then_by hg hc hz hr

-- ---- A STATEMENT THAT WAS READ
-- names and rows do not ask for each other
names_in_lem : (w : D.Where) (k : ℕ) (l : P.Link) (bs : List (List ℕ)) (os : List D.Open) (y : P.Statement) (p : ℕ) (es : List P.Declared) (st : D.State)
    → D.add_in w (record { kind = w; row = k; last = l; labels = bs }) os y p (D.with_names es st) ≡ D.with_names es (D.add_in w (record { kind = w; row = k; last = l; labels = bs }) os y p st)
names_in_lem D.in_program k l bs os y p es st = refl
names_in_lem D.in_group k l bs os y p es st = refl
names_in_lem D.in_body k l bs os y p es st = refl
names_in_lem D.in_then k l bs os y p es st = refl
names_in_lem D.in_else k l bs os y p es st = refl

names_to : (L : List D.Open) (y : P.Statement) (p : ℕ) (es : List P.Declared) (st : D.State) → D.add_to L y p (D.with_names es st) ≡ D.with_names es (D.add_to L y p st)
names_to [] y p es st = refl
names_to (o ∷ os) y p es st = names_in_lem o.kind o.row o.last o.labels os y p es st

add_names : (y : P.Statement) (p : ℕ) (es : List P.Declared) (st : D.State) → D.add_row y p (D.with_names es st) ≡ D.with_names es (D.add_row y p st)
unfolding D.add_row
add_names y p es st = names_to st.opened y p es st

module _ (s t : List ℕ) (x : State) (p labels : ℕ) (t' : List ℕ) (r : Turned) where
  taken_is : (c : Clause) (a : State) (z : St.Clause) (ns : List Named) (ds es : List P.Declared) → Again s c z → Adds t x c p t' a → OpensIn s a z.opens x.rows labels c.to r
      → Placed s t x → Spare x → x.opened.count < 20 → p < 65536 → D.spelled ns ≡ labelled s labels → Taken s t x p t' r ns ds es (read z)
  unfolding D.taken state_of
  taken_is c a z ns ds es g h o q small few lp sp =
      let ms : List P.Declared = St.means (scope_of x.scope) (D.label_meaning z.opens x.rows) ns ++ es in
      let new : state_of s t' (ds ++ ms) a ≡ D.with_names ms (D.add_row z.statement p (state_of s t ds x)) =
      h.is s (ds ++ ms) q small lp g.content
      ∙ ap (λ (y : P.Statement). D.add_row y p (state_of s t (ds ++ ms) x)) g.statement
      ∙ add_names z.statement p ms (state_of s t ds x) in
      o.is t' (ds ++ ms) ns (suc x.rows) (h.stand s q small) (omega (arith, h.deep q.some (omega (arith, q.deep)), few)) sp
      ∙ ap (λ (st : D.State). D.opened mixed z.opens s x.rows ns c.to st) new
      ∙ ap (λ (e : ℕ). D.opened mixed z.opens s x.rows ns e (D.with_names ms (D.add_row z.statement p (state_of s t ds x)))) g.to
      ∙ ap (λ (k : ℕ). D.opened mixed z.opens s k ns z.to (D.with_names (St.means (scope_of x.scope) (D.label_meaning z.opens k) ns ++ es) (D.add_row z.statement p (state_of s t ds x)))) (sym (rows_length s t 0 x.rows))

  pub takes_read : (y : Read) (c : Clause) (a : State) → y ≡ Ok c → Adds t x c p t' a → OpensAs s a c.opens x.rows labels c.to r → TakesAs s t x y p labels t' r
  takes_read y c a hy h o = rw hy (record {
    is = by;
    rows = λ small. omega (arith, some.rows, h.count small);
    keeps = record { entered = some.keeps.entered ∙ h.keeps.entered; tally = some.keeps.tally ∙ h.keeps.tally; own = λ w. later (h.keeps.own w) };
    size = h.size;
    marks = marked;
  })
    where
      any : (k : Opens) → ((f : St.Opens) → k ≡ opens_for f → OpensIn s a f x.rows labels c.to r) → (f : St.Opens) × OpensIn s a f x.rows labels c.to r
      any O.Nothing g = (St.opens_nothing, g St.opens_nothing refl)
      any O.Group g = (St.opens_group, g St.opens_group refl)
      any O.Body g = (St.opens_body, g St.opens_body refl)
      any O.Then g = (St.opens_then, g St.opens_then refl)

      some : OpensIn s a (any c.opens o.so).0 x.rows labels c.to r
      some = (any c.opens o.so).1

      later : Own x.tally.member a.scope → Own x.tally.member r.state.scope
      later w = subst (λ (m : ℕ). Own m r.state.scope) (ap (λ (b : Tally). b.member) h.keeps.tally) (some.keeps.own (subst (λ (m : ℕ). Own m a.scope) (sym (ap (λ (b : Tally). b.member) h.keeps.tally)) w))

      marked : (R : Reading St.Clause) → Stood s (Ok c) R → Placed s t x → Spare x → Marks s t x.rows x.opened t' r.state.rows
      marked (read z) g q small =
          subst (λ (m : ℕ). Marks s t x.rows x.opened t' m) (sym some.rows) (h.marks s q small g.content
          (record { kind = g.kind ∙ ap kind_of (sym g.statement); type = g.type ∙ ap type_in (sym g.statement) }))
      marked (refused w e) g q small = absurd g

      by : (R : Reading St.Clause) (ns : List Named) (ds es : List P.Declared) → Stood s (Ok c) R → Placed s t x → Spare x → x.opened.count < 20 → p < 65536
          → D.spelled ns ≡ labelled s labels → Taken s t x p t' r ns ds es R
      by (read z) ns ds es g q small few lp sp = taken_is c a z ns ds es g h (o.so z.opens g.opens) q small few lp sp
      by (refused w e) ns ds es g q small few lp sp = absurd g

pub takes_refused : (s t : List ℕ) (x : State) (p labels : ℕ) (r : Turned) (y : Read) (w : Why) (q : ℕ) → y ≡ Err (w, q) → r ≡ turned x (Nx.Stop w q) → TakesAs s t x y p labels t r
takes_refused s t x p labels r y w q hy hr = rw (hy, hr) (record {
  is = by;
  rows = λ small. omega arith;
  keeps = record { entered = refl; tally = refl; own = λ h. h };
  size = refl;
  marks = λ R g h small. marks_none s t x.rows x.opened x.rows (omega arith);
})
  where
    by : (R : Reading St.Clause) (ns : List Named) (ds es : List P.Declared) → Stood s (Err (w, q)) R → Placed s t x → Spare x → x.opened.count < 20 → p < 65536
        → D.spelled ns ≡ labelled s labels → Taken s t x p t (turned x (Nx.Stop w q)) ns ds es R
    by (read z) ns ds es g a b c d e = absurd g
    by (refused v k) ns ds es g a b c d e = (rw (g.0, g.1), refl)
