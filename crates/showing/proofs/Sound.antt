-- WHAT EVERY STATE OF THE READER HAS: links lead to rows in the same place or inside; what is open is a row that there is; names mean
-- rows. A new row keeps it, and what a statement opens or ends.
-- Assumes nothing.
use mathlib.Core.Path.{◌≡◌, refl, sym, ap, subst, ◌∙◌}
use mathlib.Core.Bool.{Bool, true, false}
use mathlib.Core.List.{List, [], ◌∷◌, ◌++◌}
use Prim.Native.Nat.{ℕ, suc, ◌<◌}
use native.Mathlib.Omega.{arith}
use borrow.Author.Tests.{ltb-true, ltb-false}
use lib.Dec.{ltb}
use lib.ListN.{length}
use Rattle.definition.specs.Bytes.{mixed}
use Rattle.definition.specs.Expressions.{Named}
use Rattle.definition.specs.Program as P
use Rattle.definition.specs.Statements as St
use Rattle.definition.specs.Reading as D
use Rattle.definition.specs.World.{row_of}
use Rattle.definition.specs.declared.ValueType.{ValueType}
use Rattle.openings.specs.Open.{parent_in, role_in, first_in, last_by, linked_in}
use Rattle.openings.proofs.Keywords.{opens_of}
use Rattle.flow.specs.Shown.{StandsIn, Linked}
use Rattle.reading.proofs.Adding.{add_in_lem}
use Rattle.reading.specs.State.{Around}
use Rattle.showing.specs.Worlds.{IsProcedure}
use Rattle.showing.proofs.Linking.{Grows, AllRelinked, row_is, in_linked, Texted, texted_size, texted_grows, texted_linked, Bare, nowhere_not, more_size, more_new, more_grows, more_stands, more_linked}
use Rattle.showing.proofs.Meanings.{MeansRow, AllMean, all_grows, all_append, all_means, HeadIn, head_more, head_behind}

-- ---- what is open: the last of its rows stands in it, its own row is there, and the program is around all
pub record Inside (rs : List P.Row) (o : D.Open) : Type 0 where
  pub last : (l : ℕ) → o.last ≡ P.row l → StandsIn rs l (parent_in o.kind o.row)
  pub row : (g : ℕ) → parent_in o.kind o.row ≡ P.row g → g < length rs

abbrev pub Held : List P.Row → List D.Open → Type 0
Held rs [] = ⊥
Held rs (o ∷ os) = Inside rs o × Around o.kind (Held rs os)

-- ---- rows and names
pub record Rowed (st : D.State) : Type 0 where
  pub linked : Linked st.rows
  pub first : (n : ℕ) → st.first ≡ P.row n → StandsIn st.rows n P.nowhere

-- every procedure's parameters are among the names
abbrev pub Headed : List P.Row → List P.Declared → Type 0
Headed rs ds = (r : ℕ) (ns : List (List ℕ)) (v : ValueType) → r < length rs → (row_of rs r).statement ≡ P.procedure ns v → HeadIn (P.inside r) ns ds

pub record Core (st : D.State) : Type 0 where
  pub rowed : Rowed st
  pub names : AllMean st.rows st.declared
  pub heads : Headed st.rows st.declared

pub record Sound (st : D.State) : Type 0 where
  pub core : Core st
  pub held : Held st.rows st.opened

abbrev pub SoundTurn : D.Turn → Type 0
SoundTurn (D.go m at st) = Sound st
SoundTurn (D.stop w p begun st) = Rowed st
SoundTurn (D.finish st) = Sound st

pub start_sound : Sound D.start
start_sound = record {
  core = record {
    rowed = record { linked = record { next = λ n m l e. absurd (omega arith); child = λ n m l e. absurd (omega arith); other = λ n m l e. absurd (omega arith) }; first = λ n e. nowhere_not n e };
    names = tt;
    heads = λ r ns v l e. absurd (omega arith);
  };
  held = (record { last = λ l e. nowhere_not l e; row = λ g e. nowhere_not g e }, tt);
}

-- what is open, and names, apart from the rows
pub opened_core : (L : List D.Open) (k : P.Scope) (st : D.State) → Core st → Core (D.with_opened L k st)
opened_core L k st h = record { rowed = record { linked = h.rowed.linked; first = h.rowed.first }; names = h.names; heads = h.heads }

pub named_rowed : (ds : List P.Declared) (st : D.State) → Rowed st → Rowed (D.with_names ds st)
named_rowed ds st h = record { linked = h.linked; first = h.first }

pub named_core : (ds : List P.Declared) (st : D.State) → AllMean st.rows ds → Core st → Core (D.with_names ds st)
named_core ds st a h = record {
  rowed = named_rowed ds st h.rowed;
  names = all_append st.rows st.declared ds h.names a;
  heads = λ r ns v l e. head_more (P.inside r) ns st.declared ds (h.heads r ns v l e);
}

-- ---- rows that grow
module _ (rs qs : List P.Row) (g : Grows rs qs) where
  inside_grows : (o : D.Open) → Inside rs o → Inside qs o
  inside_grows o h = record { last = λ l e. g.stands l (parent_in o.kind o.row) (h.last l e); row = λ k e. omega (arith, h.row k e, g.size) }

  around_by : (w : D.Where) (A B : Type 0) → (A → B) → Around w A → Around w B
  around_by D.in_program A B f h = tt
  around_by D.in_group A B f h = f h
  around_by D.in_body A B f h = f h
  around_by D.in_then A B f h = f h
  around_by D.in_else A B f h = f h

  pub held_grows : (L : List D.Open) → Held rs L → Held qs L
  held_grows [] h = h
  held_grows (o ∷ os) h = (inside_grows o h.0, around_by o.kind (Held rs os) (Held qs os) (held_grows os) h.1)

-- texts
pub texted_sound : (qs : List P.Row) (st : D.State) → Texted st.rows qs → Sound st → Sound (D.with_rows qs st)
texted_sound qs st t h =
    let g : Grows st.rows qs = texted_grows st.rows qs t in
    record {
      core = record {
        rowed = record { linked = texted_linked st.rows qs t h.core.rowed.linked; first = λ n e. g.stands n P.nowhere (h.core.rowed.first n e) };
        names = all_grows st.rows qs g st.declared h.core.names;
        heads = λ r ns v l e. let q : r < length st.rows = omega (arith, l, texted_size st.rows qs t) in h.core.heads r ns v q (sym (g.statement r q) ∙ e);
      };
      held = held_grows st.rows qs g st.opened h.held;
    }

-- ---- a new row
-- a statement c that was read as row n, with the names es that it lists
pub record Fits (n : ℕ) (c : St.Clause) (es : List P.Declared) : Type 0 where
  pub opens : opens_of c.statement ≡ c.opens
  pub names : (rs : List P.Row) → AllMean rs es
  pub heads : (ns : List (List ℕ)) (v : ValueType) → c.statement ≡ P.procedure ns v → HeadIn (P.inside n) ns es

-- what opens a body is a procedure
opens_body_lem : (x : P.Statement) → opens_of x ≡ St.opens_body → IsProcedure x
opens_body_lem P.null e = let z : ◌≡◌ {A = ℕ} 0 1 = cc in absurd (omega arith)
opens_body_lem (P.declare ns) e = let z : ◌≡◌ {A = ℕ} 0 1 = cc in absurd (omega arith)
opens_body_lem (P.procedure ns v) e = (ns, v, refl)
opens_body_lem (P.assign n x) e = let z : ◌≡◌ {A = ℕ} 0 1 = cc in absurd (omega arith)
opens_body_lem (P.conditional x) e = let z : ◌≡◌ {A = ℕ} 0 1 = cc in absurd (omega arith)
opens_body_lem P.group e = let z : ◌≡◌ {A = ℕ} 0 1 = cc in absurd (omega arith)
opens_body_lem (P.iterated n x bs) e = let z : ◌≡◌ {A = ℕ} 0 1 = cc in absurd (omega arith)
opens_body_lem (P.goto n) e = let z : ◌≡◌ {A = ℕ} 0 1 = cc in absurd (omega arith)
opens_body_lem (P.include ns) e = let z : ◌≡◌ {A = ℕ} 0 1 = cc in absurd (omega arith)
opens_body_lem (P.activate xs) e = let z : ◌≡◌ {A = ℕ} 0 1 = cc in absurd (omega arith)
opens_body_lem (P.deactivate ns) e = let z : ◌≡◌ {A = ℕ} 0 1 = cc in absurd (omega arith)
opens_body_lem (P.return x) e = let z : ◌≡◌ {A = ℕ} 0 1 = cc in absurd (omega arith)

label_means : (o : St.Opens) (n : ℕ) (rs : List P.Row) → n < length rs → opens_of (row_of rs n).statement ≡ o → MeansRow rs (D.label_meaning o n)
label_means St.opens_nothing n rs l e = l
label_means St.opens_group n rs l e = l
label_means St.opens_body n rs l e = (l, opens_body_lem (row_of rs n).statement e)
label_means St.opens_then n rs l e = l

first_stands : (w : D.Where) (k : ℕ) (f l : P.Link) (n m : ℕ) (qs : List P.Row) → first_in w f l n ≡ P.row m → (f ≡ P.row m → StandsIn qs m P.nowhere) → StandsIn qs n (parent_in w k) → StandsIn qs m P.nowhere
first_stands D.in_program k f P.nowhere n m qs e h i = subst (λ (z : ℕ). StandsIn qs z P.nowhere) (row_is n m e) i
first_stands D.in_program k f (P.row l) n m qs e h i = h e
first_stands D.in_group k f l n m qs e h i = h e
first_stands D.in_body k f l n m qs e h i = h e
first_stands D.in_then k f l n m qs e h i = h e
first_stands D.in_else k f l n m qs e h i = h e

held_last : (w : D.Where) (k : ℕ) (l : P.Link) (bs : List (List ℕ)) (os : List D.Open) (n : ℕ) (qs : List P.Row) → StandsIn qs n (parent_in w k)
    → Held qs (record { kind = w; row = k; last = l; labels = bs } ∷ os) → Held qs (last_by w (record { kind = w; row = k; last = l; labels = bs }) n ∷ os)
held_last D.in_program k l bs os n qs i h = (record { last = λ m e. subst (λ (z : ℕ). StandsIn qs z P.nowhere) (row_is n m e) i; row = h.0.row }, h.1)
held_last D.in_group k l bs os n qs i h = (record { last = λ m e. subst (λ (z : ℕ). StandsIn qs z (P.row k)) (row_is n m e) i; row = h.0.row }, h.1)
held_last D.in_body k l bs os n qs i h = (record { last = λ m e. subst (λ (z : ℕ). StandsIn qs z (P.row k)) (row_is n m e) i; row = h.0.row }, h.1)
held_last D.in_then k l bs os n qs i h = h
held_last D.in_else k l bs os n qs i h = h

-- the parameters of the rows before it, and of a new procedure
added_heads : (rs qs : List P.Row) (ds ls es : List P.Declared) → Grows rs qs → Headed rs ds
    → ((ns : List (List ℕ)) (v : ValueType) → (row_of qs (length rs)).statement ≡ P.procedure ns v → HeadIn (P.inside (length rs)) ns es) → length qs ≡ suc (length rs)
    → Headed qs (ds ++ (ls ++ es))
added_heads rs qs ds ls es g h i size r ns v l e = by (ltb r (length rs)) refl
  where
    by : (b : Bool) → ltb r (length rs) ≡ b → HeadIn (P.inside r) ns (ds ++ (ls ++ es))
    by true f = let q : r < length rs = ltb-true r (length rs) f in head_more (P.inside r) ns ds (ls ++ es) (h r ns v q (sym (g.statement r q) ∙ e))
    by false f =
        let q : length rs ≡ r = omega (arith, ltb-false r (length rs) f, l, size) in
        subst (λ (k : ℕ). HeadIn (P.inside k) ns (ds ++ (ls ++ es))) q
        (head_behind (P.inside (length rs)) ns ds (ls ++ es) (head_behind (P.inside (length rs)) ns ls es (i ns v (ap (λ (k : ℕ). (row_of qs k).statement) q ∙ e))))

record Added (n : ℕ) (st : D.State) : Type 0 where
  sound : Sound st
  low : n < length st.rows

add_sound : (L : List D.Open) (p : ℕ) (ns : List Named) (c : St.Clause) (es : List P.Declared) (st : D.State) → Core st → Held st.rows L → Fits (length st.rows) c es
    → Added (length st.rows) (D.with_names (St.means st.scope (D.label_meaning c.opens (length st.rows)) ns ++ es) (D.add_to L c.statement p st))
add_sound [] p ns c es st h a f = absurd a
add_sound (o ∷ os) p ns c es st h a f =
    let rs : List P.Row = st.rows in
    let n : ℕ = length rs in
    let up : P.Link = parent_in o.kind o.row in
    let qs : List P.Row = linked_in o.kind o n rs in
    let x : P.Row = D.new_row c.statement p up (role_in o.kind) in
    let r : AllRelinked n up rs qs = in_linked o.kind o n rs (λ l e. (a.0.last l e).parent) in
    let b : Bare up x = record { parent = refl; next = refl; child = refl; other = refl } in
    let g : Grows rs (qs ++ x ∷ []) = more_grows rs qs up x r b in
    let new : StandsIn (qs ++ x ∷ []) n up = more_stands rs qs up x r b in
    let its : (row_of (qs ++ x ∷ []) n).statement ≡ c.statement = ap (λ (y : P.Row). y.statement) (more_new rs qs up x r b) in
    let labels : List P.Declared = St.means st.scope (D.label_meaning c.opens n) ns in
    subst (λ (z : D.State). Added n (D.with_names (labels ++ es) z)) (sym (add_in_lem o.kind o os c.statement p n st refl))
    (record {
      sound = record {
        core = record {
          rowed = record {
            linked = more_linked rs qs up x r b h.rowed.linked;
            first = λ m e. first_stands o.kind o.row st.first o.last n m (qs ++ x ∷ []) e (λ i. g.stands m P.nowhere (h.rowed.first m i)) new;
          };
          names = all_append (qs ++ x ∷ []) st.declared (labels ++ es) (all_grows rs (qs ++ x ∷ []) g st.declared h.names)
              (all_append (qs ++ x ∷ []) labels es (all_means (qs ++ x ∷ []) st.scope (D.label_meaning c.opens n) ns (label_means c.opens n (qs ++ x ∷ []) new.within (ap opens_of its ∙ f.opens))) (f.names (qs ++ x ∷ [])));
          heads = added_heads rs (qs ++ x ∷ []) st.declared labels es g h.heads (λ ms v e. f.heads ms v (sym its ∙ e)) (more_size rs qs up x r b);
        };
        held = held_last o.kind o.row o.last o.labels os n (qs ++ x ∷ []) new (held_grows rs (qs ++ x ∷ []) g (o ∷ os) a);
      };
      low = new.within;
    })

-- ---- behind a statement, and what it opens
module _ (s : List ℕ) where
  elsed_sound : (E : D.Else) (i : ℕ) (os : List D.Open) (st : D.State) (up : Unit {0} → D.Turn) → Core st → i < length st.rows → Held st.rows os → SoundTurn (up tt) → SoundTurn (D.elsed E i os st up)
  elsed_sound (D.else_to q) i os st up h l a r = record {
    core = opened_core (D.opening D.in_else i [] ∷ os) st.scope st h;
    held = (record { last = λ m e. nowhere_not m e; row = λ g e. subst (λ (z : ℕ). z < length st.rows) (row_is i g e) l }, a);
  }
  elsed_sound D.no_else i os st up h l a r = r

  complete_in_lem : (w : D.Where) (i : ℕ) (l : P.Link) (bs : List (List ℕ)) (os : List D.Open) (n e : ℕ) (st : D.State) (up : ℕ → D.Turn) → Core st → Held st.rows (record { kind = w; row = i; last = l; labels = bs } ∷ os)
      → (Held st.rows os → SoundTurn (up i)) → SoundTurn (D.complete_in mixed w s i os n e (D.with_opened (record { kind = w; row = i; last = l; labels = bs } ∷ os) st.scope st) up)
  complete_in_lem D.in_program i l bs os n e st up h a r = record { core = opened_core (record { kind = D.in_program; row = i; last = l; labels = bs } ∷ os) st.scope st h; held = a }
  complete_in_lem D.in_group i l bs os n e st up h a r = record { core = opened_core (record { kind = D.in_group; row = i; last = l; labels = bs } ∷ os) st.scope st h; held = a }
  complete_in_lem D.in_body i l bs os n e st up h a r = record { core = opened_core (record { kind = D.in_body; row = i; last = l; labels = bs } ∷ os) st.scope st h; held = a }
  complete_in_lem D.in_then i l bs os n e st up h a r =
      let L : List D.Open = record { kind = D.in_then; row = i; last = l; labels = bs } ∷ os in
      elsed_sound (D.else_at mixed (D.is_inside st.scope) s e) i os (D.with_opened L st.scope st) (λ _. up i) (opened_core L st.scope st h) (a.0.row i refl) a.1 (r a.1)
  complete_in_lem D.in_else i l bs os n e st up h a r = r a.1

  pub complete_sound : (L : List D.Open) (n e : ℕ) (st : D.State) → Core st → Held st.rows L → SoundTurn (D.complete mixed s L n e st)
  unfolding D.complete
  complete_sound [] n e st h a = absurd a
  complete_sound (o ∷ os) n e st h a = complete_in_lem o.kind o.row o.last o.labels os n e st (λ i. D.complete mixed s os i e st) h a (complete_sound os o.row e st h)

  held_new : (w : D.Where) (n : ℕ) (ls : List (List ℕ)) (rs : List P.Row) (L : List D.Open) → n < length rs → Around w (Held rs L) → Held rs (D.opening w n ls ∷ L)
  held_new w n ls rs L l a = (record { last = λ m e. nowhere_not m e; row = by w }, a)
    where
      by : (w : D.Where) (g : ℕ) → parent_in w n ≡ P.row g → g < length rs
      by D.in_program g e = nowhere_not g e
      by D.in_group g e = subst (λ (z : ℕ). z < length rs) (row_is n g e) l
      by D.in_body g e = subst (λ (z : ℕ). z < length rs) (row_is n g e) l
      by D.in_then g e = subst (λ (z : ℕ). z < length rs) (row_is n g e) l
      by D.in_else g e = subst (λ (z : ℕ). z < length rs) (row_is n g e) l

  opened_sound : (o : St.Opens) (n : ℕ) (ns : List Named) (e : ℕ) (st : D.State) → Sound st → n < length st.rows → SoundTurn (D.opened mixed o s n ns e st)
  opened_sound St.opens_nothing n ns e st h l = complete_sound st.opened n e st h.core h.held
  opened_sound St.opens_group n ns e st h l = record { core = opened_core (D.opening D.in_group n (D.spelled ns) ∷ st.opened) st.scope st h.core; held = held_new D.in_group n (D.spelled ns) st.rows st.opened l h.held }
  opened_sound St.opens_body n ns e st h l = record { core = opened_core (D.opening D.in_body n (D.spelled ns) ∷ st.opened) (P.inside n) st h.core; held = held_new D.in_body n (D.spelled ns) st.rows st.opened l h.held }
  opened_sound St.opens_then n ns e st h l = record { core = opened_core (D.opening D.in_then n [] ∷ st.opened) st.scope st h.core; held = held_new D.in_then n [] st.rows st.opened l h.held }

  -- THE STATEMENT that is taken
  pub taken_sound : (p : ℕ) (ns : List Named) (st : D.State) (c : St.Clause) (es : List P.Declared) → Sound st → Fits (length st.rows) c es → SoundTurn (D.taken mixed s p ns st c es)
  unfolding D.taken D.add_row
  taken_sound p ns st c es h f =
      let a : Added (length st.rows) (D.with_names (St.means st.scope (D.label_meaning c.opens (length st.rows)) ns ++ es) (D.add_to st.opened c.statement p st)) = add_sound st.opened p ns c es st h.core h.held f in
      opened_sound c.opens (length st.rows) ns c.to (D.with_names (St.means st.scope (D.label_meaning c.opens (length st.rows)) ns ++ es) (D.add_to st.opened c.statement p st)) a.sound a.low
