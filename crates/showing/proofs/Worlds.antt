-- WORLDS whose members were read: what their names lead to, when a member is entered, and with the table of rows all that a run needs.
-- Assumes nothing.
use mathlib.Core.Path.{◌≡◌, refl, sym, ap, subst, ◌∙◌}
use mathlib.Core.Bool.{Bool, true, false, cond}
use mathlib.Core.List.{List, [], ◌∷◌}
use Prim.Native.Nat.{ℕ, suc, ◌-◌, ◌<◌, ◌≤◌}
use native.Mathlib.Omega.{arith}
use borrow.Author.Tests.{eqb-true, eqb-false, eq-eqb}
use lib.Dec.{eqb, ltb}
use lib.ListN.{length, get_or}
use Rattle.definition.specs.Bytes.{mixed}
use Rattle.definition.specs.Limits.{entered_sentences}
use Rattle.definition.specs.Program as P
use Rattle.definition.specs.Reading as D
use Rattle.definition.specs.declared.Layout.{Layout}
use Rattle.definition.specs.World as W
use Rattle.definition.specs.World.{World, row_of, rows_in, rows_of}
use Rattle.definition.specs.Names as N
use Rattle.definition.specs.Values as Val
use Rattle.definition.specs.Evaluate as Ev
use Rattle.definition.specs.declared.Why.TheVariants.{OverLimit, DeclaredTwice}
use Rattle.definition.specs.declared.ValueType.{ValueType}
use Rattle.definition.proofs.Choices.{when_has}
use Rattle.deck.specs.Answer.{body_in}
use Rattle.rows.specs.Table.{row_in}
use Rattle.rows.specs.Parts.{part_in}
use Rattle.rows.specs.Tabled.{Tabled}
use Rattle.rows.specs.declared.Starts.{Starts}
use Rattle.flow.specs.Shown.{Linked}
use Rattle.reading.specs.State.{rows_from}
use Rattle.operands.specs.Shown.{IsRow, RowsShown}
use Rattle.showing.specs.Worlds.{IsProcedure, Leads, AllLead, Parted, Wider, none, kept, Placed, Stored, nothing, there, Laid, Grown}
use Rattle.showing.specs.Listed.{Lists, Written}
use Rattle.showing.proofs.Meanings.{AllMean}
use Rattle.showing.proofs.Turning.{faulty_not, member_sound, linked_read}
use Rattle.showing.proofs.Tabling.{shown_read, stated_read, lists_read, written_read}
use Rattle.showing.proofs.Distinct.{IsFine, head_distinct, few_called}
use Rattle.showing.proofs.Placing.{EntryIn, entry_at, lead_at, AllLed, declare_led, all_wider}
use Rattle.showing.proofs.Tables.{AllGrown, declare_grown}

-- ---- only names and members matter
pub placed_same : (b : ℕ → List ℕ) (w v : World) → v.identifiers ≡ w.identifiers → v.denotations ≡ w.denotations → v.members ≡ w.members → Placed b w → Placed b v
placed_same b w v e f g h = record {
  names = subst (λ (ms : List W.Entered). AllLead (λ m. rows_in m ms) v.identifiers v.denotations) (sym g)
      (subst (λ (is : List W.Identifier). AllLead (λ m. rows_of m w) is v.denotations) (sym e) (subst (λ (ds : List W.Denotation). AllLead (λ m. rows_of m w) w.identifiers ds) (sym f) h.names));
  apart = subst (λ (ms : List W.Entered). (m : ℕ) → Parted (rows_in m ms)) (sym g) h.apart;
  read = subst (λ (ms : List W.Entered). (m : ℕ) → Wider (rows_in m ms) (D.read_member mixed (b m)).rows) (sym g) h.read;
}

-- a world without names and members
pub placed_new : (b : ℕ → List ℕ) (y : Layout) (limit text lines : ℕ) → Placed b (W.new_world y limit text lines)
unfolding rows_in
placed_new b y limit text lines = record { names = tt; apart = λ m r ns v l e. absurd (omega arith); read = λ m. none refl }

-- ---- a member that is entered: nothing is wrong with it, and its names are declared
sooner_sound : (x : N.Past) (f : P.Fault) → N.sooner x f ≡ P.sound → f ≡ P.sound
sooner_sound N.within f e = e
sooner_sound (N.past_at p) P.sound e = refl
sooner_sound (N.past_at p) (P.faulty w q) e = by (ltb p q) e
  where
    by : (c : Bool) → cond c (P.faulty OverLimit p) (P.faulty w q) ≡ P.sound → P.faulty w q ≡ P.sound
    by true z = faulty_not OverLimit p z
    by false z = z

fault_sound : (m : ℕ) (s : P.Source) (w : World) → N.fault_of m s w ≡ P.sound → s.fault ≡ P.sound
unfolding N.fault_of
fault_sound m s w e =
    let past : N.Past = N.sentences_past (entered_sentences - w.sentences) s.begun in
    sooner_sound past s.fault (sooner_sound (N.names_past m w.identifiers s.declared) (N.sooner past s.fault) e)

pub record Entered (m : ℕ) (s : P.Source) (w v : World) : Type 0 where
  pub fault : s.fault ≡ P.sound
  pub named : World
  pub declared : N.declare_all m [] s.declared w ≡ N.fine named
  pub world : v ≡ N.with_member m s named

pub entered_is : (m : ℕ) (s : P.Source) (w v : World) → N.enter m s w ≡ N.entered v → Entered m s w v
unfolding N.enter
entered_is m s w v e = by (N.fault_of m s w) refl e
  where
    on : (x : N.Declaring) → N.declare_all m [] s.declared w ≡ x → N.entered_as P.sound m s w ≡ N.entered v → s.fault ≡ P.sound → Entered m s w v
    on (N.fine u) q f g = record { fault = g; named = u; declared = q; world = let z : N.entered (N.with_member m s u) ≡ N.entered v = rw q at f in cc }
    on (N.second p) q f g = let z : N.unreadable DeclaredTwice p ≡ N.entered v = rw q at f in let y : ◌≡◌ {A = ℕ} 0 1 = cc in absurd (omega arith)

    by : (x : P.Fault) → N.fault_of m s w ≡ x → N.entered_as x m s w ≡ N.entered v → Entered m s w v
    by (P.faulty y p) q f = let z : ◌≡◌ {A = ℕ} 0 1 = cc in absurd (omega arith)
    by P.sound q f = on (N.declare_all m [] s.declared w) refl f (fault_sound m s w q)

-- the rows of the members: those of the newest, or those that there were
pub rows_by : (m : ℕ) (s : P.Source) (ms : List W.Entered) (n : ℕ) (Q : List P.Row → Type 0) → (m ≡ n → Q s.rows) → ((m ≡ n → ⊥) → Q (rows_in n ms)) → Q (rows_in n (record { member = m; source = s } ∷ ms))
unfolding rows_in
rows_by m s ms n Q h i = when_has Q (eqb m n) (λ _. s.rows) (λ _. rows_in n ms) (λ e. h (eqb-true m n e)) (λ e. i (eqb-false m n e))

by_first : (m : ℕ) (s : P.Source) (ms : List W.Entered) → AllMean s.rows s.declared → AllMean (rows_in m (record { member = m; source = s } ∷ ms)) s.declared
unfolding rows_in
by_first m s ms h = rw (eq-eqb m m refl) h

-- the names of the member lead to its rows
entered_led : (b : ℕ → List ℕ) (m : ℕ) (w v : World) → Placed b w → (x : Entered m (D.read_member mixed (b m)) w v)
    → AllLead (λ n. rows_in n (record { member = m; source = D.read_member mixed (b m) } ∷ w.members)) x.named.identifiers x.named.denotations
entered_led b m w v h x =
    let s : P.Source = D.read_member mixed (b m) in
    let R : ℕ → List P.Row = λ n. rows_in n (record { member = m; source = s } ∷ w.members) in
    let wider : (n : ℕ) → Wider (rows_of n w) (R n) = λ n.
    rows_by m s w.members n (λ (l : List P.Row). Wider (rows_of n w) l) (λ q. subst (λ (k : ℕ). Wider (rows_of k w) s.rows) q (h.read m)) (λ _. kept refl) in
    subst (AllLed R) x.declared
    (declare_led R m [] s.declared w (by_first m s w.members ((member_sound (b m)).names x.fault)) (all_wider (λ n. rows_of n w) R wider w.identifiers w.denotations h.names))

-- and no other member came in
pub entered_grown : (m : ℕ) (s : P.Source) (w v : World) (x : Entered m s w v) → Grown w x.named
entered_grown m s w v x = subst (AllGrown w) x.declared (declare_grown m [] s.declared w)

entered_members : (m : ℕ) (s : P.Source) (w v : World) (x : Entered m s w v) → x.named.members ≡ w.members
entered_members m s w v x = ap (λ (z : World). z.members) (entered_grown m s w v x).tables

pub members_enter : (m : ℕ) (s : P.Source) (w v : World) → N.enter m s w ≡ N.entered v → v.members ≡ record { member = m; source = s } ∷ w.members
members_enter m s w v e =
    let x : Entered m s w v = entered_is m s w v e in
    ap (λ (z : World). z.members) x.world ∙ ap (λ (ms : List W.Entered). record { member = m; source = s } ∷ ms) (entered_members m s w v x)

-- ENTERING keeps it
pub placed_enter : (b : ℕ → List ℕ) (m : ℕ) (w v : World) → Placed b w → N.enter m (D.read_member mixed (b m)) w ≡ N.entered v → Placed b v
placed_enter b m w v h e =
    let s : P.Source = D.read_member mixed (b m) in
    let x : Entered m s w v = entered_is m s w v e in
    let u : World = x.named in
    let same : w.members ≡ u.members = sym (entered_members m s w v x) in
    subst (λ (z : World). Placed b z) (sym x.world)
    (record {
      names = subst (λ (ms : List W.Entered). AllLead (λ n. rows_in n (record { member = m; source = s } ∷ ms)) u.identifiers u.denotations) same (entered_led b m w v h x);
      apart = λ n. rows_by m s u.members n (λ (l : List P.Row). Parted l)
          (λ q r ns t l f. head_distinct m r ns s.declared w ((member_sound (b m)).heads x.fault r ns t l f) (subst IsFine (sym x.declared) tt))
          (λ _. subst (λ (ms : List W.Entered). Parted (rows_in n ms)) same (h.apart n));
      read = λ n. rows_by m s u.members n (λ (l : List P.Row). Wider l (D.read_member mixed (b n)).rows) (λ q. kept (ap (λ (k : ℕ). (D.read_member mixed (b k)).rows) q))
          (λ _. subst (λ (ms : List W.Entered). Wider (rows_in n ms) (D.read_member mixed (b n)).rows) same (h.read n));
    })

-- ---- what a run asks of such a world
lead_size : (R : ℕ → List P.Row) (is : List W.Identifier) (ds : List W.Denotation) → AllLead R is ds → length is ≡ length ds
lead_size R [] [] h = refl
lead_size R [] (d ∷ ds) h = absurd h
lead_size R (i ∷ is) [] h = absurd h
lead_size R (i ∷ is) (d ∷ ds) h = ap suc (lead_size R is ds h.1)

module _ (b : ℕ → List ℕ) (B : World) (h : Placed b B) where
  pub bodies_placed : (a m r : ℕ) (x : Bool) → get_or B.denotations a W.builtin_name ≡ W.entry_of x (W.body_at m r) → IsRow m r B × IsProcedure (row_of (rows_of m B) r).statement
  bodies_placed a m r x e = subst (EntryIn (λ n. rows_of n B)) e (entry_at (λ n. rows_of n B) B.identifiers B.denotations a h.names)

  pub labels_placed : (l : List ℕ) (m k a q r : ℕ) (x : Bool) → W.address_of l (W.procedure_at m k) B ≡ W.address a → get_or B.denotations a W.builtin_name ≡ W.label_at q r x → IsRow m r B
  labels_placed l m k a q r x e f = subst (Leads (λ n. rows_of n B) (W.procedure_at m k)) f (lead_at (λ n. rows_of n B) l (W.procedure_at m k) 0 B.identifiers B.denotations a a h.names e (omega arith))

  -- a label outside procedures
  pub global_placed : (l : List ℕ) (a k r : ℕ) (q : Bool) → W.address_of l W.everyone B ≡ W.address a → get_or B.denotations a W.builtin_name ≡ W.label_at k r q → r < length (rows_of k B)
  global_placed l a k r q e f = subst (Leads (λ n. rows_of n B) W.everyone) f (lead_at (λ n. rows_of n B) l W.everyone 0 B.identifiers B.denotations a a h.names e (omega arith))

  pub few_placed : (m r : ℕ) (ns : List (List ℕ)) (v : ValueType) (ps : List Ev.Parameter) → IsRow m r B → (row_of (rows_of m B) r).statement ≡ P.procedure ns v
      → Ev.parameters (W.procedure_at m r) ns B ≡ Val.gives ps → length ps ≤ length B.identifiers
  few_placed m r ns v ps l e f = few_called (W.procedure_at m r) ns B ps (h.apart m r ns v l e) f

  pub size_placed : length B.identifiers ≡ length B.denotations
  size_placed = lead_size (λ n. rows_of n B) B.identifiers B.denotations h.names

  pub linked_placed : (m : ℕ) → Linked (rows_of m B)
  linked_placed m = by (rows_of m B) (h.read m)
    where
      by : (rs : List P.Row) → Wider rs (D.read_member mixed (b m)).rows → Linked rs
      by rs (none e) = subst Linked (sym e) (record { next = λ n k l f. absurd (omega arith); child = λ n k l f. absurd (omega arith); other = λ n k l f. absurd (omega arith) })
      by rs (kept e) = subst Linked (sym e) (linked_read (b m))

-- ---- what stands in the table
record InTable (s t : List ℕ) (rs : List P.Row) : Type 0 where
  read : rows_from s t 0 (length rs) ≡ rs
  tabled : Tabled t rs
  few : length rs ≤ 2048

none_tabled : (s t : List ℕ) → InTable s t []
unfolding rows_from
none_tabled s t = record {
  read = refl;
  tabled = record {
    kind = λ n l. absurd (omega arith);
    before = λ n g l e. absurd (omega arith);
    level = λ n g l e. absurd (omega arith);
    inner = λ n g l e i. absurd (omega arith);
    shallow = λ g l e. absurd (omega arith);
    typed = λ n ns v l e. absurd (omega arith);
  };
  few = omega arith;
}

in_table : (deck rows : List ℕ) (starts : Starts) (m : ℕ) (rs : List P.Row) → Stored deck rows starts m rs → InTable (body_in deck m) (part_in rows starts m) rs
in_table deck rows starts m rs (nothing e) = subst (InTable (body_in deck m) (part_in rows starts m)) (sym e) (none_tabled (body_in deck m) (part_in rows starts m))
in_table deck rows starts m rs (there e t l) = record { read = e; tabled = t; few = l }

-- ALL OF IT: members that were read in the bodies of the deck, with their rows in the table, and at most 256 names
pub rows_shown : (deck rows : List ℕ) (starts : Starts) (B : World) → ((m : ℕ) → Stored deck rows starts m (rows_of m B)) → Placed (body_in deck) B → length B.identifiers ≤ 256 → RowsShown deck rows starts B
rows_shown deck rows starts B h p few =
    let at : (m : ℕ) → InTable (body_in deck m) (part_in rows starts m) (rows_of m B) = λ m. in_table deck rows starts m (rows_of m B) (h m) in
    record {
      stated = λ m r l. stated_read (body_in deck m) (part_in rows starts m) (length (rows_of m B)) (rows_of m B) (at m).read (at m).tabled r l;
      shown = λ m. shown_read (body_in deck m) (part_in rows starts m) (length (rows_of m B)) (rows_of m B) (at m).read (at m).tabled;
      linked = λ m. linked_placed (body_in deck) B p m;
      few = λ m. (at m).few;
      bodies = λ a m r x e. bodies_placed (body_in deck) B p a m r x e;
      parameters = λ m r ns v ps l e f. omega (arith, few, few_placed (body_in deck) B p m r ns v ps l e f);
      labels = λ l m k a q r x e f. labels_placed (body_in deck) B p l m k a q r x e f;
    }

-- and each row has the names of its statement, its place and its texts
pub rows_written : (deck rows : List ℕ) (starts : Starts) (used : ℕ) (B : World) → Laid deck rows starts used B → (m r : ℕ) → r < length (rows_of m B)
    → Lists (body_in deck m) (row_in (part_in rows starts m) r).content (row_of (rows_of m B) r).statement × Written (row_in (part_in rows starts m) r) (row_of (rows_of m B) r)
rows_written deck rows starts used B h m r l =
    let at : InTable (body_in deck m) (part_in rows starts m) (rows_of m B) = in_table deck rows starts m (rows_of m B) (h.stored m) in (
      lists_read (body_in deck m) (part_in rows starts m) (length (rows_of m B)) (rows_of m B) at.read at.tabled r l,
      written_read (body_in deck m) (part_in rows starts m) (length (rows_of m B)) (rows_of m B) at.read at.tabled r l,
    )
