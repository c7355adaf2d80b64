-- NO TURN of a member gives steps back, and one that goes on takes a step: a statement's is charged before it, a test's after the sum.
-- Assumes nothing.
use Prim.Native.Nat.{ℕ, zero, suc, ◌+◌}
use native.Mathlib.Omega.{arith}
use mathlib.Core.Bool.{Bool, true, false, cond}
use mathlib.Core.List.{List, [], ◌∷◌}
use mathlib.Core.Path.{◌≡◌, refl, subst}
use borrow.Author.Tests.{ltb-true}
use lib.Dec.{ltb}
use lib.IntN.{ℤ}
use Rattle.definition.specs.Bytes.{mixed}
use Rattle.definition.specs.Choice.{when}
use Rattle.definition.specs.Limits.{running_procedures}
use Rattle.definition.specs.Deck as Deck
use Rattle.definition.specs.Fixed as Fixed
use Rattle.definition.specs.Steps.{is_left, used_after}
use Rattle.definition.specs.Program.{Statement, null, declare, procedure, assign, conditional, group, iterated, goto, include, activate, deactivate, return, Stretch, Row, Activation}
use Rattle.definition.specs.Reading.{read_member}
use Rattle.definition.specs.Expressions.{Tree}
use Rattle.definition.specs.Values as Val
use Rattle.definition.specs.World as W
use Rattle.definition.specs.World.{Denotation, variable_of, entry_of, label_at, builtin_name, Address, address, unknown, Activity, inactive, rescanned, World, Res, good, bad, bind, ask, placed, charge, row_of}
use Rattle.definition.specs.Flow as F
use Rattle.definition.specs.Calls.{Place, call_out}
use Rattle.definition.specs.Run.{Stop, body_of, activated, activate_at, activate_all, activations, jump_away, jump_label, jump_by, jump_from, no_level, level, act_as, member_machine, run_member, text_out, include_all}
use Rattle.definition.specs.declared.Why.{Why}
use Rattle.definition.specs.declared.Why.TheVariants.{NoStep}
use Rattle.definition.proofs.Keeping.{Any, OfDeed, OfTurn, Laws, Leaves, leaves, leaves_it, passes, halt, bind_leaves, bind_any, placed_leaves, when_leaves, keeping, evaluate_leaves, behind_leaves, into_leaves, statement_leaves, calls_leaves}
use Rattle.definition.proofs.Texts.{TextOf, behind, leading}
use Rattle.definition.proofs.Members.{text_out_lem, include_all_lem, member_leaves}
use Rattle.definition.proofs.Thrift.{Spent, Kept, thrift}
use Rattle.flow.specs.Shown.{Newest, number_of, stepped_on}
use Rattle.flow.proofs.Framing.{stepped_own}
use Rattle.operands.proofs.Trees.{clash}
use Rattle.stepping.specs.Stage.{machine_of}
use Rattle.running.specs.Included.{level_of}

-- ---- the parts of a member keep the meter from `least` to `limit`
module _ (least limit : ℕ) (d : List ℕ) where
  abbrev laws : Laws (Kept least limit) Any (Spent least limit)
  laws = thrift least limit

  texts : (m : ℕ) (x : Stretch) (w : World) → TextOf (read_member mixed (body_of d m)) x → Kept least limit w → Leaves laws Any (text_out mixed m (body_of d m) x w)
  texts = text_out_lem laws d (λ e _ n v _ k. record { same = k.same; spent = k.spent })

  -- ACTIVATE, DEACTIVATE, DECLARE
  activated_leaves : (e : Denotation) (x : Activity) (a : ℕ) {w : World} → Kept least limit w → Leaves laws Any (activated e x a w)
  activated_leaves (variable_of t) x a h = passes laws (record { same = h.same; spent = h.spent })
  activated_leaves (entry_of e b) x a h = passes laws (record { same = h.same; spent = h.spent })
  activated_leaves (label_at m r q) x a h = halt laws h
  activated_leaves builtin_name x a h = halt laws h

  activate_at_lem : (y : Address) (x : Activity) {w : World} → Kept least limit w → Leaves laws Any (activate_at y x w)
  activate_at_lem (address a) x h = search activated_leaves
  activate_at_lem unknown x h = halt laws h

  activate_all_lem : (x : Activity) (ns : List (List ℕ)) (w : World) → Kept least limit w → Leaves laws Any (activate_all x ns w)
  unfolding activate_all
  activate_all_lem x [] w h = passes laws h
  activate_all_lem x (n ∷ ns) w h = search (keeping, activate_at_lem, activate_all_lem x ns)

  activations_leaves : (xs : List Activation) (w : World) → Kept least limit w → Leaves laws Any (activations xs w)
  unfolding activations
  activations_leaves [] w h = passes laws h
  activations_leaves (x ∷ xs) w h = search (keeping, activate_at_lem, activations_leaves xs)

  -- GOTO
  jump_away_lem : (ps : List Place) (m r : ℕ) (is_end : Bool) {w : World} → Kept least limit w → Leaves laws Any (jump_away ps m r is_end w)
  unfolding jump_away
  jump_away_lem [] m r is_end h = halt laws h
  jump_away_lem (p ∷ ps) m r is_end h = search (keeping, jump_away_lem ps m r)

  jump_by_lem : (e : Denotation) (here : ℕ) (rs : List Row) (ps : List Place) (n : ℕ) {w : World} → Kept least limit w → Leaves laws Any (jump_by e here rs ps n w)
  unfolding jump_label
  jump_by_lem (variable_of t) here rs ps n h = halt laws h
  jump_by_lem (entry_of e b) here rs ps n h = halt laws h
  jump_by_lem (label_at m r is_end) here rs ps n h = search (keeping, jump_away_lem)
  jump_by_lem builtin_name here rs ps n h = halt laws h

  jump_from_lem : (x : Address) (here : ℕ) (rs : List Row) (ps : List Place) (n : ℕ) {w : World} → Kept least limit w → Leaves laws Any (jump_from x here rs ps n w)
  jump_from_lem (address a) here rs ps n h = search jump_by_lem
  jump_from_lem unknown here rs ps n h = halt laws h

  -- INCLUDE, with so many levels left
  include_leaves : (n : ℕ) (p m r : ℕ) (ps : List Place) (xs : List Deck.Sought) {w : World} → Kept least limit w → Leaves laws (OfDeed Any) (include_all mixed (level_of n d) d p m r ps xs w)
  include_leaves zero p m r ps xs {w} h = include_all_lem laws d texts no_level tt p m r ps xs w h
  include_leaves (suc n) p m r ps xs {w} h = include_all_lem laws d texts (level (run_member mixed n d)) (member_leaves laws d texts n) p m r ps xs w h

  act_as_lem : (s : Statement) (n p m r : ℕ) (ps : List Place) {w : World} → Kept least limit w → Leaves laws (OfDeed Any) (act_as mixed s (level_of n d) d p m r ps w)
  act_as_lem null n p m r ps h = leaves tt h
  act_as_lem (declare ns) n p m r ps {w} h = placed_leaves laws _ (bind_leaves laws (activate_all_lem rescanned ns w h) λ _ v _ k. leaves tt k)
  act_as_lem (procedure ns t) n p m r ps h = leaves tt h
  act_as_lem (assign t x) n p m r ps h = leaves tt h
  act_as_lem (conditional x) n p m r ps h = leaves tt h
  act_as_lem group n p m r ps h = leaves tt h
  act_as_lem (iterated t x bs) n p m r ps h = leaves tt h
  act_as_lem (goto t) n p m r ps h = leaves tt h
  act_as_lem (include ns) n p m r ps h = include_leaves n p m r ps ns h
  act_as_lem (activate xs) n p m r ps {w} h = placed_leaves laws _ (bind_leaves laws (activations_leaves xs w h) λ _ v _ k. leaves tt k)
  act_as_lem (deactivate ns) n p m r ps {w} h = placed_leaves laws _ (bind_leaves laws (activate_all_lem inactive ns w h) λ _ v _ k. leaves tt k)
  act_as_lem (return x) n p m r ps h = leaves tt h

  -- ---- the machine of member m, with n levels left
  module _ (n m : ℕ) (on : List Place) where
    abbrev machine : F.Machine Stop
    machine = machine_of (level_of n d) d m on

    values : (x : Tree) (v : World) → Kept least limit v → Leaves laws Any (machine.value x v)
    unfolding member_machine
    values x v k = evaluate_leaves laws call_out (calls_leaves laws running_procedures []) W.everyone x 0 v k

    outs : (x : Stretch) (v : World) → TextOf (read_member mixed (body_of d m)) x → Kept least limit v → Leaves laws Any (machine.out x v)
    unfolding member_machine
    outs x v k h = texts m x v k h

    acts : (r : ℕ) (v : World) → Kept least limit v → Leaves laws (OfDeed Any) (machine.act r v)
    unfolding member_machine
    acts r v k = act_as_lem (row_of (read_member mixed (body_of d m)).rows r).statement n _ m r on k

    jumps : (r : ℕ) (t : List ℕ) (v : World) → Kept least limit v → Leaves laws Any (machine.jump r t v)
    unfolding member_machine
    jumps r t v k = placed_leaves laws _ (jump_from_lem (W.address_of t W.everyone v) m (read_member mixed (body_of d m)).rows on r k)

    texts_of : (r : ℕ) → TextOf (read_member mixed (body_of d m)) (row_of machine.rows r).text
    unfolding member_machine
    texts_of r = behind r

    leads_of : (r : ℕ) → TextOf (read_member mixed (body_of d m)) (row_of machine.rows r).lead
    unfolding member_machine
    leads_of r = leading r

    -- a statement, and what comes behind a test
    statement_left : (s : Statement) (G : List F.Frame) (r : ℕ) {w : World} → Kept least limit w → Leaves laws (OfTurn Any) (F.statement machine s G r w)
    statement_left s G r h = statement_leaves laws machine (TextOf (read_member mixed (body_of d m))) texts_of leads_of values outs acts jumps s G r h

    tested_left : (b : Bool) (G : List F.Frame) (g : ℕ) {w : World} → Kept least limit w → Leaves laws Any (when b (λ _. F.onward machine G (F.into machine G g w)) (λ _. F.onward machine G (F.behind machine G g w)))
    tested_left b G g {w} h =
        when_leaves laws b _ _ (bind_any laws (into_leaves laws machine (TextOf (read_member mixed (body_of d m))) texts_of leads_of values outs acts jumps G g h) λ x v k. passes laws k)
        (bind_any laws (behind_leaves laws machine (TextOf (read_member mixed (body_of d m))) texts_of leads_of values outs acts jumps G (suc g) g w h) λ x v k. passes laws k)

    pub statement_keeps : (s : Statement) (G : List F.Frame) (r : ℕ) (w : World) → Kept least limit w → (a : F.Turn) (v : World) → F.statement machine s G r w ≡ good a v → Kept least limit v
    statement_keeps s G r w h a v e = (leaves_it laws (statement_left s G r h) e).1

    tested_keeps : (b : Bool) (G : List F.Frame) (g : ℕ) (w : World) → Kept least limit w → (a : F.Turn) (v : World) → when b (λ _. F.onward machine G (F.into machine G g w)) (λ _. F.onward machine G (F.behind machine G g w)) ≡ good a v → Kept least limit v
    tested_keeps b G g w h a v e = (leaves_it laws (tested_left b G g h) e).1

-- ---- a step that is charged: the meter stands from one more on
abbrev pub Advanced : World → World → Type 0
Advanced w v = Kept (suc w.used) w.limit v

charge_advances : (w v : World) → charge w ≡ good tt v → Advanced w v
unfolding charge is_left used_after
charge_advances w v e = by (ltb w.used w.limit) refl e
  where
    by : (t : Bool) → ltb w.used w.limit ≡ t → ◌≡◌ {A = Res Why (Unit {0})} (when t (λ _. good tt (W.with_used (cond t (w.used + 1) w.used) w)) (λ _. bad NoStep w.used)) (good tt v) → Advanced w v
    by true l f =
        let z : W.with_used (w.used + 1) w ≡ v = cc in
        subst (Advanced w) z (record { same = refl; spent = omega (arith, ltb-true w.used w.limit l) })
    by false l f = clash (cc)

stepped_advances : (x : F.Frame) (w v : World) (b : Bool) → stepped_on x w ≡ good b v → Advanced w v
unfolding stepped_on
stepped_advances x w v b e = by (W.value_at x.at w) e
  where
    charged : (y : ℤ) (R : Res Why (Unit {0})) → charge (W.store x.at (Val.fixed y) w) ≡ R → bind R (λ _ u. good (F.passes x y) u) ≡ good b v → Advanced w v
    charged y (good tt z) q f =
        let g : z ≡ v = cc in
        subst (Advanced w) g (charge_advances (W.store x.at (Val.fixed y) w) z q)
    charged y (bad g n) q f = clash (cc)

    added : (A : Val.Answer ℤ) → bind (ask A w) (λ y u. bind (charge (W.store x.at (Val.fixed y) u)) (λ _ z. good (F.passes x y) z)) ≡ good b v → Advanced w v
    added (Val.gives y) f = charged y (charge (W.store x.at (Val.fixed y) w)) refl f
    added (Val.fails g) f = clash (cc)

    by : (a : W.Cell) → number_of a w (λ z. bind (ask (Val.from_fixed (Fixed.sum z x.step)) w) (λ y u. bind (charge (W.store x.at (Val.fixed y) u)) (λ _ z. good (F.passes x y) z))) ≡ good b v → Advanced w v
    by W.no_value f = clash (cc)
    by (W.holds a) f = added (Val.from_fixed (Fixed.sum (Val.as_number a) x.step)) f

-- ---- A TURN of member m
module _ (d : List ℕ) (n m : ℕ) (on : List Place) where
  abbrev member : F.Machine Stop
  member = machine_of (level_of n d) d m on

  pub begin_advances : (k : ℕ) (G : List F.Frame) (w : World) (a : F.Turn) (v : World) → F.turn member (F.begin k) G w ≡ good a v → Advanced w v
  unfolding F.turn
  begin_advances k G w a v e = by (charge w) refl e
    where
      by : (R : Res Why (Unit {0})) → charge w ≡ R → bind (placed (member.fault (row_of member.rows k)) R) (λ _ z. F.statement member (row_of member.rows k).statement G k z) ≡ good a v → Advanced w v
      by (bad f i) q g = clash (cc)
      by (good tt z) q g = statement_keeps (suc w.used) w.limit d n m on (row_of member.rows k).statement G k z (charge_advances w z q) a v g

  -- the group that is tested again has its frame
  pub again_advances : (g : ℕ) (x : F.Frame) (G : List F.Frame) (w : World) → Newest g x G → (a : F.Turn) (v : World) → F.turn member (F.again g) G w ≡ good a v → Advanced w v
  unfolding F.turn
  again_advances g x G w own a v e = by (stepped_on x w) refl (rw (stepped_own member g x G w own) at e)
    where
      by : (R : Res Why Bool) → stepped_on x w ≡ R
          → bind (placed (member.fault (row_of member.rows g)) R) (λ b z. when b (λ _. F.onward member G (F.into member G g z)) (λ _. F.onward member G (F.behind member G g z))) ≡ good a v → Advanced w v
      by (bad f i) q k = clash (cc)
      by (good b z) q k = tested_keeps (suc w.used) w.limit d n m on b G g z (stepped_advances x w z b q) a v k
