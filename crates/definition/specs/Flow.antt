-- 01, "Running", as far as members and procedures have it in common: lists of rows, IF, groups, DO, GOTO, assignment.
-- One turn charges one step: a statement begins, or an iterated group is tested again.
use Rattle.std.specs.Prelude.{ℕ, zero, suc, Bool, true, false, cond, ◌&&◌, ◌||◌, List, [], ◌∷◌, ltb, eqb, ℤ, pos}
use Rattle.std.specs.Int.Signed.{le_z, non_neg}
use Rattle.definition.specs.Choice.{when}
use Rattle.definition.specs.Refusal.{Why, wrong_name, no_value, no_step}
use Rattle.definition.specs.Fixed as Fixed
use Rattle.definition.specs.Expressions.{Tree}
use Rattle.definition.specs.Program.{Type', fixed_type, character_type, Bound, by, upto, Statement, null, declare, procedure, assign, conditional, group, iterated, goto, include, activate, deactivate, return, of_procedure, is_iterated, Link, nowhere, row, Role, listed, then_part, else_part, Stretch, Row}
use Rattle.definition.specs.Values.{Value, fixed, from_fixed, to_fixed, convert, holds, as_number}
use Rattle.definition.specs.Evaluate.{put}
use Rattle.definition.specs.World as W
use Rattle.definition.specs.World.{Owner, Denotation, variable_of, entry_of, label_at, builtin_name, Cell, Address, address, unknown, World, Res, good, bad, bind, placed, ask, charge, seen_from, denotation, value_at, store, row_of}

-- ---- where control goes
-- a label of another member: its member and row, and whether it is that of the row's END
pub record Target : Type 0 where
  pub member : ℕ
  pub row : ℕ
  pub is_end : Bool

-- a GOTO leads to a row, to the END of a row, or out of what is running
pub data Jump : Type 0 where
  to_row : ℕ → Jump
  to_end : ℕ → Jump
  away : Target → Jump

-- what a statement does that is no control: it is passed, RETURN gave a value, or a GOTO came out of it
pub data Deed : Type 0 where
  passed : Deed
  gave : Value → Deed
  jumps : Jump → Deed

-- what begins next: a statement, another test of an iterated group, or nothing
pub data Next : Type 0 where
  begin : ℕ → Next
  again : ℕ → Next
  no_next : Next

-- how rows have ended: their list was done, RETURN gave a value, GOTO led away
pub data End : Type 0 where
  ran : End
  returned : Value → End
  went : Target → End

-- TO of an iterated group
pub data To : Type 0 where
  no_to : To
  to_at : ℤ → To

-- an iterated group that was entered
pub record Frame : Type 0 where
  -- its row
  pub group : ℕ
  -- the address of its variable
  pub at : ℕ
  -- BY
  pub step : ℤ
  pub to : To
  -- without BY and TO there is one pass and no step
  pub is_once : Bool

-- what is running, a member or a procedure
pub record Machine (E : Type 0) : Type 0 where
  pub rows : List Row
  -- the scope that its names are seen from
  pub owner : Owner
  -- a refusal in a row, with its place
  pub fault : Row → Why → E
  -- the value of an expression
  pub value : Tree → World → Res Why Value
  -- the bytes of the unfinished values that wait for it
  pub waiting : ℕ
  -- what is put out for a text: a blank, and the text scanned
  pub out : Stretch → World → Res E (Unit {0})
  -- what the statement of a row does that is no control
  pub act : ℕ → World → Res E Deed
  -- where GOTO leads from a row to a label
  pub jump : ℕ → List ℕ → World → Res E Jump

-- a turn goes on, or ends what is running
pub data Turn : Type 0 where
  on : Next → List Frame → Turn
  ended : End → Turn

-- ---- frames: the newest of a group counts
unfoldable pub is_once : ℕ → List Frame → Bool
is_once g [] = true
is_once g (f ∷ fs) = when (eqb f.group g) (λ _. f.is_once) (λ _. is_once g fs)

-- "Each pass is tested first: it ends over TO, under TO if BY is negative, never without TO."
abbrev pub within : To → ℤ → ℤ → Bool
within no_to step z = true
within (to_at t) step z = cond (non_neg step) (le_z z t) (le_z t z)

abbrev pub passes : Frame → ℤ → Bool
passes f z = within f.to f.step z

pub record Started : Type 0 where
  pub frame : Frame
  pub begins : Bool

module _ {E : Type 0} (M : Machine E) where
  abbrev pub at : ℕ → Row
  at n = row_of M.rows n

  -- ---- behind a statement
  -- the end of what stands in the row g: a procedure ends; a pass of an iterated group is over; else the row itself is
  abbrev pub end_in : Statement → ℕ → List Frame → (Unit {0} → Res E Next) → World → Res E Next
  end_in x g fs up w =
      of_procedure x (λ ns t. good no_next w)
      (λ _. when (is_iterated x) (λ _. when (is_once g fs) up (λ _. good (again g) w)) up)

  -- the next of a list, or the end of what the list stands in; `up` goes on behind the parent
  abbrev pub next_in : Link → Link → List Frame → (ℕ → World → Res E Next) → World → Res E Next
  next_in (row m) p fs up w = good (begin m) w
  next_in nowhere nowhere fs up w = good no_next w
  next_in nowhere (row g) fs up w = end_in (at g).statement g fs (λ _. up g w) w

  abbrev pub up_from : Link → (ℕ → World → Res E Next) → World → Res E Next
  up_from nowhere up w = good no_next w
  up_from (row g) up w = up g w

  abbrev pub behind_as : Role → ℕ → List Frame → (ℕ → World → Res E Next) → World → Res E Next
  behind_as listed n fs up w = bind (M.out (at n).text w) λ _ v. next_in (at n).next (at n).parent fs up v
  behind_as then_part n fs up w = up_from (at n).parent up w
  behind_as else_part n fs up w = up_from (at n).parent up w

  -- "After the sentence comes one blank, then its text is scanned, even if empty. No blank goes before a THEN or ELSE
  -- alternative": behind an alternative comes what is behind its IF. A parent comes before its rows, so the row's
  -- number is more than the turns, and they do not run out
  unfoldable pub behind_on : List Frame → ℕ → ℕ → World → Res E Next
  behind_on fs zero n w = good no_next w
  behind_on fs (suc f) n w = behind_as (at n).role n fs (λ g v. behind_on fs f g v) w

  abbrev pub behind : List Frame → ℕ → World → Res E Next
  behind fs n w = behind_on fs (suc n) n w

  -- the end of the list in row g
  abbrev pub end_of : List Frame → ℕ → World → Res E Next
  end_of fs g w = end_in (at g).statement g fs (λ _. behind fs g w) w

  -- ---- into a group: "a non-empty leading text is a part alone, an empty one is none"
  unfoldable pub lead_out : Stretch → World → Res E (Unit {0})
  lead_out s w = when (ltb s.from s.to) (λ _. M.out s w) (λ _. good tt w)

  abbrev pub first_in : Link → ℕ → List Frame → World → Res E Next
  first_in (row m) g fs w = good (begin m) w
  first_in nowhere g fs w = end_of fs g w

  unfoldable pub into : List Frame → ℕ → World → Res E Next
  into fs g w = bind (lead_out (at g).lead w) λ _ v. first_in (at g).child g fs v

  -- ---- statements. A refusal in a row has the row's place
  abbrev pub in_row : {A : Type 0} → ℕ → Res Why A → Res E A
  in_row n r = placed (M.fault (at n)) r

  -- "a target is tested before its expression"
  abbrev pub target_as : Denotation → ℕ → (ℕ → Type' → Res Why (Unit {0})) → World → Res Why (Unit {0})
  target_as (variable_of t) a f w = f a t
  target_as (entry_of e b) a f w = bad wrong_name w.used
  target_as (label_at m r x) a f w = bad wrong_name w.used
  target_as builtin_name a f w = bad wrong_name w.used

  abbrev pub target_at : Address → (ℕ → Type' → Res Why (Unit {0})) → World → Res Why (Unit {0})
  target_at (address a) f w = target_as (denotation a w) a f w
  target_at unknown f w = bad wrong_name w.used

  unfoldable pub assigned : List ℕ → Tree → World → Res Why (Unit {0})
  assigned n x w =
      target_at (seen_from M.owner n w)
      (λ a t. bind (M.value x w) λ v y. bind (put M.waiting (convert t v) y) λ c z. good tt (store a c z)) w

  unfoldable pub truth : Tree → World → Res Why Bool
  truth x w = bind (M.value x w) λ v y. ask (holds M.waiting v) y

  -- ---- DO: "evaluates and converts start, then BY and TO as written, once each and each before the next, and then
  -- sets the variable. BY absent is 1. The control variable is FIXED, else 6"
  unfoldable pub number : Tree → World → Res Why ℤ
  number x w = bind (M.value x w) λ v y. ask (to_fixed v) y

  abbrev pub bounded : Bound → Frame → World → Res Why Frame
  bounded (by x) f w =
      bind (number x w) λ z y. good (record { group = f.group; at = f.at; step = z; to = f.to; is_once = false }) y
  bounded (upto x) f w =
      bind (number x w) λ z y.
      good (record { group = f.group; at = f.at; step = f.step; to = to_at z; is_once = false }) y

  unfoldable pub bounds : List Bound → Frame → World → Res Why Frame
  bounds [] f w = good f w
  bounds (b ∷ bs) f w = bind (bounded b f w) λ g y. bounds bs g y

  abbrev pub start_as : Type' → ℕ → ℕ → Tree → List Bound → World → Res Why Started
  start_as character_type g a x bs w = bad wrong_name w.used
  start_as fixed_type g a x bs w = bind (number x w) λ z y.
      bind (bounds bs (record { group = g; at = a; step = pos 1; to = no_to; is_once = true }) y) λ f v.
      good (record { frame = f; begins = passes f z }) (store a (fixed z) v)

  abbrev pub start_in : Denotation → ℕ → ℕ → Tree → List Bound → World → Res Why Started
  start_in (variable_of t) a g x bs w = start_as t g a x bs w
  start_in (entry_of e b) a g x bs w = bad wrong_name w.used
  start_in (label_at m r q) a g x bs w = bad wrong_name w.used
  start_in builtin_name a g x bs w = bad wrong_name w.used

  abbrev pub start_at : Address → ℕ → Tree → List Bound → World → Res Why Started
  start_at (address a) g x bs w = start_in (denotation a w) a g x bs w
  start_at unknown g x bs w = bad wrong_name w.used

  -- "the variable as the body left it is stepped (9), then the step of the test is charged (18), then tested". A group
  -- that is tested again has its frame, and its variable has a value: no other case is met
  abbrev pub frame_of : ℕ → List Frame → (Frame → Res Why Bool) → World → Res Why Bool
  frame_of g [] f w = good false w
  frame_of g (x ∷ xs) f w = when (eqb x.group g) (λ _. f x) (λ _. frame_of g xs f w)

  abbrev pub number_at : Cell → World → (ℤ → Res Why Bool) → Res Why Bool
  number_at W.no_value w f = bad no_value w.used
  number_at (W.holds v) w f = f (as_number v)

  unfoldable pub stepped : ℕ → List Frame → World → Res Why Bool
  stepped g fs w = frame_of g fs (λ f. number_at (value_at f.at w) w λ z.
      bind (ask (from_fixed (Fixed.sum z f.step)) w) λ y v.
      bind (charge (store f.at (fixed y) v)) λ _ x. good (passes f y) x) w

  -- ---- GOTO
  abbrev pub follow : Jump → List Frame → World → Res E Turn
  follow (to_row m) fs w = good (on (begin m) fs) w
  follow (to_end g) fs w = bind (end_of fs g w) λ x v. good (on x fs) v
  follow (away t) fs w = good (ended (went t)) w

  abbrev pub done : Deed → List Frame → ℕ → World → Res E Turn
  done passed fs n w = bind (behind fs n w) λ x v. good (on x fs) v
  done (gave v) fs n w = good (ended (returned v)) w
  done (jumps j) fs n w = follow j fs w

  -- ---- one statement, whose step is charged
  abbrev pub onward : List Frame → Res E Next → Res E Turn
  onward fs r = bind r λ x v. good (on x fs) v

  abbrev pub alternative_of : Bool → ℕ → Link
  alternative_of true n = (at n).child
  alternative_of false n = (at n).other

  abbrev pub chosen : Link → List Frame → ℕ → World → Res E Turn
  chosen (row m) fs n w = good (on (begin m) fs) w
  chosen nowhere fs n w = onward fs (behind fs n w)

  unfoldable pub statement : Statement → List Frame → ℕ → World → Res E Turn
  statement null fs n w = onward fs (behind fs n w)
  statement (declare ns) fs n w = bind (M.act n w) λ d v. done d fs n v
  statement (procedure ns t) fs n w = onward fs (behind fs n w)
  statement (assign t x) fs n w = bind (in_row n (assigned t x w)) λ _ v. onward fs (behind fs n v)
  statement (conditional x) fs n w = bind (in_row n (truth x w)) λ b v. chosen (alternative_of b n) fs n v
  statement group fs n w = onward fs (into fs n w)
  statement (iterated t x bs) fs n w = bind (in_row n (start_at (seen_from M.owner t w) n x bs w)) λ s v.
      when s.begins (λ _. onward (s.frame ∷ fs) (into (s.frame ∷ fs) n v)) (λ _. onward fs (behind fs n v))
  statement (goto t) fs n w = bind (M.jump n t w) λ j v. follow j fs v
  statement (include ns) fs n w = bind (M.act n w) λ d v. done d fs n v
  statement (activate ns) fs n w = bind (M.act n w) λ d v. done d fs n v
  statement (deactivate ns) fs n w = bind (M.act n w) λ d v. done d fs n v
  statement (return x) fs n w = bind (M.act n w) λ d v. done d fs n v

  -- ---- turns
  unfoldable pub turn : Next → List Frame → World → Res E Turn
  turn (begin n) fs w = bind (in_row n (charge w)) λ _ v. statement (at n).statement fs n v
  turn (again g) fs w = bind (in_row g (stepped g fs w)) λ b v.
      when b (λ _. onward fs (into fs g v)) (λ _. onward fs (behind fs g v))
  turn no_next fs w = good (ended ran) w

  abbrev pub continued : Res E Turn → (Next → List Frame → World → Res E End) → Res E End
  continued (good (on x fs) w) f = f x fs w
  continued (good (ended e) w) f = good e w
  continued (bad e u) f = bad e u

  -- the steps left are enough turns, since each charges one; with none left a turn still tests what comes before its
  -- charge
  unfoldable pub run_on : ℕ → Next → List Frame → World → Res E End
  run_on zero (begin n) fs w = bad (M.fault (at n) no_step) w.used
  run_on zero (again g) fs w = continued (turn (again g) fs w) (λ x gs v. bad (M.fault (at g) no_step) v.used)
  run_on zero no_next fs w = good ran w
  run_on (suc f) (begin n) fs w = continued (turn (begin n) fs w) (λ x gs v. run_on f x gs v)
  run_on (suc f) (again g) fs w = continued (turn (again g) fs w) (λ x gs v. run_on f x gs v)
  run_on (suc f) no_next fs w = good ran w

-- ---- GOTO: "It may not enter an iterated group": each iterated group around the target is around where the run stands
-- the iterated groups from a row upwards, itself among them
abbrev pub groups_up : Link → (ℕ → List ℕ) → List ℕ
groups_up nowhere f = []
groups_up (row g) f = f g

unfoldable pub groups_from : List Row → ℕ → ℕ → List ℕ
groups_from rs zero n = []
groups_from rs (suc f) n =
    let above = groups_up (row_of rs n).parent (λ g. groups_from rs f g) in
    cond (is_iterated (row_of rs n).statement) (n ∷ above) above

abbrev pub groups_around : List Row → Link → List ℕ
groups_around rs p = groups_up p (λ g. groups_from rs (suc g) g)

unfoldable pub is_in : ℕ → List ℕ → Bool
is_in x [] = false
is_in x (y ∷ ys) = eqb x y || is_in x ys

unfoldable pub are_in : List ℕ → List ℕ → Bool
are_in [] ys = true
are_in (x ∷ xs) ys = is_in x ys && are_in xs ys

-- the groups around a label of row r, or of its END
abbrev pub around_label : List Row → ℕ → Bool → List ℕ
around_label rs r true = groups_from rs (suc r) r
around_label rs r false = groups_around rs (row_of rs r).parent

-- whether GOTO may lead from row n to a label of row r
unfoldable pub may_go : List Row → ℕ → ℕ → Bool → Bool
may_go rs n r is_end = are_in (around_label rs r is_end) (groups_around rs (row_of rs n).parent)
