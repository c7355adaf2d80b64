-- Why a run stops, and where: for one of 3 to 19, at a place in the body of a member, at most behind its last byte. So 1 is given for
-- a malformed deck alone, 20 for a body that is no whole number of records alone, and 2 for a short working room alone.
-- Assumes nothing.
use Prim.Native.Nat.{ℕ, zero, suc, ◌+◌, ◌*◌, ◌-◌, ◌/◌, ◌%◌, ◌<◌, ◌≤◌}
use native.Mathlib.Omega.{arith}
use mathlib.Core.Bool.{Bool, true, false, cond, ◌&&◌, ◌||◌}
use mathlib.Core.List.{List, [], ◌∷◌}
use mathlib.Core.Path.{◌≡◌, refl, subst}
use lib.Dec.{leb, ltb, eqb}
use lib.IntN.{ℤ}
use lib.ListN.{length}
use borrow.Author.Tests.{leb-false, eqb-true, eqb-false}
use Rattle.definition.specs.declared.Why.{Why}
use Rattle.definition.specs.declared.Why.TheVariants as Y
use Rattle.definition.specs.declared.Layout.{Layout}
use Rattle.definition.specs.declared.Layout.TheVariants.{Plain as plain, Cards as cards}
use Rattle.definition.specs.declared.ValueType.{ValueType}
use Rattle.definition.specs.declared.ValueType.TheVariants.{FixedType, CharacterType}
use Rattle.definition.specs.Bytes.{mixed}
use Rattle.definition.specs.Steps.{is_left}
use Rattle.definition.specs.Limits.{value_length, unfinished_bytes, running_procedures, replacement_levels, include_levels, declared_names, entered_sentences}
use Rattle.definition.specs.Fixed as Fixed
use Rattle.definition.specs.Expressions.{Tree, integer_of, string_of, bits_of, reference, call, unary, binary, none, more}
use Rattle.definition.specs.Program.{Bound, by, upto, Activation, Statement, null, declare, procedure, assign, conditional, group, iterated, goto, include, activate, deactivate, return, is_iterated, Link, nowhere, row, Role, listed, then_part, else_part, Stretch, Row, Declared, Fault, sound, faulty, Source}
use Rattle.definition.specs.Values.{Value, fixed, characters, Answer, size_of, as_number}
use Rattle.definition.specs.World as W
use Rattle.definition.specs.World.{Owner, Denotation, variable_of, entry_of, label_at, builtin_name, Address, address, unknown, Cell, Activity, inactive, rescanned, copied_only, Pass, World, Res, good, bad, bind, placed, ask, charge, seen_from, value_at, store, address_of, denotation, row_of, rows_of}
use Rattle.definition.specs.Evaluate as Evaluate
use Rattle.definition.specs.Evaluate.{Meant, a_variable, an_entry, the_substr, no_such, meant, Parameter, Callee, Wish, count, Call, put, read_cell, plain_name, listed_name, evaluate}
use Rattle.definition.specs.Flow.{Jump, to_row, to_end, away, Deed, passed, gave, jumps, Next, begin, again, no_next, End, ran, returned, went, Frame, Machine, Turn, on, ended, is_once, end_in, next_in, up_from, behind_as, behind_on, behind, end_of, lead_out, first_in, into, in_row, target_as, target_at, assigned, truth, number, bounded, bounds, start_as, start_in, start_at, frame_of, number_at, stepped, follow, done, onward, alternative_of, chosen, statement, turn, continued, run_on, may_go}
use Rattle.definition.specs.Calls.{Place, is_running, act_in, jump_local, jump_global, jump_out, jump_in, body_machine, value_of, body_run, calls, call_out}
use Rattle.definition.specs.Lists.{part}
use Rattle.definition.specs.Events.{Event, bytes_in}
use Rattle.definition.specs.Tokens.{piece_at}
use Rattle.definition.specs.Scan.{Into, to_text, to_work, fits, full, Scanner, outcome, Argument, Arguments, list_up_to, no_list, list_at, scan_arguments, Replacer, up_to, call_with, with_list, replace_entry, replace_cell, replace_as, Active, not_active, active, active_in, token, scan_on, scan_with, replacer}
use Rattle.definition.specs.Deck as Deck
use Rattle.definition.specs.Deck.{is_sound}
use Rattle.definition.specs.Cards.{uneven, uneven_in, joined, given}
use Rattle.definition.specs.Reading.{places, read_member}
use Rattle.definition.specs.Names as Names
use Rattle.definition.specs.Names.{New, new, listing, new_of, Joint, joint, twice, joint_of, set_denotation, declared_at, is_listed, identifier_of, declare_one, is_parameter, Past, within, past_at, names_past, sentences_past, sooner, fault_of, Declaring, fine, second, declare_all, Entering, entered, unreadable, with_member, entered_as, enter}
use Rattle.definition.specs.Run as R
use Rattle.definition.specs.Run.{Stop, body_of, put_out, copy_here, replace_here, token_here, text_on, text_out, activated, activate_at, activate_all, activations, jump_away, jump_label, jump_by, jump_from, Inner, Level, no_level, level, came_out, include_entered, include_at, include_all, act_as, member_machine, run_source, run_member}
use Rattle.definition.specs.Refusal.{number_of}
use Rattle.definition.specs.Expansion.{Expansion, finished, result, run_main, world_for, size_in, expansion_of}
use Rattle.definition.proofs.Choices.{when_has, cond_has}
use Rattle.definition.proofs.Expanding.{ran_deck, ran_in, told_as, ran_sound, malformed_is, each_way}
use Rattle.definition.proofs.Joined.{count_joined, size_joined, length_body}
use Rattle.definition.proofs.Parts.{length_part}
use Rattle.showing.proofs.Stretches.{Ordered, text_ordered, lead_ordered, member_ordered}
use Rattle.showing.proofs.Bodies.{find_low, main_low, lined}
use Rattle.stops.proofs.Reasons.{Late, choice, pick, In, AllIn, Declares, FaultIn, Read, member_read}
use Rattle.stops.proofs.Answering.{Tells, told, failed, then_tells, from_fixed_lem, constant_tells, to_fixed_lem, convert_tells, limited_tells, unfinished_tells, holds_tells, infixed_tells, prefixed_tells, substr_tells, callee_tells, wished_tells}

-- ---- parts of a run: something, or a refusal that is `Ok`
pub data Ends {E A : Type 0} (Ok : E → Type 0) : Res E A → Type 0 where
  well : {a : A} {w : World} → Ends Ok (good a w)
  stops : {e : E} {u : ℕ} → Ok e → Ends Ok (bad e u)

abbrev Fair : {A : Type 0} → Res Why A → Type 0
Fair r = Ends Late r

bind_ends : {E A B : Type 0} {Ok : E → Type 0} {r : Res E A} {f : A → World → Res E B} → Ends Ok r → ((a : A) (w : World) → Ends Ok (f a w)) → Ends Ok (bind r f)
bind_ends (well {a} {w}) k = k a w
bind_ends (stops h) k = stops h

placed_ends : {E F A : Type 0} {Ok : E → Type 0} {Fine : F → Type 0} {r : Res E A} (f : E → F) → ((e : E) → Ok e → Fine (f e)) → Ends Ok r → Ends Fine (placed f r)
placed_ends f i well = well
placed_ends f i (stops {e} h) = stops (i e h)

ask_ends : {A : Type 0} {x : Answer A} (w : World) → Tells x → Fair (ask x w)
ask_ends w told = well
ask_ends w (failed h) = stops h

charge_ends : (w : World) → Fair (charge w)
unfolding charge
charge_ends w = choice Fair (is_left w.limit w.used) _ _ well (stops tt)

-- ---- expressions, where `run` is fair
put_ends : (u : ℕ) {x : Answer Value} (w : World) → Tells x → Fair (put u x w)
unfolding put
put_ends u w h = ask_ends w (then_tells h (unfinished_tells u))

cell_ends : (c : Cell) (u : ℕ) (w : World) → Fair (read_cell c u w)
cell_ends W.no_value u w = stops tt
cell_ends (W.holds v) u w = put_ends u w told

abbrev FairCall : Call → Type 0
FairCall run = (c : Callee) (vs : List Value) (u : ℕ) (w : World) → Fair (run c vs u w)

module _ (run : Call) (runs : FairCall run) where
  plain_ends : (m : Meant) (u : ℕ) (w : World) → Fair (plain_name run m u w)
  unfolding plain_name
  plain_ends (a_variable a t) u w = cell_ends (value_at a w) u w
  plain_ends (an_entry b) u w = bind_ends (ask_ends w (callee_tells b w)) λ c v. choice Fair (eqb (length c.parameters) 0) _ _ (runs c [] u v) (stops tt)
  plain_ends the_substr u w = stops tt
  plain_ends no_such u w = stops tt

  listed_ends : (take : List Wish → ℕ → World → Res Why (List Value)) → ((ws : List Wish) (u : ℕ) (w : World) → Fair (take ws u w)) → (n : ℕ) (m : Meant) (u : ℕ) (w : World) → Fair (listed_name run take n m u w)
  unfolding listed_name
  listed_ends take takes n (a_variable a t) u w = stops tt
  listed_ends take takes n (an_entry b) u w = bind_ends (ask_ends w (callee_tells b w)) λ c v.
      choice Fair (eqb (length c.parameters) n) _ _ (bind_ends (takes _ u v) λ vs x. runs c vs u x) (stops tt)
  listed_ends take takes n the_substr u w = choice Fair (eqb n 2 || eqb n 3) _ _ (bind_ends (takes _ u w) λ vs x. put_ends u x (substr_tells vs)) (stops tt)
  listed_ends take takes n no_such u w = stops tt

  module _ (k : Owner) where
    abbrev FairValue : Tree → Type 0
    FairValue x = (u : ℕ) (w : World) → Fair (evaluate run k x u w)

    abbrev FairArguments : Tree → Type 0
    FairArguments x = (ws : List Wish) (u : ℕ) (w : World) → Fair (Evaluate.arguments run k x ws u w)

    more_ends : (a b : Tree) → FairValue a → FairArguments b → FairArguments (more a b)
    unfolding Evaluate.arguments
    more_ends a b f g [] u w = well
    more_ends a b f g (x ∷ xs) u w = bind_ends (f u w) λ y v. bind_ends (put_ends u v (wished_tells x y)) λ c z. bind_ends (g xs (u + size_of c) z) λ ys r. well

    mutual
      unfolding evaluate Evaluate.arguments

      pub evaluate_ends : (x : Tree) → FairValue x
      evaluate_ends (integer_of ds) = λ u w. ask_ends w (then_tells (constant_tells ds) λ z. told)
      evaluate_ends (string_of l) = λ u w. put_ends u w (limited_tells _)
      evaluate_ends (bits_of l) = λ u w. put_ends u w (limited_tells _)
      evaluate_ends (reference n) = λ u w. plain_ends (meant k n w) u w
      evaluate_ends (call n xs) = λ u w. listed_ends _ (arguments_end xs) (count xs) (meant k n w) u w
      evaluate_ends (unary o a) = λ u w. bind_ends (evaluate_ends a u w) λ x v. put_ends u v (prefixed_tells o x)
      evaluate_ends (binary o a b) = λ u w. bind_ends (evaluate_ends a u w) λ x v. bind_ends (evaluate_ends b (u + size_of x) v) λ y z. put_ends u z (infixed_tells u o x y)
      evaluate_ends none = λ u w. stops tt
      evaluate_ends (more a b) = λ u w. stops tt

      pub arguments_end : (x : Tree) → FairArguments x
      arguments_end (integer_of ds) = λ ws u w. well
      arguments_end (string_of l) = λ ws u w. well
      arguments_end (bits_of l) = λ ws u w. well
      arguments_end (reference n) = λ ws u w. well
      arguments_end (call n xs) = λ ws u w. well
      arguments_end (unary o a) = λ ws u w. well
      arguments_end (binary o a b) = λ ws u w. well
      arguments_end none = λ ws u w. well
      arguments_end (more a b) = more_ends a b (evaluate_ends a) (arguments_end b)

-- ---- rows, in a machine whose parts are fair
module _ {E : Type 0} (Ok : E → Type 0) (M : Machine E) (Text : Stretch → Type 0) (texts : (n : ℕ) → Text (row_of M.rows n).text) (leads : (n : ℕ) → Text (row_of M.rows n).lead) (faults : (n : ℕ) (e : Why) → Late e → Ok (M.fault (row_of M.rows n) e)) (values : (x : Tree) (w : World) → Fair (M.value x w)) (outs : (s : Stretch) (w : World) → Text s → Ends Ok (M.out s w)) (acts : (n : ℕ) (w : World) → Ends Ok (M.act n w)) (gotos : (n : ℕ) (t : List ℕ) (w : World) → Ends Ok (M.jump n t w)) where
  end_in_lem : (s : Statement) (g : ℕ) (fs : List Frame) (up : Unit {0} → Res E Next) → Ends Ok (up tt) → (w : World) → Ends Ok (end_in M s g fs up w)
  unfolding is_iterated
  end_in_lem null g fs up k w = k
  end_in_lem (declare ns) g fs up k w = k
  end_in_lem (procedure ns t) g fs up k w = well
  end_in_lem (assign n x) g fs up k w = k
  end_in_lem (conditional x) g fs up k w = k
  end_in_lem group g fs up k w = k
  end_in_lem (iterated n x bs) g fs up k w = choice (Ends Ok) (is_once g fs) _ _ k well
  end_in_lem (goto n) g fs up k w = k
  end_in_lem (include ns) g fs up k w = k
  end_in_lem (activate ns) g fs up k w = k
  end_in_lem (deactivate ns) g fs up k w = k
  end_in_lem (return x) g fs up k w = k

  module _ (fs : List Frame) (up : ℕ → World → Res E Next) (ups : (n : ℕ) (w : World) → Ends Ok (up n w)) where
    next_in_lem : (l p : Link) (w : World) → Ends Ok (next_in M l p fs up w)
    next_in_lem (row m) p w = well
    next_in_lem nowhere nowhere w = well
    next_in_lem nowhere (row g) w = end_in_lem (row_of M.rows g).statement g fs _ (ups g w) w

    up_from_lem : (l : Link) (w : World) → Ends Ok (up_from M l up w)
    up_from_lem nowhere w = well
    up_from_lem (row g) w = ups g w

    behind_as_lem : (r : Role) (n : ℕ) (w : World) → Ends Ok (behind_as M r n fs up w)
    behind_as_lem listed n w = bind_ends (outs _ w (texts n)) λ _ v. next_in_lem (row_of M.rows n).next (row_of M.rows n).parent v
    behind_as_lem then_part n w = up_from_lem (row_of M.rows n).parent w
    behind_as_lem else_part n w = up_from_lem (row_of M.rows n).parent w

  behind_on_lem : (fs : List Frame) (f n : ℕ) (w : World) → Ends Ok (behind_on M fs f n w)
  unfolding behind_on
  behind_on_lem fs zero n w = well
  behind_on_lem fs (suc f) n w = behind_as_lem fs _ (behind_on_lem fs f) (row_of M.rows n).role n w

  end_of_lem : (fs : List Frame) (g : ℕ) (w : World) → Ends Ok (end_of M fs g w)
  end_of_lem fs g w = end_in_lem (row_of M.rows g).statement g fs _ (behind_on_lem fs (suc g) g w) w

  lead_out_lem : (s : Stretch) (w : World) → Text s → Ends Ok (lead_out M s w)
  unfolding lead_out
  lead_out_lem s w i = choice (Ends Ok) (ltb s.from s.to) _ _ (outs s w i) well

  first_in_lem : (l : Link) (g : ℕ) (fs : List Frame) (w : World) → Ends Ok (first_in M l g fs w)
  first_in_lem (row m) g fs w = well
  first_in_lem nowhere g fs w = end_of_lem fs g w

  into_ends : (fs : List Frame) (g : ℕ) (w : World) → Ends Ok (into M fs g w)
  unfolding into
  into_ends fs g w = bind_ends (lead_out_lem _ w (leads g)) λ _ v. first_in_lem (row_of M.rows g).child g fs v

  -- ---- statements
  in_row_lem : {A : Type 0} (n : ℕ) {r : Res Why A} → Fair r → Ends Ok (in_row M n r)
  in_row_lem n h = placed_ends _ (faults n) h

  target_as_lem : (d : Denotation) (a : ℕ) (f : ℕ → ValueType → Res Why (Unit {0})) → ((a : ℕ) (t : ValueType) → Fair (f a t)) → (w : World) → Fair (target_as M d a f w)
  target_as_lem (variable_of t) a f k w = k a t
  target_as_lem (entry_of e b) a f k w = stops tt
  target_as_lem (label_at m r x) a f k w = stops tt
  target_as_lem builtin_name a f k w = stops tt

  target_at_lem : (x : Address) (f : ℕ → ValueType → Res Why (Unit {0})) → ((a : ℕ) (t : ValueType) → Fair (f a t)) → (w : World) → Fair (target_at M x f w)
  target_at_lem (address a) f k w = target_as_lem (denotation a w) a f k w
  target_at_lem unknown f k w = stops tt

  assigned_ends : (n : List ℕ) (x : Tree) (w : World) → Fair (assigned M n x w)
  unfolding assigned
  assigned_ends n x w = target_at_lem (seen_from M.owner n w) _ (λ a t. bind_ends (values x w) λ v y. bind_ends (put_ends _ y (convert_tells t v)) λ c z. well) w

  truth_ends : (x : Tree) (w : World) → Fair (truth M x w)
  unfolding truth
  truth_ends x w = bind_ends (values x w) λ v y. ask_ends y (holds_tells _ v)

  number_ends : (x : Tree) (w : World) → Fair (number M x w)
  unfolding number
  number_ends x w = bind_ends (values x w) λ v y. ask_ends y (to_fixed_lem v)

  bounded_ends : (b : Bound) (f : Frame) (w : World) → Fair (bounded M b f w)
  bounded_ends (by x) f w = bind_ends (number_ends x w) λ z y. well
  bounded_ends (upto x) f w = bind_ends (number_ends x w) λ z y. well

  bounds_end : (bs : List Bound) (f : Frame) (w : World) → Fair (bounds M bs f w)
  unfolding bounds
  bounds_end [] f w = well
  bounds_end (b ∷ bs) f w = bind_ends (bounded_ends b f w) λ g y. bounds_end bs g y

  start_as_lem : (t : ValueType) (g a : ℕ) (x : Tree) (bs : List Bound) (w : World) → Fair (start_as M t g a x bs w)
  start_as_lem CharacterType g a x bs w = stops tt
  start_as_lem FixedType g a x bs w = bind_ends (number_ends x w) λ z y. bind_ends (bounds_end bs _ y) λ f v. well

  start_in_lem : (d : Denotation) (a g : ℕ) (x : Tree) (bs : List Bound) (w : World) → Fair (start_in M d a g x bs w)
  start_in_lem (variable_of t) a g x bs w = start_as_lem t g a x bs w
  start_in_lem (entry_of e b) a g x bs w = stops tt
  start_in_lem (label_at m r q) a g x bs w = stops tt
  start_in_lem builtin_name a g x bs w = stops tt

  start_at_lem : (y : Address) (g : ℕ) (x : Tree) (bs : List Bound) (w : World) → Fair (start_at M y g x bs w)
  start_at_lem (address a) g x bs w = start_in_lem (denotation a w) a g x bs w
  start_at_lem unknown g x bs w = stops tt

  frame_of_lem : (g : ℕ) (fs : List Frame) (f : Frame → Res Why Bool) → ((x : Frame) → Fair (f x)) → (w : World) → Fair (frame_of M g fs f w)
  frame_of_lem g [] f k w = well
  frame_of_lem g (x ∷ xs) f k w = choice Fair (eqb x.group g) _ _ (k x) (frame_of_lem g xs f k w)

  number_at_lem : (c : Cell) (w : World) (f : ℤ → Res Why Bool) → ((z : ℤ) → Fair (f z)) → Fair (number_at M c w f)
  number_at_lem W.no_value w f k = stops tt
  number_at_lem (W.holds v) w f k = k (as_number v)

  stepped_ends : (g : ℕ) (fs : List Frame) (w : World) → Fair (stepped M g fs w)
  unfolding stepped
  stepped_ends g fs w = frame_of_lem g fs _ (λ f. number_at_lem (value_at f.at w) w _ λ z. bind_ends (ask_ends w (from_fixed_lem (Fixed.sum z f.step))) λ y v. bind_ends (charge_ends (store f.at (fixed y) v)) λ _ x. well) w

  onward_ends : (fs : List Frame) {r : Res E Next} → Ends Ok r → Ends Ok (onward M fs r)
  onward_ends fs h = bind_ends h λ x v. well

  behind_ends : (fs : List Frame) (n : ℕ) (w : World) → Ends Ok (onward M fs (behind M fs n w))
  behind_ends fs n w = onward_ends fs (behind_on_lem fs (suc n) n w)

  follow_ends : (j : Jump) (fs : List Frame) (w : World) → Ends Ok (follow M j fs w)
  follow_ends (to_row m) fs w = well
  follow_ends (to_end g) fs w = onward_ends fs (end_of_lem fs g w)
  follow_ends (away t) fs w = well

  done_ends : (d : Deed) (fs : List Frame) (n : ℕ) (w : World) → Ends Ok (done M d fs n w)
  done_ends passed fs n w = behind_ends fs n w
  done_ends (gave v) fs n w = well
  done_ends (jumps j) fs n w = follow_ends j fs w

  chosen_ends : (l : Link) (fs : List Frame) (n : ℕ) (w : World) → Ends Ok (chosen M l fs n w)
  chosen_ends (row m) fs n w = well
  chosen_ends nowhere fs n w = behind_ends fs n w

  acted : (fs : List Frame) (n : ℕ) (w : World) → Ends Ok (bind (M.act n w) (λ d v. done M d fs n v))
  acted fs n w = bind_ends (acts n w) λ d v. done_ends d fs n v

  statement_ends : (s : Statement) (fs : List Frame) (n : ℕ) (w : World) → Ends Ok (statement M s fs n w)
  unfolding statement
  statement_ends null fs n w = behind_ends fs n w
  statement_ends (declare ns) fs n w = acted fs n w
  statement_ends (procedure ns t) fs n w = behind_ends fs n w
  statement_ends (assign t x) fs n w = bind_ends (in_row_lem n (assigned_ends t x w)) λ _ v. behind_ends fs n v
  statement_ends (conditional x) fs n w = bind_ends (in_row_lem n (truth_ends x w)) λ b v. chosen_ends (alternative_of M b n) fs n v
  statement_ends group fs n w = onward_ends fs (into_ends fs n w)
  statement_ends (iterated t x bs) fs n w = bind_ends (in_row_lem n (start_at_lem (seen_from M.owner t w) n x bs w)) λ s v.
      choice (Ends Ok) s.begins _ _ (onward_ends (s.frame ∷ fs) (into_ends (s.frame ∷ fs) n v)) (behind_ends fs n v)
  statement_ends (goto t) fs n w = bind_ends (gotos n t w) λ j v. follow_ends j fs v
  statement_ends (include ns) fs n w = acted fs n w
  statement_ends (activate ns) fs n w = acted fs n w
  statement_ends (deactivate ns) fs n w = acted fs n w
  statement_ends (return x) fs n w = acted fs n w

  turn_ends : (x : Next) (fs : List Frame) (w : World) → Ends Ok (turn M x fs w)
  unfolding turn
  turn_ends (begin n) fs w = bind_ends (in_row_lem n (charge_ends w)) λ _ v. statement_ends (row_of M.rows n).statement fs n v
  turn_ends (again g) fs w = bind_ends (in_row_lem g (stepped_ends g fs w)) λ b v. choice (Ends Ok) b _ _ (onward_ends fs (into_ends fs g v)) (behind_ends fs g v)
  turn_ends no_next fs w = well

  continued_ends : {r : Res E Turn} (f : Next → List Frame → World → Res E End) → Ends Ok r → ((x : Next) (fs : List Frame) (w : World) → Ends Ok (f x fs w)) → Ends Ok (continued M r f)
  continued_ends f (well {a = on x fs} {w}) k = k x fs w
  continued_ends f (well {a = ended x}) k = well
  continued_ends f (stops h) k = stops h

  run_on_lem : (f : ℕ) (x : Next) (fs : List Frame) (w : World) → Ends Ok (run_on M f x fs w)
  unfolding run_on
  run_on_lem zero (begin n) fs w = stops (faults n _ tt)
  run_on_lem zero (again g) fs w = continued_ends _ (turn_ends (again g) fs w) λ x gs v. stops (faults g _ tt)
  run_on_lem zero no_next fs w = well
  run_on_lem (suc f) (begin n) fs w = continued_ends _ (turn_ends (begin n) fs w) (run_on_lem f)
  run_on_lem (suc f) (again g) fs w = continued_ends _ (turn_ends (again g) fs w) (run_on_lem f)
  run_on_lem (suc f) no_next fs w = well

-- ---- procedures
act_in_lem : (s : Statement) (t : ValueType) (u : ℕ) (value : Tree → World → Res Why Value) → ((x : Tree) (w : World) → Fair (value x w)) → (w : World) → Fair (act_in s t u value w)
act_in_lem null t u value k w = well
act_in_lem (declare ns) t u value k w = well
act_in_lem (procedure ns x) t u value k w = well
act_in_lem (assign n x) t u value k w = well
act_in_lem (conditional x) t u value k w = well
act_in_lem group t u value k w = well
act_in_lem (iterated n x bs) t u value k w = well
act_in_lem (goto n) t u value k w = well
act_in_lem (include ns) t u value k w = well
act_in_lem (activate ns) t u value k w = well
act_in_lem (deactivate ns) t u value k w = well
act_in_lem (return x) t u value k w = bind_ends (k x w) λ v y. bind_ends (put_ends u y (convert_tells t v)) λ c z. well

jump_local_lem : (d : Denotation) (rs : List Row) (n : ℕ) (w : World) → Fair (jump_local d rs n w)
jump_local_lem (variable_of t) rs n w = stops tt
jump_local_lem (entry_of e b) rs n w = stops tt
jump_local_lem (label_at m r x) rs n w = choice Fair (may_go rs n r x) _ _ well (stops tt)
jump_local_lem builtin_name rs n w = stops tt

jump_global_lem : (d : Denotation) (w : World) → Fair (jump_global d w)
jump_global_lem (variable_of t) w = stops tt
jump_global_lem (entry_of e b) w = stops tt
jump_global_lem (label_at m r x) w = stops tt
jump_global_lem builtin_name w = stops tt

jump_out_lem : (x : Address) (w : World) → Fair (jump_out x w)
jump_out_lem (address a) w = jump_global_lem (denotation a w) w
jump_out_lem unknown w = stops tt

jump_in_lem : (x : Address) (t : List ℕ) (rs : List Row) (n : ℕ) (w : World) → Fair (jump_in x t rs n w)
jump_in_lem (address a) t rs n w = jump_local_lem (denotation a w) rs n w
jump_in_lem unknown t rs n w = jump_out_lem (address_of t W.everyone w) w

value_of_lem : {r : Res Why End} → Fair r → Fair (value_of r)
value_of_lem (well {a = ran}) = stops tt
value_of_lem (well {a = returned v}) = well
value_of_lem (well {a = went t}) = stops tt
value_of_lem (stops h) = stops h

body_run_lem : (run : Call) → FairCall run → (m r u : ℕ) (w : World) → Fair (body_run run m r u w)
unfolding body_run body_machine
body_run_lem run runs m r u w =
    value_of_lem (run_on_lem Late (body_machine run m r u (rows_of m w)) (λ s. Unit {0}) (λ n. tt) (λ n. tt) (λ n e h. h) (λ x v. evaluate_ends run runs (W.procedure_at m r) x u v) (λ s v _. well)
    (λ n v. act_in_lem (row_of (rows_of m w) n).statement _ u _ (λ x z. evaluate_ends run runs (W.procedure_at m r) x u z) v) (λ n t v. jump_in_lem (address_of t (W.procedure_at m r) v) t (rows_of m w) n v) _ _ [] w)

calls_end : (n : ℕ) (ps : List Place) → FairCall (calls n ps)
unfolding calls
calls_end zero ps c vs u w = choice Fair (is_running c.member c.row ps) _ _ (stops tt) (stops tt)
calls_end (suc n) ps c vs u w = choice Fair (is_running c.member c.row ps) _ _ (stops tt) (body_run_lem (calls n _) (calls_end n _) c.member c.row u _)

call_out_lem : FairCall call_out
call_out_lem = calls_end running_procedures []

-- ---- scanning values and arguments
full_late : (i : Into) → Late (full i)
full_late (to_text room) = tt
full_late (to_work room) = tt

abbrev FairScanner : Scanner → Type 0
FairScanner scan = (i : Into) (t : List ℕ) (u : ℕ) (w : World) → Fair (scan i t u w)

abbrev FairReplacer : Replacer → Type 0
FairReplacer replace = (t : List ℕ) (p a : ℕ) (x : Activity) (i : Into) (u : ℕ) (w : World) → Fair (replace t p a x i u w)

up_to_lem : (p : ℕ) {r : Res Why (List ℕ)} → Fair r → Fair (up_to p r)
up_to_lem p h = bind_ends h λ l w. well

module _ (scan : Scanner) (scans : FairScanner scan) where
  outcome_ends : (x : Activity) (i : Into) (u : ℕ) (l : List ℕ) (w : World) → Fair (outcome x scan i u l w)
  outcome_ends inactive i u l w = well
  outcome_ends rescanned i u l w = choice Fair (leb (u + length l) unfinished_bytes) _ _ (scans i l (u + length l) w) (stops tt)
  outcome_ends copied_only i u l w = choice Fair (fits i u 0 (length l)) _ _ well (stops (full_late i))

  scan_arguments_lem : (t : List ℕ) (ps : List Parameter) (xs : List Argument) (u : ℕ) (w : World) → Fair (scan_arguments scan t ps xs u w)
  unfolding scan_arguments
  scan_arguments_lem t [] xs u w = well
  scan_arguments_lem t (p ∷ ps) [] u w = well
  scan_arguments_lem t (p ∷ ps) (x ∷ xs) u w = bind_ends (scans (to_work value_length) _ u w) λ l v. bind_ends (put_ends u v (convert_tells p.type (characters l))) λ y z. bind_ends (scan_arguments_lem t ps xs (u + size_of y) z) λ ys r. well

  replace_cell_lem : (c : Cell) (p : ℕ) (x : Activity) (i : Into) (u : ℕ) (w : World) → Fair (replace_cell c scan p x i u w)
  replace_cell_lem W.no_value p x i u w = stops tt
  replace_cell_lem (W.holds v) p x i u w = up_to_lem p (outcome_ends x i u _ w)

  module _ (run : Call) (runs : FairCall run) (x : Activity) (i : Into) (u : ℕ) where
    call_with_lem : (c : Callee) (vs : List Value) (w : World) → Fair (call_with run scan x i u c vs w)
    unfolding call_with
    call_with_lem c vs w = bind_ends (runs c vs u w) λ v z. outcome_ends x i u _ z

    with_list_lem : (t : List ℕ) (c : Callee) (a : Arguments) (w : World) → Fair (with_list run scan t x i u c a w)
    with_list_lem t c no_list w = stops tt
    with_list_lem t c (list_up_to xs q) w = choice Fair (eqb (length xs) (length c.parameters)) _ _ (bind_ends (scan_arguments_lem t c.parameters xs u w) λ vs z. up_to_lem q (call_with_lem c vs z)) (stops tt)

    replace_entry_lem : (t : List ℕ) (p : ℕ) (c : Callee) (w : World) → Fair (replace_entry mixed run scan t p x i u c w)
    unfolding replace_entry
    replace_entry_lem t p c w = choice Fair (eqb (length c.parameters) 0) _ _ (up_to_lem p (call_with_lem c [] w)) (with_list_lem t c (list_at mixed t p) w)

    replace_as_lem : (d : Denotation) (t : List ℕ) (p a : ℕ) (w : World) → Fair (replace_as mixed d run scan t p a x i u w)
    replace_as_lem (variable_of k) t p a w = replace_cell_lem (value_at a w) p x i u w
    replace_as_lem (entry_of e b) t p a w = bind_ends (ask_ends w (callee_tells b w)) λ c v. replace_entry_lem t p c v
    replace_as_lem (label_at m r z) t p a w = stops tt
    replace_as_lem builtin_name t p a w = stops tt

module _ (replace : Replacer) (replaces : FairReplacer replace) (i : Into) (t : List ℕ) (u : ℕ) where
  token_ends : (x : Active) (out : List ℕ) (p q : ℕ) (f : List ℕ → ℕ → World → Res Why (List ℕ)) → ((o : List ℕ) (q : ℕ) (w : World) → Fair (f o q w)) → (w : World) → Fair (token x replace i t out u p q w f)
  token_ends not_active out p q f k w = choice Fair (fits i u (length out) (q - p)) _ _ (k _ q w) (stops (full_late i))
  token_ends (active a x) out p q f k w = bind_ends (replaces t q a x _ _ w) λ r v. k _ r.to v

  scan_on_lem : (f : ℕ) (out : List ℕ) (p : ℕ) (w : World) → Fair (scan_on mixed replace i t u f out p w)
  unfolding scan_on
  scan_on_lem zero out p w = well
  scan_on_lem (suc f) out p w = choice Fair (leb (length t) p) _ _ well (bind_ends (charge_ends w) λ _ v. token_ends (active_in (piece_at mixed t p).piece v) out p (piece_at mixed t p).to _ (scan_on_lem f) v)

replacer_ends : (run : Call) → FairCall run → (n : ℕ) → FairReplacer (replacer mixed run n)
unfolding replacer
replacer_ends run runs zero t p a x i u w = stops tt
replacer_ends run runs (suc n) t p a x i u w =
    replace_as_lem (scan_with mixed (replacer mixed run n)) (λ j l v z. scan_on_lem (replacer mixed run n) (replacer_ends run runs n) j l v (suc (length l)) [] 0 z) run runs x i u (denotation a w) t p a w

-- ---- program text: a refusal has a place in the body of its member, at most behind its last byte
abbrev At : List ℕ → ℕ → ℕ → Type 0
At d m p = (m < Deck.count d) × (p ≤ length (body_of d m))

abbrev Stopped : List ℕ → Stop → Type 0
Stopped d s = Late s.why × At d s.member s.place

put_out_lem : (e : Event) (g : Pass) (n : ℕ) (w : World) → Fair (put_out e g n w)
unfolding put_out
put_out_lem e g n w = choice Fair (leb n w.lines_left && leb (length (bytes_in e)) w.text_left) _ _ well (stops tt)

replace_here_lem : (m place : ℕ) (t : List ℕ) (q a : ℕ) (x : Activity) (to : List ℕ → ℕ → Pass) (w : World) → Fair (replace_here mixed m place t q a x to w)
unfolding replace_here
replace_here_lem m place t q a x to w = choice Fair (leb 1 w.lines_left) _ _ (bind_ends (replacer_ends call_out call_out_lem replacement_levels t q a x _ 0 w) λ r v. well) (stops tt)

token_here_lem : (x : Active) (m place : ℕ) (t : List ℕ) (p q : ℕ) (g : List ℕ → ℕ → Pass) (w : World) → Fair (token_here mixed x m place t p q g w)
unfolding copy_here
token_here_lem not_active m place t p q g w = bind_ends (put_out_lem _ _ _ w) λ _ v. well
token_here_lem (active a x) m place t p q g w = replace_here_lem m place t q a x g w

text_on_lem : (d : List ℕ) (m from : ℕ) (t : List ℕ) → At d m (from + length t) → (f p : ℕ) (w : World) → Ends (Stopped d) (text_on mixed m from t f p w)
unfolding text_on
text_on_lem d m from t i zero p w = well
text_on_lem d m from t i (suc f) p w = when_has (Ends (Stopped d)) (leb (length t) p) _ _ (λ _. well) λ e.
    bind_ends (placed_ends _ (λ y h. (h, (i.0, omega (arith, leb-false (length t) p e, i.1)))) (bind_ends (charge_ends w) λ _ v. token_here_lem (active_in (piece_at mixed t p).piece v) m (from + p) t p (piece_at mixed t p).to _ v)) λ q x.
    text_on_lem d m from t i f q x

text_out_lem : (d : List ℕ) (m : ℕ) (x : Stretch) (w : World) → m < Deck.count d → Ordered (body_of d m) x → Ends (Stopped d) (text_out mixed m (body_of d m) x w)
unfolding text_out
text_out_lem d m x w i o =
    let n : ℕ = x.to - x.from in
    let s : List ℕ = body_of d m in
    bind_ends (placed_ends _ (λ y h. (h, (i, omega (arith, o.order, o.within)))) (put_out_lem _ _ 1 w)) λ _ v.
    text_on_lem d m x.from (part n x.from s) (i, omega (arith, length_part n x.from s, o.order, o.within)) (suc n) 0 v

-- ---- what the statements of a member do
activated_ends : (d : Denotation) (x : Activity) (a : ℕ) (w : World) → Fair (activated d x a w)
activated_ends (variable_of t) x a w = well
activated_ends (entry_of e b) x a w = well
activated_ends (label_at m r q) x a w = stops tt
activated_ends builtin_name x a w = stops tt

activate_at_lem : (y : Address) (x : Activity) (w : World) → Fair (activate_at y x w)
activate_at_lem (address a) x w = activated_ends (denotation a w) x a w
activate_at_lem unknown x w = stops tt

activate_all_lem : (x : Activity) (ns : List (List ℕ)) (w : World) → Fair (activate_all x ns w)
unfolding activate_all
activate_all_lem x [] w = well
activate_all_lem x (n ∷ ns) w = bind_ends (activate_at_lem (address_of n W.everyone w) x w) λ _ v. activate_all_lem x ns v

activations_end : (xs : List Activation) (w : World) → Fair (activations xs w)
unfolding activations
activations_end [] w = well
activations_end (x ∷ xs) w = bind_ends (activate_at_lem (address_of x.spelling W.everyone w) _ w) λ _ v. activations_end xs v

jump_away_lem : (ps : List Place) (m r : ℕ) (is_end : Bool) (w : World) → Fair (jump_away ps m r is_end w)
unfolding jump_away
jump_away_lem [] m r is_end w = stops tt
jump_away_lem (p ∷ ps) m r is_end w = choice Fair (eqb p.member m) _ _ (choice Fair (may_go (rows_of m w) p.row r is_end) _ _ well (stops tt)) (jump_away_lem ps m r is_end w)

jump_by_lem : (d : Denotation) (here : ℕ) (rs : List Row) (ps : List Place) (n : ℕ) (w : World) → Fair (jump_by d here rs ps n w)
unfolding jump_label
jump_by_lem (variable_of t) here rs ps n w = stops tt
jump_by_lem (entry_of e b) here rs ps n w = stops tt
jump_by_lem (label_at m r is_end) here rs ps n w = choice Fair (eqb m here) _ _ (choice Fair (may_go rs n r is_end) _ _ well (stops tt)) (jump_away_lem ps m r is_end w)
jump_by_lem builtin_name here rs ps n w = stops tt

jump_from_lem : (x : Address) (here : ℕ) (rs : List Row) (ps : List Place) (n : ℕ) (w : World) → Fair (jump_from x here rs ps n w)
jump_from_lem (address a) here rs ps n w = jump_by_lem (denotation a w) here rs ps n w
jump_from_lem unknown here rs ps n w = stops tt

-- ---- entering a member with the body b
module _ (b : List ℕ) where
  data Enters : Entering → Type 0 where
    is_entered : {w : World} → Enters (entered w)
    is_late : {e : Why} {p : ℕ} → Late e → In b p → Enters (unreadable e p)

  data PastIn : Past → Type 0 where
    is_within : PastIn within
    past_at_lem : {p : ℕ} → In b p → PastIn (past_at p)

  sooner_in : {x : Past} → PastIn x → (f : Fault) → FaultIn b f → FaultIn b (sooner x f)
  sooner_in is_within f h = h
  sooner_in (past_at_lem i) sound h = (tt, i)
  sooner_in (past_at_lem {p} i) (faulty e q) h = pick (FaultIn b) (ltb p q) _ _ (tt, i) h

  names_past_lem : (m : ℕ) (is : List W.Identifier) (ds : List Declared) → Declares b ds → PastIn (names_past m is ds)
  unfolding names_past
  names_past_lem m is [] h = is_within
  names_past_lem m is (d ∷ ds) h =
      choice PastIn (is_parameter d.meaning || is_listed (identifier_of m d) is) _ _ (names_past_lem m is ds h.1)
      (choice PastIn (leb declared_names (length is)) _ _ (past_at_lem h.0) (names_past_lem m (identifier_of m d ∷ is) ds h.1))

  sentences_past_lem : (n : ℕ) (ps : List ℕ) → AllIn b ps → PastIn (sentences_past n ps)
  unfolding sentences_past
  sentences_past_lem n [] h = is_within
  sentences_past_lem zero (p ∷ ps) h = past_at_lem h.0
  sentences_past_lem (suc n) (p ∷ ps) h = sentences_past_lem n ps h.1

  fault_in_lem : (m : ℕ) (s : Source) (w : World) → Read b s → FaultIn b (fault_of m s w)
  unfolding fault_of
  fault_in_lem m s w h =
      sooner_in (names_past_lem m w.identifiers s.declared h.names) (sooner (sentences_past (entered_sentences - w.sentences) s.begun) s.fault)
      (sooner_in (sentences_past_lem (entered_sentences - w.sentences) s.begun h.begun) s.fault h.fault)

  data SecondIn : Declaring → Type 0 where
    is_fine : {w : World} → SecondIn (fine w)
    second_at : {p : ℕ} → In b p → SecondIn (second p)

  declared_at_lem : (x : Address) (i : W.Identifier) (d : Denotation) (p : ℕ) (w : World) → In b p → SecondIn (declared_at x i d p w)
  declared_at_lem unknown i d p w h = is_fine
  declared_at_lem (address a) i d p w h = by (joint_of (denotation a w) d)
    where
      by : (j : Joint) → SecondIn (elim j [ joint e ↦ fine (set_denotation a e w) | twice ↦ second p ])
      by (joint e) = is_fine
      by twice = second_at h

  onward_in : {x : Declaring} (f : World → Declaring) → SecondIn x → ((v : World) → SecondIn (f v)) → SecondIn (Names.onward x f)
  onward_in f (is_fine {w}) k = k w
  onward_in f (second_at h) k = second_at h

  declare_one_lem : (n : New) (i : W.Identifier) (ps : List W.Identifier) (p : ℕ) (w : World) (f : List W.Identifier → World → Declaring) → In b p → ((qs : List W.Identifier) (v : World) → SecondIn (f qs v)) → SecondIn (declare_one n i ps p w f)
  declare_one_lem (new d) i ps p w f h k = onward_in (f ps) (declared_at_lem (W.address_in i.spelling i.owner 0 w.identifiers) i d p w h) (k ps)
  declare_one_lem listing i ps p w f h k = choice SecondIn (is_listed i ps) _ _ (second_at h) (k (i ∷ ps) w)

  declare_all_lem : (m : ℕ) (ps : List W.Identifier) (ds : List Declared) (w : World) → Declares b ds → SecondIn (declare_all m ps ds w)
  unfolding declare_all
  declare_all_lem m ps [] w h = is_fine
  declare_all_lem m ps (d ∷ ds) w h = declare_one_lem (new_of m d.meaning) (identifier_of m d) ps d.place w _ h.0 λ qs v. declare_all_lem m qs ds v h.1

  entered_as_lem : (f : Fault) → FaultIn b f → (m : ℕ) (s : Source) (w : World) → Declares b s.declared → Enters (entered_as f m s w)
  entered_as_lem (faulty e p) h m s w i = is_late h.0 h.1
  entered_as_lem sound h m s w i = at_end_lem (declare_all_lem m [] s.declared w i)
    where
      at_end_lem : {x : Declaring} → SecondIn x → Enters (elim x [ fine v ↦ entered (with_member m s v) | second p ↦ unreadable Y.DeclaredTwice p ])
      at_end_lem is_fine = is_entered
      at_end_lem (second_at k) = is_late tt k

  enter_ends : (m : ℕ) (w : World) → Enters (enter m (read_member mixed b) w)
  unfolding enter
  enter_ends m w = entered_as_lem (fault_of m (read_member mixed b) w) (fault_in_lem m (read_member mixed b) w (member_read b)) m (read_member mixed b) w (member_read b).names

  -- the place of a row; past the rows it is 0
  row_place : (rs : List Row) (n : ℕ) → AllIn b (places rs) → In b (row_of rs n).place
  row_place [] n h = omega arith
  row_place (r ∷ rs) zero h = h.0
  row_place (r ∷ rs) (suc n) h = row_place rs n h.1

-- ---- INCLUDE and members of a sound deck
pub body_short : (d : List ℕ) → is_sound mixed d ≡ true → (k : ℕ) → k < Deck.count d → length (body_of d k) < 65536
body_short d s k i = subst (λ (b : List ℕ). length b < 65536) (lined d s k i).same (lined d s k i).short

module _ (d : List ℕ) where
  abbrev FairInner : Inner → Type 0
  FairInner inner = (k : ℕ) → k < Deck.count d → (ps : List Place) (w : World) → Ends (Stopped d) (inner k ps w)

  abbrev FairLevel : Level → Type 0
  FairLevel no_level = Unit {0}
  FairLevel (level inner) = FairInner inner

  module _ (next : World → Res Stop Deed) (nexts : (w : World) → Ends (Stopped d) (next w)) where
    came_out_lem : (m : ℕ) (x : End) (w : World) → Ends (Stopped d) (came_out m x w next)
    came_out_lem m ran w = nexts w
    came_out_lem m (returned v) w = nexts w
    came_out_lem m (went t) w = well

    include_entered_lem : (k : ℕ) → k < Deck.count d → {e : Entering} → Enters (body_of d k) e → (inner : Inner) → FairInner inner → (m n : ℕ) (ps : List Place) (w : World) → Ends (Stopped d) (include_entered e inner k m n ps w next)
    include_entered_lem k i (is_late {e} {p} h j) inner is m n ps w = stops {e = R.stop k p e} (h, (i, j))
    include_entered_lem k i (is_entered {w = v}) inner is m n ps w = bind_ends (is k i _ v) λ x y. came_out_lem m x y

    include_at_lem : (f : Deck.Found) → ((k : ℕ) → f ≡ Deck.line k → k < Deck.count d) → (l : Level) → FairLevel l → (p m n : ℕ) → At d m p → (ps : List Place) (w : World) → Ends (Stopped d) (include_at mixed f l d p m n ps w next)
    include_at_lem Deck.none i l is p m n j ps w = stops (tt, j)
    include_at_lem (Deck.line k) i no_level is p m n j ps w = stops (tt, j)
    include_at_lem (Deck.line k) i (level inner) is p m n j ps w = include_entered_lem k (i k refl) (enter_ends (body_of d k) k w) inner is m n ps w

  module _ (l : Level) (is : FairLevel l) where
    include_all_lem : (p m n : ℕ) → At d m p → (ps : List Place) (xs : List Deck.Sought) (w : World) → Ends (Stopped d) (include_all mixed l d p m n ps xs w)
    unfolding include_all
    include_all_lem p m n i ps [] w = well
    include_all_lem p m n i ps (x ∷ xs) w = include_at_lem _ (include_all_lem p m n i ps xs) (Deck.find mixed x 0 (Deck.lines d)) (find_low d x) l is p m n i ps w

    deed_ends : (m p : ℕ) {r : Res Why (Unit {0})} → At d m p → Fair r → Ends (Stopped d) (placed (R.stop m p) (R.deed r))
    deed_ends m p i h = placed_ends _ (λ e k. (k, i)) (bind_ends h λ _ v. well)

    act_as_lem : (s : Statement) (p m n : ℕ) → At d m p → (ps : List Place) (w : World) → Ends (Stopped d) (act_as mixed s l d p m n ps w)
    act_as_lem null p m n i ps w = well
    act_as_lem (declare ns) p m n i ps w = deed_ends m p i (activate_all_lem rescanned ns w)
    act_as_lem (procedure ns t) p m n i ps w = well
    act_as_lem (assign t x) p m n i ps w = well
    act_as_lem (conditional x) p m n i ps w = well
    act_as_lem group p m n i ps w = well
    act_as_lem (iterated t x bs) p m n i ps w = well
    act_as_lem (goto t) p m n i ps w = well
    act_as_lem (include ns) p m n i ps w = include_all_lem p m n i ps ns w
    act_as_lem (activate xs) p m n i ps w = deed_ends m p i (activations_end xs w)
    act_as_lem (deactivate ns) p m n i ps w = deed_ends m p i (activate_all_lem inactive ns w)
    act_as_lem (return x) p m n i ps w = well

    source_ends : (m : ℕ) → m < Deck.count d → (ps : List Place) (w : World) → Ends (Stopped d) (run_source mixed l d m ps (read_member mixed (body_of d m)) w)
    unfolding run_source member_machine
    source_ends m i ps w =
        let b : List ℕ = body_of d m in
        let s : Source = read_member mixed b in
        let M : Machine Stop = member_machine mixed l d m ps s in
        let at : (n : ℕ) → At d m (row_of s.rows n).place = λ n. (i, row_place b s.rows n (member_read b).rows) in
        let faults : (n : ℕ) (e : Why) → Late e → Stopped d (M.fault (row_of M.rows n) e) = λ n e h. (h, at n) in
        let values : (x : Tree) (v : World) → Fair (M.value x v) = λ x v. evaluate_ends call_out call_out_lem W.everyone x 0 v in
        let outs : (x : Stretch) (v : World) → Ordered b x → Ends (Stopped d) (M.out x v) = λ x v o. text_out_lem d m x v i o in
        let acts : (n : ℕ) (v : World) → Ends (Stopped d) (M.act n v) = λ n v. act_as_lem (row_of s.rows n).statement _ m n (at n) ps v in
        let gotos : (n : ℕ) (t : List ℕ) (v : World) → Ends (Stopped d) (M.jump n t v) = λ n t v. placed_ends _ (λ e h. (h, at n)) (jump_from_lem (address_of t W.everyone v) m s.rows ps n v) in
        bind_ends (lead_out_lem (Stopped d) M (Ordered b) (text_ordered b) (lead_ordered b) faults values outs acts gotos s.lead w (member_ordered b))
        λ _ v. run_on_lem (Stopped d) M (Ordered b) (text_ordered b) (lead_ordered b) faults values outs acts gotos _ _ [] v

  member_ends : (n : ℕ) → FairInner (run_member mixed n d)
  unfolding run_member
  member_ends zero m i ps w = source_ends no_level tt m i ps w
  member_ends (suc n) m i ps w = source_ends (level (run_member mixed n d)) (member_ends n) m i ps w

-- ---- THE EXPANSION
-- not the number of a refusal before the run
abbrev Later : ℕ → Type 0
Later n = (n ≡ 1 → ⊥) × (n ≡ 2 → ⊥) × (n ≡ 20 → ⊥)

late_number : (e : Why) → Late e → Later (number_of e)
late_number Y.MalformedDeck h = absurd h
late_number Y.ShortRoom h = absurd h
late_number Y.Syntax h = (λ n. omega arith, λ n. omega arith, λ n. omega arith)
late_number Y.OverLimit h = (λ n. omega arith, λ n. omega arith, λ n. omega arith)
late_number Y.DeclaredTwice h = (λ n. omega arith, λ n. omega arith, λ n. omega arith)
late_number Y.WrongName h = (λ n. omega arith, λ n. omega arith, λ n. omega arith)
late_number Y.NoValue h = (λ n. omega arith, λ n. omega arith, λ n. omega arith)
late_number Y.NoConversion h = (λ n. omega arith, λ n. omega arith, λ n. omega arith)
late_number Y.OutOfRange h = (λ n. omega arith, λ n. omega arith, λ n. omega arith)
late_number Y.ZeroDivisor h = (λ n. omega arith, λ n. omega arith, λ n. omega arith)
late_number Y.WrongArguments h = (λ n. omega arith, λ n. omega arith, λ n. omega arith)
late_number Y.WronglyRun h = (λ n. omega arith, λ n. omega arith, λ n. omega arith)
late_number Y.WrongGoto h = (λ n. omega arith, λ n. omega arith, λ n. omega arith)
late_number Y.UnknownMember h = (λ n. omega arith, λ n. omega arith, λ n. omega arith)
late_number Y.TooDeep h = (λ n. omega arith, λ n. omega arith, λ n. omega arith)
late_number Y.TooLong h = (λ n. omega arith, λ n. omega arith, λ n. omega arith)
late_number Y.RoomFull h = (λ n. omega arith, λ n. omega arith, λ n. omega arith)
late_number Y.NoStep h = (λ n. omega arith, λ n. omega arith, λ n. omega arith)
late_number Y.SubstrOutside h = (λ n. omega arith, λ n. omega arith, λ n. omega arith)
late_number Y.UnevenBody h = absurd h

zero_later : Later 0
zero_later = (λ n. omega arith, λ n. omega arith, λ n. omega arith)

record Known (d : List ℕ) (x : Expansion) : Type 0 where
  number : Later x.number
  place : At d x.member x.offset

module _ (d : List ℕ) (s : is_sound mixed d ≡ true) where
  finished_known : (w : World) → Known d (finished w)
  finished_known w = record { number = zero_later; place = (main_low d s, omega arith) }

  result_known : {r : Res Stop End} → Ends (Stopped d) r → Known d (result r)
  result_known (well {a = ran} {w}) = finished_known w
  result_known (well {a = returned v} {w}) = finished_known w
  result_known (well {a = went t} {w}) = finished_known w
  result_known (stops {e} h) = record { number = late_number e.why h.0; place = h.1 }

  main_known : {x : Entering} → Enters (body_of d 0) x → Known d (run_main mixed x d)
  main_known (is_late {e} h i) = record { number = late_number e h; place = (main_low d s, i) }
  main_known (is_entered {w}) = result_known (member_ends d include_levels 0 (main_low d s) [] w)

  run_known : (y : Layout) (t l steps : ℕ) → Known d (ran_in y d t l steps)
  run_known y t l steps = main_known (enter_ends (body_of d 0) 0 (world_for y t l steps))

  -- THE PLACE of a refusal, before it is told
  pub ran_near : (y : Layout) (t l steps : ℕ) → (ran_in y d t l steps).offset < 65536
  ran_near y t l steps =
      let h : At d (ran_in y d t l steps).member (ran_in y d t l steps).offset = (run_known y t l steps).place in
      omega (arith, h.1, body_short d s (ran_in y d t l steps).member h.0)

-- ---- bodies of a deck
body_size : (d : List ℕ) (m : ℕ) → length (body_of d m) ≡ (Deck.line_at d m).size
unfolding body_of
body_size d m = length_part (Deck.line_at d m).size (Deck.line_at d m).offset d

uneven_by : (b : Bool) (d : List ℕ) (i n k : ℕ) → cond b (uneven (suc i) (Deck.lines_from d (suc i) n)) (Deck.line i) ≡ Deck.line k → (uneven (suc i) (Deck.lines_from d (suc i) n) ≡ Deck.line k → k < suc i + n) → k < i + suc n
uneven_by true d i n k e h = omega (arith, h e)
uneven_by false d i n k e h = let z : i ≡ k = cc in omega arith

uneven_found : (d : List ℕ) (i n k : ℕ) → uneven i (Deck.lines_from d i n) ≡ Deck.line k → k < i + n
unfolding uneven Deck.lines_from
uneven_found d i zero k e = let z : ◌≡◌ {A = ℕ} 0 1 = cc in absurd (omega arith)
uneven_found d i (suc n) k e = uneven_by (eqb ((Deck.line_at d i).size % 80) 0) d i n k e (uneven_found d (suc i) n k)

uneven_low : (y : Layout) (d : List ℕ) (k : ℕ) → uneven_in y d ≡ Deck.line k → k < Deck.count d
uneven_low plain d k e = let z : ◌≡◌ {A = ℕ} 0 1 = cc in absurd (omega arith)
uneven_low cards d k e = omega (arith, uneven_found d 0 (Deck.count d) k e)

-- ---- as it is told
-- a place of the joined columns of n records is told in them
pub given_most : (n p : ℕ) → p ≤ 71 * n → given (71 * n) p ≤ 80 * n
unfolding given
given_most n p h = cond_has (λ q. q ≤ 80 * n) (eqb p (71 * n)) _ _ (λ e. omega (arith, eqb-true p (71 * n) e)) λ e. omega (arith, eqb-false p (71 * n) e)

told_number : (y : Layout) (d : List ℕ) (x : Expansion) → (told_as y d x).number ≡ x.number
told_number plain d x = refl
told_number cards d x = refl

-- the place of what was run for d, as it is told, in d
told_place : (y : Layout) (d : List ℕ) → is_sound mixed d ≡ true → (x : Expansion) → At (ran_deck y d) x.member x.offset → At d (told_as y (ran_deck y d) x).member (told_as y (ran_deck y d) x).offset
told_place plain d s x h = h
told_place cards d s x h =
    let i : x.member < Deck.count d = omega (arith, h.0, count_joined d s) in
    let n : ℕ = (Deck.line_at d x.member).size / 80 in
    let e : size_in (joined d) x.member ≡ 71 * n = size_joined d s x.member i in
    let most : given (71 * n) x.offset ≤ 80 * n = given_most n x.offset (omega (arith, h.1, length_body d s x.member i)) in
    (i, cond_has (λ p. p ≤ length (body_of d x.member)) (eqb x.number 0) _ _ (λ _. omega arith) λ _. rw e (omega (arith, most, body_size d x.member)))

-- ---- number 1 is given for a malformed deck alone, 20 for the first uneven body of a sound one, and 2 for a sound and even one with a
-- short working room
record Numbers (y : Layout) (roomy : Bool) (d : List ℕ) (x : Expansion) : Type 0 where
  one : x.number ≡ 1 → is_sound mixed d ≡ false
  twenty : x.number ≡ 20 → (is_sound mixed d ≡ true) × (uneven_in y d ≡ Deck.line x.member)
  two : x.number ≡ 2 → (is_sound mixed d ≡ true) × (uneven_in y d ≡ Deck.none) × (roomy ≡ false)

module _ (y : Layout) (roomy : Bool) (d : List ℕ) (t l steps : ℕ) where
  ran_later : is_sound mixed d ≡ true → Later (told_as y (ran_deck y d) (ran_in y (ran_deck y d) t l steps)).number
  ran_later s = rw (told_number y (ran_deck y d) (ran_in y (ran_deck y d) t l steps)) (run_known (ran_deck y d) (ran_sound y d s) y t l steps).number

  numbers : Numbers y roomy d (expansion_of mixed y roomy d t l steps)
  numbers =
      each_way (Numbers y roomy d) y roomy d t l steps
      (λ s. record { one = λ _. s; twenty = λ n. absurd (omega (arith, n)); two = λ n. absurd (omega (arith, n)) })
      (λ k s e. record { one = λ n. absurd (omega (arith, n)); twenty = λ _. (s, e); two = λ n. absurd (omega (arith, n)) })
      (λ s e r. record { one = λ n. absurd (omega (arith, n)); twenty = λ n. absurd (omega (arith, n)); two = λ _. (s, e, r) })
      λ s e r. record { one = λ n. absurd ((ran_later s).0 n); twenty = λ n. absurd ((ran_later s).2 n); two = λ n. absurd ((ran_later s).1 n) }

  pub one_malformed : (expansion_of mixed y roomy d t l steps).number ≡ 1 → is_sound mixed d ≡ false
  one_malformed n = numbers.one n

  pub twenty_uneven : (expansion_of mixed y roomy d t l steps).number ≡ 20 → (is_sound mixed d ≡ true) × (uneven_in y d ≡ Deck.line (expansion_of mixed y roomy d t l steps).member)
  twenty_uneven n = numbers.twenty n

  pub two_short : (expansion_of mixed y roomy d t l steps).number ≡ 2 → (is_sound mixed d ≡ true) × (uneven_in y d ≡ Deck.none) × (roomy ≡ false)
  two_short n = numbers.two n

  -- THE PLACE that is told lies in the body as given, at most behind its last byte
  pub place_within : is_sound mixed d ≡ true → ((expansion_of mixed y roomy d t l steps).member < Deck.count d) × ((expansion_of mixed y roomy d t l steps).offset ≤ length (body_of d (expansion_of mixed y roomy d t l steps).member))
  place_within s =
      each_way (λ (x : Expansion). At d x.member x.offset) y roomy d t l steps
      (λ _. (main_low d s, omega arith)) (λ k _ e. (uneven_low y d k e, omega arith)) (λ _ _ _. (main_low d s, omega arith))
      λ _ _ _. told_place y d s (ran_in y (ran_deck y d) t l steps) (run_known (ran_deck y d) (ran_sound y d s) y t l steps).place

  pub offset_near : (expansion_of mixed y roomy d t l steps).offset < 65536
  offset_near = go (is_sound mixed d) refl
    where
      go : (b : Bool) → is_sound mixed d ≡ b → (expansion_of mixed y roomy d t l steps).offset < 65536
      go false s = rw (malformed_is roomy d t l steps y s) (omega arith)
      go true s =
          let h : At d (expansion_of mixed y roomy d t l steps).member (expansion_of mixed y roomy d t l steps).offset = place_within s in
          omega (arith, h.1, body_short d s (expansion_of mixed y roomy d t l steps).member h.0)
