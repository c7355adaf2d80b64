-- 01, "Running": members. "Text parts run in order. After the sentence comes one blank, then its text is scanned, even
-- if empty." INCLUDE, ACTIVATE, DEACTIVATE, DECLARE, and GOTO between members. A refusal gets its place here: "the `%`
-- of the innermost statement outside procedures, or the token in program text; for an inserted blank, its text's
-- start".
use Rattle.std.specs.Prelude.{ℕ, zero, suc, ◌+◌, ◌-◌, Bool, cond, ◌&&◌, List, [], ◌∷◌, leb, eqb, length}
use Rattle.definition.specs.Bytes.{Letters}
use Rattle.definition.specs.Choice.{when}
use Rattle.definition.specs.Limits.{replacement_levels}
use Rattle.definition.specs.Lists.{part}
use Rattle.definition.specs.Refusal.{Why, wrong_name, wrong_goto, unknown_member, too_deep, room_full}
use Rattle.definition.specs.Deck as Deck
use Rattle.definition.specs.Tokens.{Piece, piece_at}
use Rattle.definition.specs.Program.{Activation, Statement, null, declare, procedure, assign, conditional, group, iterated, goto, include, activate, deactivate, return, Stretch, Row, Source}
use Rattle.definition.specs.Reading.{read_member}
use Rattle.definition.specs.Events.{Event, blank, copied, replaced, bytes_in, joins}
use Rattle.definition.specs.Cards.{takes}
use Rattle.definition.specs.World.{everyone, Denotation, variable_of, entry_of, label_at, builtin_name, Activity, inactive, rescanned, copied_only, Address, address, unknown, Pass, began, passed as passed_by, World, Res, good, bad, bind, placed, charge, address_of, denotation, set_activity, with_event, row_of, rows_of}
use Rattle.definition.specs.Names.{Entering, entered, unreadable, enter}
use Rattle.definition.specs.Evaluate.{evaluate}
use Rattle.definition.specs.Calls.{Place, call_out, first_of}
use Rattle.definition.specs.Flow.{Jump, to_row, to_end, away, Deed, passed, jumps, End, ran, returned, went, Machine, lead_out, run_on, may_go}
use Rattle.definition.specs.Scan.{Active, not_active, active, active_in, to_text, replacer}

-- a refusal with its place
pub record Stop : Type 0 where
  pub why : Why
  pub member : ℕ
  pub place : ℕ

abbrev pub stop : ℕ → ℕ → Why → Stop
stop m p e = record { why = e; member = m; place = p }

abbrev pub line_of : List ℕ → ℕ → Deck.Line
line_of d m = Deck.line_at d m

-- the body of a member of the deck d
unfoldable pub body_of : List ℕ → ℕ → List ℕ
body_of d m = part (line_of d m).size (line_of d m).offset d

-- ---- events go out if the rooms hold them: "list before text"
-- an event that takes some lines, with its pass
unfoldable pub put_out : Event → Pass → ℕ → World → Res Why (Unit {0})
put_out e g taken w =
    when (leb taken w.lines_left && leb (length (bytes_in e)) w.text_left) (λ _. good tt (with_event e g taken w))
    (λ _. bad room_full w.used)

-- ---- program text: the text t of member m, which begins at `from`
-- "A stretch takes its line at its first byte"
unfoldable pub copy_here : ℕ → ℕ → List ℕ → Pass → World → Res Why (Unit {0})
copy_here m place l g w =
    put_out (copied m place l) g (takes w.layout (joins w.events m place) place l) w

-- "a replacement at its name"; g is its pass by its outcome and where the scan goes on
unfoldable pub replace_here : Letters → ℕ → ℕ → List ℕ → ℕ → ℕ → Activity → (List ℕ → ℕ → Pass) → World → Res Why ℕ
replace_here α m place t q a act g w =
    when (leb 1 w.lines_left)
    (λ _. bind (replacer α call_out replacement_levels t q a act (to_text w.text_left) 0 w) λ r v.
    good r.to (with_event (replaced m place r.bytes) (g r.bytes r.to) 1 v))
    (λ _. bad room_full w.used)

-- the pass of the token x at a place of member m, in the world w: l goes out for it, and the scan goes on at the place
-- `to`
abbrev pub pass_of : ℕ → ℕ → Piece → World → List ℕ → ℕ → Pass
pass_of m place x w l to = passed_by (record {
  member = m;
  place = place;
  piece = x;
  identifiers = w.identifiers;
  denotations = w.denotations;
  activities = w.activities;
  members = w.members;
  outcome = l;
  to = to;
})

abbrev pub token_here : Letters → Active → ℕ → ℕ → List ℕ → ℕ → ℕ → (List ℕ → ℕ → Pass) → World → Res Why ℕ
token_here α not_active m place t p q g w =
    bind (copy_here m place (part (q - p) p t) (g (part (q - p) p t) q) w) λ _ v. good q v
token_here α (active a act) m place t p q g w = replace_here α m place t q a act g w

-- f is more than the turns
unfoldable pub text_on : Letters → ℕ → ℕ → List ℕ → ℕ → ℕ → World → Res Stop (Unit {0})
text_on α m from t zero p w = good tt w
text_on α m from t (suc f) p w =
    when (leb (length t) p) (λ _. good tt w)
    (λ _. bind (placed (stop m (from + p)) (bind (charge w) λ _ v.
    token_here α (active_in (piece_at α t p).piece v) m (from + p) t p (piece_at α t p).to
    (λ l q. pass_of m (from + p) (piece_at α t p).piece v l (from + q)) v)) λ q x.
    text_on α m from t f q x)

-- one blank, then the text
unfoldable pub text_out : Letters → ℕ → List ℕ → Stretch → World → Res Stop (Unit {0})
text_out α m s x w =
    bind (placed (stop m x.from) (put_out (blank m x.from) (began m x) 1 w)) λ _ v.
    text_on α m x.from (part (x.to - x.from) x.from s) (suc (x.to - x.from)) 0 v

-- ---- ACTIVATE, DEACTIVATE and DECLARE: of a variable or an entry, else 6
abbrev pub activated : Denotation → Activity → ℕ → World → Res Why (Unit {0})
activated (variable_of t) x a w = good tt (set_activity x a w)
activated (entry_of e b) x a w = good tt (set_activity x a w)
activated (label_at m r q) x a w = bad wrong_name w.used
activated builtin_name x a w = bad wrong_name w.used

abbrev pub activate_at : Address → Activity → World → Res Why (Unit {0})
activate_at (address a) x w = activated (denotation a w) x a w
activate_at unknown x w = bad wrong_name w.used

abbrev pub activate_name : Activity → List ℕ → World → Res Why (Unit {0})
activate_name x n w = activate_at (address_of n everyone w) x w

unfoldable pub activate_all : Activity → List (List ℕ) → World → Res Why (Unit {0})
activate_all x [] w = good tt w
activate_all x (n ∷ ns) w = bind (activate_name x n w) λ _ v. activate_all x ns v

unfoldable pub activations : List Activation → World → Res Why (Unit {0})
activations [] w = good tt w
activations (a ∷ as') w =
    bind (activate_name (cond a.is_copied copied_only rescanned) a.spelling w) λ _ v. activations as' v

-- ---- GOTO outside procedures; `on` are the members that are running below this one, each with the row where it stands
abbrev pub landing : ℕ → Bool → Jump
landing r is_end = cond is_end (to_end r) (to_row r)

unfoldable pub jump_away : List Place → ℕ → ℕ → Bool → World → Res Why Jump
jump_away [] m r is_end w = bad wrong_goto w.used
jump_away (p ∷ ps) m r is_end w =
    when (eqb p.member m)
    (λ _. when (may_go (rows_of m w) p.row r is_end)
    (λ _. good (away (record { member = m; row = r; is_end = is_end })) w) (λ _. bad wrong_goto w.used))
    (λ _. jump_away ps m r is_end w)

unfoldable pub jump_label : ℕ → List Row → List Place → ℕ → ℕ → ℕ → Bool → World → Res Why Jump
jump_label here rs on n m r is_end w =
    when (eqb m here)
    (λ _. when (may_go rs n r is_end) (λ _. good (landing r is_end) w) (λ _. bad wrong_goto w.used))
    (λ _. jump_away on m r is_end w)

abbrev pub jump_by : Denotation → ℕ → List Row → List Place → ℕ → World → Res Why Jump
jump_by (variable_of t) here rs on n w = bad wrong_name w.used
jump_by (entry_of e b) here rs on n w = bad wrong_name w.used
jump_by (label_at m r is_end) here rs on n w = jump_label here rs on n m r is_end w
jump_by builtin_name here rs on n w = bad wrong_name w.used

abbrev pub jump_from : Address → ℕ → List Row → List Place → ℕ → World → Res Why Jump
jump_from (address a) here rs on n w = jump_by (denotation a w) here rs on n w
jump_from unknown here rs on n w = bad wrong_name w.used

-- ---- INCLUDE: "tests 14, 15, then the member". `inner` runs a member one level deeper, if there is one
abbrev pub Inner : Type 0
Inner = ℕ → List Place → World → Res Stop End

pub data Level : Type 0 where
  no_level : Level
  level : Inner → Level

-- what comes out of an included member, in member m; RETURN stands in procedures alone, so that `returned` is not met
abbrev pub came_out : ℕ → End → World → (World → Res Stop Deed) → Res Stop Deed
came_out m ran w next = next w
came_out m (returned v) w next = next w
came_out m (went t) w next = good (jumps (cond (eqb t.member m) (landing t.row t.is_end) (away t))) w

abbrev pub include_entered : Entering → Inner → ℕ → ℕ → ℕ → List Place → World → (World → Res Stop Deed) → Res Stop Deed
include_entered (unreadable e p) inner k m n on w next = bad (stop k p e) w.used
include_entered (entered v) inner k m n on w next =
    bind (inner k (record { member = m; row = n } ∷ on) v) λ x y. came_out m x y next

abbrev pub include_at : Letters → Deck.Found → Level → List ℕ → ℕ → ℕ → ℕ → List Place → World → (World → Res Stop Deed)
    → Res Stop Deed
include_at α Deck.none inner d p m n on w next = bad (stop m p unknown_member) w.used
include_at α (Deck.line k) no_level d p m n on w next = bad (stop m p too_deep) w.used
include_at α (Deck.line k) (level inner) d p m n on w next =
    include_entered (enter k (read_member α (body_of d k)) w) inner k m n on w next

unfoldable pub include_all : Letters → Level → List ℕ → ℕ → ℕ → ℕ → List Place → List Deck.Sought → World → Res Stop Deed
include_all α inner d p m n on [] w = good passed w
include_all α inner d p m n on (x ∷ xs) w =
    include_at α (Deck.find α x 0 (Deck.lines d)) inner d p m n on w (λ v. include_all α inner d p m n on xs v)

-- ---- what the statements of a member do that are no control; others do not come here
abbrev pub deed : Res Why (Unit {0}) → Res Why Deed
deed r = bind r λ _ w. good passed w

abbrev pub act_as : Letters → Statement → Level → List ℕ → ℕ → ℕ → ℕ → List Place → World → Res Stop Deed
act_as α null inner d p m n on w = good passed w
act_as α (declare ns) inner d p m n on w = placed (stop m p) (deed (activate_all rescanned ns w))
act_as α (procedure ns t) inner d p m n on w = good passed w
act_as α (assign t x) inner d p m n on w = good passed w
act_as α (conditional x) inner d p m n on w = good passed w
act_as α group inner d p m n on w = good passed w
act_as α (iterated t x bs) inner d p m n on w = good passed w
act_as α (goto t) inner d p m n on w = good passed w
act_as α (include ns) inner d p m n on w = include_all α inner d p m n on ns w
act_as α (activate xs) inner d p m n on w = placed (stop m p) (deed (activations xs w))
act_as α (deactivate ns) inner d p m n on w = placed (stop m p) (deed (activate_all inactive ns w))
act_as α (return x) inner d p m n on w = good passed w

-- ---- a member
unfoldable pub member_machine : Letters → Level → List ℕ → ℕ → List Place → Source → Machine Stop
member_machine α inner d m on s = record {
  rows = s.rows;
  owner = everyone;
  fault = λ r e. stop m r.place e;
  value = λ x w. evaluate call_out everyone x 0 w;
  waiting = 0;
  out = λ x w. text_out α m (body_of d m) x w;
  act = λ n w. act_as α (row_of s.rows n).statement inner d (row_of s.rows n).place m n on w;
  jump = λ n t w. placed (stop m (row_of s.rows n).place) (jump_from (address_of t everyone w) m s.rows on n w);
}

unfoldable pub run_source : Letters → Level → List ℕ → ℕ → List Place → Source → World → Res Stop End
run_source α inner d m on s w =
    bind (lead_out (member_machine α inner d m on s) s.lead w) λ _ v.
    run_on (member_machine α inner d m on s) (v.limit - v.used) (first_of s.first) [] v

-- a member that was entered, with n include levels left
unfoldable pub run_member : Letters → ℕ → List ℕ → Inner
run_member α zero d m on w = run_source α no_level d m on (read_member α (body_of d m)) w
run_member α (suc n) d m on w = run_source α (level (run_member α n d)) d m on (read_member α (body_of d m)) w
