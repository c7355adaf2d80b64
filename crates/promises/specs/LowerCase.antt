-- 02, C-15: "A deck without lower-case letters outside strings and comments, in its member names, sources and values, keeps
-- its answer, text and list": those of the expansion with 01's letters. 'Values' are the texts that a run scans by
-- themselves: values, and arguments, which are parts of such a text or of a source. Whether one of them has such a letter is
-- asked of a run that is the definition's but for one thing: where it is to scan such a text, it ends at a bar.
use Rattle.std.specs.Prelude.{ℕ, zero, suc, ◌+◌, ◌-◌, ◌<◌, Bool, true, false, cond, not, ◌&&◌, List, [], ◌∷◌, ◌≡◌, leb, eqb, length}
use Prim.Native.Char.{code}
use Rattle.definition.specs.declared.Layout.{Layout}
use Rattle.definition.specs.declared.Layout.TheVariants.{Plain as plain, Cards as cards}
use Rattle.definition.specs.declared.Why.{Why}
use Rattle.definition.specs.declared.Why.TheVariants.{MalformedDeck as malformed_deck, TooDeep as too_deep, RoomFull as room_full}
use Rattle.definition.specs.Bytes.{capitals, mixed, is_small}
use Rattle.definition.specs.Choice.{when}
use Rattle.definition.specs.Limits.{include_levels, replacement_levels}
use Rattle.definition.specs.Lists.{part, all}
use Rattle.definition.specs.Deck as Deck
use Rattle.definition.specs.Cards.{joined}
use Rattle.definition.specs.Tokens.{piece_at}
use Rattle.definition.specs.Program.{Stretch, Source}
use Rattle.definition.specs.Reading.{read_member}
use Rattle.definition.specs.Events.{blank, replaced}
use Rattle.definition.specs.World.{Activity, Pass, began, World, Res, good, bad, bind, placed, charge, denotation, with_event}
use Rattle.definition.specs.Names.{Entering, entered, unreadable, enter}
use Rattle.definition.specs.Flow.{End, Machine, lead_out, run_on}
use Rattle.definition.specs.Calls.{Place, call_out, first_of}
use Rattle.definition.specs.Scan.{Active, not_active, active, active_in, to_text, Scanner, Replacer, replace_as, scan_with}
use Rattle.definition.specs.Run.{Stop, stop, body_of, put_out, copy_here, pass_of, Inner, Level, no_level, level, member_machine}
use Rattle.definition.specs.Expansion.{Expansion, refusal, result, world_for, expansion_of}

-- ---- "outside strings and comments"
-- where a byte of a text stands, by the bytes before it: outside, and there directly behind a `/`; in a string; in a
-- comment, and there directly behind a `*`
pub data Stand : Type 0 where
  outside : Stand
  behind_slash : Stand
  in_string : Stand
  in_comment : Stand
  behind_star : Stand

-- where the byte behind the byte b stands
abbrev pub begun : ℕ → Stand
begun b = cond (eqb b (code "'")) in_string (cond (eqb b (code "/")) behind_slash outside)

abbrev pub next : Stand → ℕ → Stand
next outside b = begun b
next behind_slash b = cond (eqb b (code "*")) in_comment (begun b)
next in_string b = cond (eqb b (code "'")) outside in_string
next in_comment b = cond (eqb b (code "*")) behind_star in_comment
next behind_star b = cond (eqb b (code "/")) outside (cond (eqb b (code "*")) behind_star in_comment)

abbrev pub is_outside : Stand → Bool
is_outside outside = true
is_outside behind_slash = true
is_outside in_string = false
is_outside in_comment = false
is_outside behind_star = false

-- no byte outside is a lower-case letter
unfoldable pub is_bare_from : Stand → List ℕ → Bool
is_bare_from x [] = true
is_bare_from x (b ∷ l) = not (is_outside x && is_small mixed b) && is_bare_from (next x b) l

abbrev pub is_bare : List ℕ → Bool
is_bare t = is_bare_from outside t

-- ---- "in its member names": and those of its libraries
abbrev pub has_none : List ℕ → Bool
has_none n = all (λ b. not (is_small mixed b)) n

unfoldable pub are_bare : List Deck.Line → Bool
are_bare [] = true
are_bare (l ∷ ls) = (has_none l.library && has_none l.name) && are_bare ls

abbrev pub BareNames : List ℕ → Type 0
BareNames d = are_bare (Deck.lines d) ≡ true

-- ---- "sources"
abbrev pub BareSources : List ℕ → Type 0
BareSources d = (k : ℕ) → k < Deck.count d → is_bare (body_of d k) ≡ true

-- ---- "and values": `Scan.replacer` and `Run.replaceHere` to `Run.runMember`, with the one test more. At the bar a run ends
-- with 1, with which no run ends
abbrev pub scan_but : Replacer → Scanner
scan_but replace into t u w = when (is_bare t) (λ _. scan_with mixed replace into t u w) (λ _. bad malformed_deck w.used)

unfoldable pub replacer_but : ℕ → Replacer
replacer_but zero t p a act into u w = bad too_deep w.used
replacer_but (suc n) t p a act into u w =
    replace_as mixed (denotation a w) call_out (scan_but (replacer_but n)) t p a act into u w

unfoldable pub replace_here_but : ℕ → ℕ → List ℕ → ℕ → ℕ → Activity → (List ℕ → ℕ → Pass) → World → Res Why ℕ
replace_here_but m place t q a act g w =
    when (leb 1 w.lines_left)
    (λ _. bind (replacer_but replacement_levels t q a act (to_text w.text_left) 0 w) λ r v.
    good r.to (with_event (replaced m place r.bytes) (g r.bytes r.to) 1 v))
    (λ _. bad room_full w.used)

abbrev pub token_here_but : Active → ℕ → ℕ → List ℕ → ℕ → ℕ → (List ℕ → ℕ → Pass) → World → Res Why ℕ
token_here_but not_active m place t p q g w =
    bind (copy_here m place (part (q - p) p t) (g (part (q - p) p t) q) w) λ _ v. good q v
token_here_but (active a act) m place t p q g w = replace_here_but m place t q a act g w

unfoldable pub text_on_but : ℕ → ℕ → List ℕ → ℕ → ℕ → World → Res Stop (Unit {0})
text_on_but m from t zero p w = good tt w
text_on_but m from t (suc f) p w =
    when (leb (length t) p) (λ _. good tt w)
    (λ _. bind (placed (stop m (from + p)) (bind (charge w) λ _ v.
    token_here_but (active_in (piece_at mixed t p).piece v) m (from + p) t p (piece_at mixed t p).to
    (λ l q. pass_of m (from + p) (piece_at mixed t p).piece v l (from + q)) v)) λ q x.
    text_on_but m from t f q x)

unfoldable pub text_out_but : ℕ → List ℕ → Stretch → World → Res Stop (Unit {0})
text_out_but m s x w =
    bind (placed (stop m x.from) (put_out (blank m x.from) (began m x) 1 w)) λ _ v.
    text_on_but m x.from (part (x.to - x.from) x.from s) (suc (x.to - x.from)) 0 v

-- a member's machine, all but what goes out as it is
unfoldable pub machine_but : Level → List ℕ → ℕ → List Place → Source → Machine Stop
machine_but inner d m on s = record {
  rows = (member_machine mixed inner d m on s).rows;
  owner = (member_machine mixed inner d m on s).owner;
  fault = (member_machine mixed inner d m on s).fault;
  value = (member_machine mixed inner d m on s).value;
  waiting = (member_machine mixed inner d m on s).waiting;
  out = λ x w. text_out_but m (body_of d m) x w;
  act = (member_machine mixed inner d m on s).act;
  jump = (member_machine mixed inner d m on s).jump;
}

unfoldable pub run_source_but : Level → List ℕ → ℕ → List Place → Source → World → Res Stop End
run_source_but inner d m on s w =
    bind (lead_out (machine_but inner d m on s) s.lead w) λ _ v.
    run_on (machine_but inner d m on s) (v.limit - v.used) (first_of s.first) [] v

unfoldable pub run_but : ℕ → List ℕ → Inner
run_but zero d m on w = run_source_but no_level d m on (read_member mixed (body_of d m)) w
run_but (suc n) d m on w = run_source_but (level (run_but n d)) d m on (read_member mixed (body_of d m)) w

abbrev pub main_but : Entering → List ℕ → Expansion
main_but (unreadable e p) d = refusal e 0 p 0
main_but (entered w) d = result (run_but include_levels d 0 [] w)

abbrev pub BareValues : Layout → List ℕ → ℕ → ℕ → ℕ → Type 0
BareValues layout d text_room list_room steps =
    (main_but (enter 0 (read_member mixed (body_of d 0)) (world_for layout text_room list_room steps)) d).number ≡ 1 → ⊥

-- ---- the deck that is read: over cards, the joined one
abbrev pub as_read : Layout → List ℕ → List ℕ
as_read plain d = d
as_read cards d = joined d

-- KEEPS ITS ANSWER, TEXT AND LIST
abbrev pub KeepsCase : Type 0
KeepsCase =
    (layout : Layout) (roomy : Bool) (d : List ℕ) (text_room list_room steps : ℕ)
    → BareNames d → BareSources (as_read layout d) → BareValues layout (as_read layout d) text_room list_room steps
    → expansion_of mixed layout roomy d text_room list_room steps ≡ expansion_of capitals layout roomy d text_room list_room steps
