-- 01, "Scanning": values and arguments. "An active variable gives its value. An active entry with parameters needs `(`,
-- after blanks only, and arguments cut at outer commas. With RESCAN the value is scanned by itself; no name or argument
-- list crosses its edge. With NORESCAN it is copied." One step for each token scanned.
use Rattle.std.specs.Prelude.{ℕ, zero, suc, ◌+◌, ◌-◌, Bool, ◌&&◌, List, [], ◌∷◌, ◌++◌, leb, eqb, length, get_or, drop}
use Prim.Native.Char.{code}
use Rattle.definition.specs.Choice.{when}
use Rattle.definition.specs.Limits.{value_length, unfinished_bytes}
use Rattle.definition.specs.Lists.{part, leading}
use Rattle.definition.specs.Bytes.{Letters, is_blank}
use Rattle.definition.specs.Refusal.{Why, wrong_name, no_value, wrong_arguments, too_deep, too_long, room_full}
use Rattle.definition.specs.Tokens.{Piece, name, plain, unclosed, piece_at}
use Rattle.definition.specs.Values.{Value, characters, to_characters, convert, size_of}
use Rattle.definition.specs.World as W
use Rattle.definition.specs.World.{everyone, Denotation, variable_of, entry_of, label_at, builtin_name, Cell, Activity, inactive, rescanned, copied_only, Address, address, unknown, World, Res, good, bad, bind, ask, charge, address_of, denotation, value_at, activity_at}
use Rattle.definition.specs.Evaluate.{Parameter, Callee, callee, Call, put}

-- ---- where an outcome goes, with the bytes that may still be put there: the text room, or the room of unfinished
-- values
pub data Into : Type 0 where
  to_text : ℕ → Into
  to_work : ℕ → Into

-- n bytes after an outcome of k bytes, where u bytes are unfinished already
abbrev pub fits : Into → ℕ → ℕ → ℕ → Bool
fits (to_text room) u k n = leb (k + n) room
fits (to_work room) u k n = leb (k + n) room && leb (u + (k + n)) unfinished_bytes

abbrev pub full : Into → Why
full (to_text room) = room_full
full (to_work room) = too_long

-- the same after k bytes of outcome
abbrev pub after : Into → ℕ → Into
after (to_text room) k = to_text (room - k)
after (to_work room) k = to_work (room - k)

abbrev pub waiting : Into → ℕ → ℕ → ℕ
waiting (to_text room) u k = u
waiting (to_work room) u k = u + k

-- a scan of bytes by itself gives its outcome
abbrev pub Scanner : Type 0
Scanner = Into → List ℕ → ℕ → World → Res Why (List ℕ)

-- ---- active names: "Only identifiers can be replaced; one over 31 bytes in text names nothing", as none is declared
pub data Active : Type 0 where
  not_active : Active
  active : ℕ → Activity → Active

abbrev pub active_as : Activity → ℕ → Active
active_as inactive a = not_active
active_as rescanned a = active a rescanned
active_as copied_only a = active a copied_only

abbrev pub active_at : Address → World → Active
active_at unknown w = not_active
active_at (address a) w = active_as (activity_at a w) a

unfoldable pub active_name : List ℕ → World → Active
active_name n w = active_at (address_of n everyone w) w

-- ---- the characters of a value, rescanned or copied; of an inactive name there are none
abbrev pub outcome : Activity → Scanner → Into → ℕ → List ℕ → World → Res Why (List ℕ)
outcome inactive scan into u l w = good l w
outcome rescanned scan into u l w =
    when (leb (u + length l) unfinished_bytes) (λ _. scan into l (u + length l) w) (λ _. bad too_long w.used)
outcome copied_only scan into u l w = when (fits into u 0 (length l)) (λ _. good l w) (λ _. bad (full into) w.used)

-- ---- argument lists, from behind the entry's name at p
pub record Argument : Type 0 where
  pub from : ℕ
  pub to : ℕ

pub data Arguments : Type 0 where
  list_up_to : List Argument → ℕ → Arguments
  no_list : Arguments

-- "cut at outer commas, `()` being one empty argument": the argument that begins at `from`, with d parentheses open in
-- it
unfoldable pub cut_on : Letters → ℕ → List ℕ → ℕ → ℕ → List Argument → ℕ → Arguments
cut_on α zero t d from xs p = no_list
cut_on α (suc f) t d from xs p =
    when (leb (length t) p) (λ _. no_list)
    (λ _. when (eqb (get_or t p 0) (code "(")) (λ _. cut_on α f t (suc d) from xs (p + 1))
    (λ _. when (eqb (get_or t p 0) (code ")") && eqb d 0)
    (λ _. list_up_to (xs ++ record { from = from; to = p } ∷ []) (p + 1))
    (λ _. when (eqb (get_or t p 0) (code ")")) (λ _. cut_on α f t (d - 1) from xs (p + 1))
    (λ _. when (eqb (get_or t p 0) (code ",") && eqb d 0)
    (λ _. cut_on α f t d (p + 1) (xs ++ record { from = from; to = p } ∷ []) (p + 1))
    (λ _. cut_on α f t d from xs (piece_at α t p).to)))))

unfoldable pub list_at : Letters → List ℕ → ℕ → Arguments
list_at α t p =
    let q = p + length (leading is_blank (drop p t)) in
    when (eqb (get_or t q 0) (code "(")) (λ _. cut_on α (length t) t 0 (q + 1) [] (q + 1)) (λ _. no_list)

-- "each argument in turn is scanned, then converted"; there are as many as parameters
unfoldable pub scan_arguments : Scanner → List ℕ → List Parameter → List Argument → ℕ → World → Res Why (List Value)
scan_arguments scan t [] xs u w = good [] w
scan_arguments scan t (p ∷ ps) [] u w = good [] w
scan_arguments scan t (p ∷ ps) (x ∷ xs) u w =
    bind (scan (to_work value_length) (part (x.to - x.from) x.from t) u w) λ l v.
    bind (put u (convert p.type (characters l)) v) λ y z.
    bind (scan_arguments scan t ps xs (u + size_of y) z) λ ys r. good (y ∷ ys) r

-- ---- a replacement: its outcome, and the place behind it
pub record Replaced : Type 0 where
  pub bytes : List ℕ
  pub to : ℕ

-- of the name behind which t goes on at p, which stands for the address a
abbrev pub Replacer : Type 0
Replacer = List ℕ → ℕ → ℕ → Activity → Into → ℕ → World → Res Why Replaced

abbrev pub up_to : ℕ → Res Why (List ℕ) → Res Why Replaced
up_to p r = bind r λ l w. good (record { bytes = l; to = p }) w

unfoldable pub call_with : Call → Scanner → Activity → Into → ℕ → Callee → List Value → World → Res Why (List ℕ)
call_with run scan act into u c vs w = bind (run c vs u w) λ v y. outcome act scan into u (to_characters v) y

abbrev pub with_list : Call → Scanner → List ℕ → Activity → Into → ℕ → Callee → Arguments → World → Res Why Replaced
with_list run scan t act into u c no_list w = bad wrong_arguments w.used
with_list run scan t act into u c (list_up_to xs q) w =
    when (eqb (length xs) (length c.parameters))
    (λ _. bind (scan_arguments scan t c.parameters xs u w) λ vs y. up_to q (call_with run scan act into u c vs y))
    (λ _. bad wrong_arguments w.used)

-- "Without parameters nothing is read on."
unfoldable pub replace_entry : Letters → Call → Scanner → List ℕ → ℕ → Activity → Into → ℕ → Callee → World → Res Why Replaced
replace_entry α run scan t p act into u c w =
    when (eqb (length c.parameters) 0) (λ _. up_to p (call_with run scan act into u c [] w))
    (λ _. with_list run scan t act into u c (list_at α t p) w)

abbrev pub replace_cell : Cell → Scanner → ℕ → Activity → Into → ℕ → World → Res Why Replaced
replace_cell W.no_value scan p act into u w = bad no_value w.used
replace_cell (W.holds v) scan p act into u w = up_to p (outcome act scan into u (to_characters v) w)

abbrev pub replace_as : Letters → Denotation → Call → Scanner → List ℕ → ℕ → ℕ → Activity → Into → ℕ → World → Res Why Replaced
replace_as α (variable_of k) run scan t p a act into u w = replace_cell (value_at a w) scan p act into u w
replace_as α (entry_of e b) run scan t p a act into u w =
    bind (ask (callee b w) w) λ c v. replace_entry α run scan t p act into u c v
replace_as α (label_at m r x) run scan t p a act into u w = bad wrong_name w.used
replace_as α builtin_name run scan t p a act into u w = bad wrong_name w.used

-- ---- the tokens of a value or an argument, one after the other; `out` is the outcome so far
abbrev pub copy_token : Into → List ℕ → List ℕ → ℕ → ℕ → ℕ → World → (List ℕ → ℕ → World → Res Why (List ℕ))
    → Res Why (List ℕ)
copy_token into t out u p q w on =
    when (fits into u (length out) (q - p)) (λ _. on (out ++ part (q - p) p t) q w) (λ _. bad (full into) w.used)

abbrev pub token : Active → Replacer → Into → List ℕ → List ℕ → ℕ → ℕ → ℕ → World
    → (List ℕ → ℕ → World → Res Why (List ℕ)) → Res Why (List ℕ)
token not_active replace into t out u p q w on = copy_token into t out u p q w on
token (active a act) replace into t out u p q w on =
    bind (replace t q a act (after into (length out)) (waiting into u (length out)) w) λ r v.
    on (out ++ r.bytes) r.to v

abbrev pub active_in : Piece → World → Active
active_in (name n) w = active_name n w
active_in plain w = not_active
active_in unclosed w = not_active

-- f is more than the turns
unfoldable pub scan_on : Letters → Replacer → Into → List ℕ → ℕ → ℕ → List ℕ → ℕ → World → Res Why (List ℕ)
scan_on α replace into t u zero out p w = good out w
scan_on α replace into t u (suc f) out p w =
    when (leb (length t) p) (λ _. good out w)
    (λ _. bind (charge w) λ _ v.
    token (active_in (piece_at α t p).piece v) replace into t out u p (piece_at α t p).to v
    (λ o q x. scan_on α replace into t u f o q x))

abbrev pub scan_with : Letters → Replacer → Scanner
scan_with α replace into t u w = scan_on α replace into t u (suc (length t)) [] 0 w

-- "A replacement in program text is level 1; one met while scanning a value or an argument is one deeper": n levels are
-- left
unfoldable pub replacer : Letters → Call → ℕ → Replacer
replacer α run zero t p a act into u w = bad too_deep w.used
replacer α run (suc n) t p a act into u w = replace_as α (denotation a w) run (scan_with α (replacer α run n)) t p a act into u w
